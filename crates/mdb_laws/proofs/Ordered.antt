-- What a rule makes known is in the order of addresses.
use Rattle.std.proofs.Common.{◌≡◌, ◌||◌, Bool, true, false, not, refl}
use Rattle.mdb_base.specs.Equality.{same_address}
use Rattle.mdb_base.specs.declared.address.ServerAddress.{ServerAddress}
use Rattle.mdb_hello.specs.declared.server_type.ServerType.{ServerType}
use Rattle.mdb_hello.specs.declared.server_type.ServerType.TheVariants as Server
use Rattle.mdb_srv.specs.declared.topology_type.TopologyType.{TopologyType}
use Rattle.mdb_srv.specs.declared.topology_type.TopologyType.TheVariants as Kind
use Rattle.mdb_describe.specs.declared.description.ServerDescription.{ServerDescription}
use Rattle.mdb_describe.specs.declared.topology.TopologyDescription.{TopologyDescription}
use Rattle.mdb_describe.specs.Descriptions.{unknown}
use Rattle.mdb_describe.specs.Fields.{invalid_me}
use Rattle.mdb_describe.specs.Servers.{in_order, is_primary_type, forget_other_primaries}
use Rattle.mdb_describe.specs.Topology.{synced}
use Rattle.mdb_describe.specs.Update.{listed, stored, removed, add_listed, learn, names_other, removed_if_invalid, member_rule_a, member_rule_b, is_outdated, ranked, leads, primary_rule, with_maxima, single_or_removed, of_type, table, decided, is_misnamed, is_new, updated}
use Rattle.mdb_describe.proofs.InOrder.{stored_in_order, kept_in_order, forgotten_in_order, added_in_order, synced_in_order}
use Rattle.std.specs.Prelude.{List, ◌&&◌}

abbrev IsOrdered : TopologyDescription → Type 0
IsOrdered t = in_order t.servers ≡ true

module _ (s : ServerDescription) where
  removes : (t : TopologyDescription) → IsOrdered t → IsOrdered (removed t s)
  removes t e = kept_in_order (λ (x : ServerDescription). not (same_address x.address s.address)) t.servers e

  if-invalid : (t : TopologyDescription) → IsOrdered t → IsOrdered (removed_if_invalid t s)
  if-invalid t e = on (invalid_me s) refl
    where
      on : (b : Bool) → invalid_me s ≡ b → IsOrdered (removed_if_invalid t s)
      on true f = rw f (removes t e)
      on false f = rw f e

  rule-a : (t : TopologyDescription) → IsOrdered t → IsOrdered (member_rule_a t s)
  rule-a t e = on (names_other t s) refl
    where
      on : (b : Bool) → names_other t s ≡ b → IsOrdered (member_rule_a t s)
      on true f = rw f (removes t e)
      on false f = rw f (if-invalid (add_listed (learn t s) s) (added_in_order (listed s) t.servers e))

  rule-b : (t : TopologyDescription) → IsOrdered t → IsOrdered (member_rule_b t s)
  rule-b t e = on (names_other t s || invalid_me s) refl
    where
      on : (b : Bool) → names_other t s || invalid_me s ≡ b → IsOrdered (member_rule_b t s)
      on true f = rw f (removes t e)
      on false f = rw f e

  leading : (t : TopologyDescription) → IsOrdered t → IsOrdered (leads t s)
  leading t e = synced_in_order (listed s) (forget_other_primaries s.address t.servers)
      (forgotten_in_order (λ (x : ServerDescription). is_primary_type x.server_type && not (same_address x.address s.address)) t.servers e)

  ranks : (t : TopologyDescription) → IsOrdered t → IsOrdered (ranked t s)
  ranks t e = on (is_outdated t s) refl
    where
      on : (b : Bool) → is_outdated t s ≡ b → IsOrdered (ranked t s)
      on true f = rw f (forgotten_in_order (λ (x : ServerDescription). same_address x.address s.address) t.servers e)
      on false f = rw f (leading (with_maxima t s) e)

  primary : (t : TopologyDescription) → IsOrdered t → IsOrdered (primary_rule t s)
  primary t e = on (names_other t s) refl
    where
      on : (b : Bool) → names_other t s ≡ b → IsOrdered (primary_rule t s)
      on true f = rw f (removes t e)
      on false f = rw f (ranks (learn t s) e)

  single : (t : TopologyDescription) → IsOrdered t → IsOrdered (single_or_removed t s)
  single t e = on t.one_seed refl
    where
      on : (b : Bool) → t.one_seed ≡ b → IsOrdered (single_or_removed t s)
      on true f = rw f e
      on false f = rw f (removes t e)

  tabled : (kind : TopologyType) (v : ServerType) (t : TopologyDescription) → IsOrdered t → IsOrdered (table kind v t s)
  tabled Kind.Unknown Server.Standalone t e = single t e
  tabled Kind.Unknown Server.Mongos t e = e
  tabled Kind.Unknown Server.RsPrimary t e = primary t e
  tabled Kind.Unknown Server.RsSecondary t e = rule-a (of_type Kind.ReplicaSetNoPrimary t) e
  tabled Kind.Unknown Server.RsArbiter t e = rule-a (of_type Kind.ReplicaSetNoPrimary t) e
  tabled Kind.Unknown Server.RsOther t e = rule-a (of_type Kind.ReplicaSetNoPrimary t) e
  tabled Kind.Unknown Server.Unknown t e = e
  tabled Kind.Unknown Server.RsGhost t e = e
  tabled Kind.Unknown Server.LoadBalancer t e = e
  tabled Kind.Sharded Server.Standalone t e = removes t e
  tabled Kind.Sharded Server.Mongos t e = e
  tabled Kind.Sharded Server.RsPrimary t e = removes t e
  tabled Kind.Sharded Server.RsSecondary t e = removes t e
  tabled Kind.Sharded Server.RsArbiter t e = removes t e
  tabled Kind.Sharded Server.RsOther t e = removes t e
  tabled Kind.Sharded Server.Unknown t e = e
  tabled Kind.Sharded Server.RsGhost t e = removes t e
  tabled Kind.Sharded Server.LoadBalancer t e = e
  tabled Kind.ReplicaSetNoPrimary Server.Standalone t e = removes t e
  tabled Kind.ReplicaSetNoPrimary Server.Mongos t e = removes t e
  tabled Kind.ReplicaSetNoPrimary Server.RsPrimary t e = primary t e
  tabled Kind.ReplicaSetNoPrimary Server.RsSecondary t e = rule-a t e
  tabled Kind.ReplicaSetNoPrimary Server.RsArbiter t e = rule-a t e
  tabled Kind.ReplicaSetNoPrimary Server.RsOther t e = rule-a t e
  tabled Kind.ReplicaSetNoPrimary Server.Unknown t e = e
  tabled Kind.ReplicaSetNoPrimary Server.RsGhost t e = e
  tabled Kind.ReplicaSetNoPrimary Server.LoadBalancer t e = e
  tabled Kind.ReplicaSetWithPrimary Server.Standalone t e = removes t e
  tabled Kind.ReplicaSetWithPrimary Server.Mongos t e = removes t e
  tabled Kind.ReplicaSetWithPrimary Server.RsPrimary t e = primary t e
  tabled Kind.ReplicaSetWithPrimary Server.RsSecondary t e = rule-b t e
  tabled Kind.ReplicaSetWithPrimary Server.RsArbiter t e = rule-b t e
  tabled Kind.ReplicaSetWithPrimary Server.RsOther t e = rule-b t e
  tabled Kind.ReplicaSetWithPrimary Server.Unknown t e = e
  tabled Kind.ReplicaSetWithPrimary Server.RsGhost t e = e
  tabled Kind.ReplicaSetWithPrimary Server.LoadBalancer t e = e
  tabled Kind.Single v t e = e
  tabled Kind.LoadBalanced v t e = e

decides : (s : ServerDescription) (t : TopologyDescription) → IsOrdered t → IsOrdered (decided t s)
decides s t e = tabled s t.topology_type s.server_type (stored t s) (stored_in_order s t.servers e)

pub updates-ordered : (s : ServerDescription) (t : TopologyDescription) → IsOrdered t → in_order (updated t s).servers ≡ true
updates-ordered s t e = on (is_new t s) (is_misnamed t.topology_type t s) refl refl
  where
    on : (b c : Bool) → is_new t s ≡ b → is_misnamed t.topology_type t s ≡ c → IsOrdered (updated t s)
    on false c f g = rw f e
    on true true f g = rw (f, g) (decides (unknown s.address) t e)
    on true false f g = rw (f, g) (decides s t e)

pub syncs-ordered : (hosts : List ServerAddress) (t : TopologyDescription) → IsOrdered t → in_order (synced hosts t).servers ≡ true
syncs-ordered hosts t e = on t.topology_type refl
  where
    on : (kind : TopologyType) → t.topology_type ≡ kind → IsOrdered (synced hosts t)
    on Kind.Sharded f = rw f (synced_in_order hosts t.servers e)
    on Kind.Unknown f = rw f (synced_in_order hosts t.servers e)
    on Kind.Single f = rw f e
    on Kind.ReplicaSetNoPrimary f = rw f e
    on Kind.ReplicaSetWithPrimary f = rw f e
    on Kind.LoadBalanced f = rw f e
