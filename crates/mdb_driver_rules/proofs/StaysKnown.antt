-- A server that is marked Unknown stays known, is not ready, and no other one comes or goes.
use Rattle.std.proofs.Common.{◌≡◌, ◌&&◌, Bool, true, false, [], length, Option, Some, None, refl, sym, ◌∙◌, ap, subst}
use Rattle.mdb_base.specs.AddressOrder.{in_order as are_in_order}
use Rattle.mdb_base.specs.declared.address.ServerAddress.{ServerAddress}
use Rattle.mdb_base.specs.declared.error.Error.{Error}
use Rattle.mdb_hello.specs.declared.server_type.ServerType.TheVariants as Server
use Rattle.mdb_srv.specs.declared.topology_type.TopologyType.{TopologyType}
use Rattle.mdb_srv.specs.declared.topology_type.TopologyType.TheVariants as Kind
use Rattle.mdb_describe.specs.declared.description.ServerDescription.{ServerDescription}
use Rattle.mdb_describe.specs.declared.topology.TopologyDescription.{TopologyDescription}
use Rattle.mdb_describe.specs.declared.diff.Diff.{Diff}
use Rattle.mdb_describe.specs.Descriptions.{failed}
use Rattle.mdb_describe.specs.Differences.{changed, missing, difference}
use Rattle.mdb_describe.specs.Servers.{in_order, is_known, is_listed, store}
use Rattle.mdb_describe.specs.Topology.{server_at}
use Rattle.mdb_describe.specs.Update.{table, stored, is_misnamed, is_new, taken, updated}
use Rattle.mdb_describe.proofs.SameAsItself.{unchanged}
use Rattle.mdb_describe.proofs.Stored.{none-missing, store-addresses, store-at, store-known, store-length}
use Rattle.mdb_driver_rules.specs.Ready.{is_ready_type}
use Rattle.mdb_driver_rules.specs.Touching.{is_ready_server, is_ready_at, readies, touches, touched_by}
use Rattle.mdb_driver_rules.proofs.ServersThen.{of-difference}
use Rattle.mdb_driver_rules.proofs.ServersThen.{listed-missing}

unready-type : (kind : TopologyType) → is_ready_type kind Server.Unknown ≡ false
unready-type Kind.Single = refl
unready-type Kind.ReplicaSetNoPrimary = refl
unready-type Kind.ReplicaSetWithPrimary = refl
unready-type Kind.Sharded = refl
unready-type Kind.LoadBalanced = refl
unready-type Kind.Unknown = refl

and-never : (b : Bool) → b && false ≡ false
and-never true = refl
and-never false = refl

module _ (a : ServerAddress) (e : Error) where
  abbrev s : ServerDescription
  s = failed a e

  table-servers : (kind : TopologyType) (v : TopologyDescription) → (table kind Server.Unknown v s).servers ≡ v.servers
  table-servers Kind.Single v = refl
  table-servers Kind.ReplicaSetNoPrimary v = refl
  table-servers Kind.ReplicaSetWithPrimary v = refl
  table-servers Kind.Sharded v = refl
  table-servers Kind.LoadBalanced v = refl
  table-servers Kind.Unknown v = refl

  named-well : (kind : TopologyType) (t : TopologyDescription) → is_misnamed kind t s ≡ false
  named-well Kind.Single t = refl
  named-well _ t = refl

  module _ (t : TopologyDescription) where
    abbrev u : TopologyDescription
    u = updated t s

    taken-servers : (taken t s).servers ≡ store s t.servers
    taken-servers = rw (named-well t.topology_type t) (table-servers t.topology_type (stored t s))

    pub new-servers : is_new t s ≡ true → u.servers ≡ store s t.servers
    new-servers f = rw f taken-servers

    pub same-topology : is_new t s ≡ false → u ≡ t
    same-topology f = rw f refl

    -- the same servers are known
    pub marked-known : (b : ServerAddress) → is_known b u.servers ≡ is_known b t.servers
    marked-known b = on (is_new t s) refl
      where
        on : (c : Bool) → is_new t s ≡ c → is_known b u.servers ≡ is_known b t.servers
        on true f = ap (is_known b) (new-servers f) ∙ store-known s b t.servers
        on false f = ap (λ (v : TopologyDescription). is_known b v.servers) (same-topology f)

    -- and as many
    pub marked-length : length u.servers ≡ length t.servers
    marked-length = on (is_new t s) refl
      where
        on : (c : Bool) → is_new t s ≡ c → length u.servers ≡ length t.servers
        on true f = ap length (new-servers f) ∙ store-length s t.servers
        on false f = ap (λ (v : TopologyDescription). length v.servers) (same-topology f)

    -- in the same order
    pub marked-ordered : in_order u.servers ≡ in_order t.servers
    marked-ordered = on (is_new t s) refl
      where
        on : (c : Bool) → is_new t s ≡ c → in_order u.servers ≡ in_order t.servers
        on true f = ap in_order (new-servers f) ∙ ap are_in_order (store-addresses s t.servers)
        on false f = ap (λ (v : TopologyDescription). in_order v.servers) (same-topology f)

    -- none goes or comes
    pub none-gone : (d : Diff) → difference t.servers u.servers ≡ Some d → d.removed ≡ []
    none-gone d f = ap (λ (x : Diff). x.removed) (sym (of-difference (record { changed = changed t.servers u.servers; removed = missing t.servers u.servers; added = missing u.servers t.servers }) d f))
        ∙ none-missing t.servers u.servers (λ b k. marked-known b ∙ k)

    pub none-come : (d : Diff) → difference t.servers u.servers ≡ Some d → d.added ≡ []
    none-come d f = ap (λ (x : Diff). x.added) (sym (of-difference (record { changed = changed t.servers u.servers; removed = missing t.servers u.servers; added = missing u.servers t.servers }) d f))
        ∙ none-missing u.servers t.servers (λ b k. sym (marked-known b) ∙ k)

    module _ (known : is_known a t.servers ≡ true) (ordered : in_order t.servers ≡ true) where
      pub unready : is_new t s ≡ true → is_ready_at u a ≡ false
      unready f =
          let at : server_at a u.servers ≡ Some s = ap (server_at a) (new-servers f) ∙ store-at s t.servers known in
          ap (is_ready_server u.topology_type) at ∙ unready-type u.topology_type

      unreadied : readies u (changed t.servers u.servers) a ≡ false
      unreadied = on (is_new t s) refl
        where
          on : (c : Bool) → is_new t s ≡ c → readies u (changed t.servers u.servers) a ≡ false
          on true f = ap (λ c. is_listed (changed t.servers u.servers) a && c) (unready f) ∙ and-never (is_listed (changed t.servers u.servers) a)
          on false f =
              let none : changed t.servers u.servers ≡ [] = ap (λ (v : TopologyDescription). changed t.servers v.servers) (same-topology f) ∙ unchanged t.servers ordered in
              ap (λ xs. readies u xs a) none

      stays : is_listed (missing t.servers u.servers) a ≡ false
      stays = listed-missing a u.servers t.servers ∙ rw (known, marked-known a, known) refl

      was : is_listed (missing u.servers t.servers) a ≡ false
      was = listed-missing a t.servers u.servers ∙ rw (marked-known a, known) refl

      -- so what is told of it does not touch its pool
      pub untouched : (d : Option Diff) → difference t.servers u.servers ≡ d → touched_by u d a ≡ false
      untouched None f = refl
      untouched (Some d) f =
          subst (λ (x : Diff). touches u x a ≡ false) (of-difference (record { changed = changed t.servers u.servers; removed = missing t.servers u.servers; added = missing u.servers t.servers }) d f) (rw (unreadied, stays, was) refl)
