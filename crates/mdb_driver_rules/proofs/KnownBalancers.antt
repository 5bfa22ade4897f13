-- As many servers are known once the seeds are load balancers, and at most as many as seeds.
use Rattle.std.proofs.Common.{suc, ◌≡◌, ◌+◌, ◌≤◌, Bool, true, false, if◌then◌else◌, List, [], ◌∷◌, length, refl, sym, ◌∙◌, ap, subst, arith}
use Rattle.mdb_base.specs.AddressOrder.{is_before}
use Rattle.mdb_base.specs.Equality.{same_address}
use Rattle.mdb_base.specs.declared.address.ServerAddress.{ServerAddress}
use Rattle.mdb_base.specs.declared.options.Options.{Options}
use Rattle.mdb_hello.specs.declared.server_type.ServerType.TheVariants as Server
use Rattle.mdb_srv.specs.declared.topology_type.TopologyType.{TopologyType}
use Rattle.mdb_srv.specs.declared.topology_type.TopologyType.TheVariants as Kind
use Rattle.mdb_describe.specs.declared.description.ServerDescription.{ServerDescription}
use Rattle.mdb_describe.specs.declared.topology.TopologyDescription.{TopologyDescription}
use Rattle.mdb_describe.specs.Descriptions.{load_balancer, unknown}
use Rattle.mdb_describe.specs.Servers.{is_known, store, put, add, add_all}
use Rattle.mdb_describe.specs.Topology.{opened}
use Rattle.mdb_describe.specs.Update.{table, is_misnamed, stored, is_new, updated}
use Rattle.mdb_driver_rules.specs.Description.{with_balancers, begins_with}

length-store : (d : ServerDescription) (servers : List ServerDescription) → length (store d servers) ≡ length servers
length-store d [] = refl
length-store d (s ∷ servers) = on (same_address s.address d.address) refl (length-store d servers)
  where
    on : (b : Bool) → same_address s.address d.address ≡ b → length (store d servers) ≡ length servers → length (store d (s ∷ servers)) ≡ length (s ∷ servers)
    on true e deeper = rw e refl
    on false e deeper = rw e (ap suc deeper)

pub same-table : (kind : TopologyType) (t : TopologyDescription) (s : ServerDescription) → (table kind Server.LoadBalancer t s).servers ≡ t.servers
same-table Kind.Unknown t s = refl
same-table Kind.Sharded t s = refl
same-table Kind.ReplicaSetNoPrimary t s = refl
same-table Kind.ReplicaSetWithPrimary t s = refl
same-table Kind.Single t s = refl
same-table Kind.LoadBalanced t s = refl

pub named-well : (kind : TopologyType) (t : TopologyDescription) (a : ServerAddress) → is_misnamed kind t (load_balancer a) ≡ false
named-well Kind.Unknown t a = refl
named-well Kind.Sharded t a = refl
named-well Kind.ReplicaSetNoPrimary t a = refl
named-well Kind.ReplicaSetWithPrimary t a = refl
named-well Kind.Single t a = refl
named-well Kind.LoadBalanced t a = refl

length-updated : (t : TopologyDescription) (a : ServerAddress) → length (updated t (load_balancer a)).servers ≡ length t.servers
length-updated t a = on (is_new t (load_balancer a)) refl
  where
    on : (b : Bool) → is_new t (load_balancer a) ≡ b → length (updated t (load_balancer a)).servers ≡ length t.servers
    on true e = rw (e, named-well t.topology_type t a) (ap length (same-table t.topology_type (stored t (load_balancer a)) (load_balancer a)) ∙ length-store (load_balancer a) t.servers)
    on false e = rw e refl

length-balancers : (seeds : List ServerAddress) (t : TopologyDescription) → length (with_balancers seeds t).servers ≡ length t.servers
length-balancers [] t = refl
length-balancers (a ∷ more) t = length-balancers more (updated t (load_balancer a)) ∙ length-updated t a

length-put : (d : ServerDescription) (servers : List ServerDescription) → length (put d servers) ≡ 1 + length servers
length-put d [] = refl
length-put d (s ∷ servers) = on (is_before d.address s.address) refl (length-put d servers)
  where
    on : (b : Bool) → is_before d.address s.address ≡ b → length (put d servers) ≡ 1 + length servers → length (put d (s ∷ servers)) ≡ 1 + length (s ∷ servers)
    on true e deeper = rw e (omega arith)
    on false e deeper = rw e (omega arith)

length-add : (a : ServerAddress) (servers : List ServerDescription) → length (add a servers) ≤ 1 + length servers
length-add a servers = on (is_known a servers) refl
  where
    on : (b : Bool) → is_known a servers ≡ b → length (add a servers) ≤ 1 + length servers
    on true e = rw e (omega arith)
    on false e = rw e (let w : length (put (unknown a) servers) ≡ 1 + length servers = length-put (unknown a) servers in omega arith)

length-add_all : (hosts : List ServerAddress) (servers : List ServerDescription) → length (add_all hosts servers) ≤ length hosts + length servers
length-add_all [] servers = omega arith
length-add_all (a ∷ more) servers =
    let e1 : length (add_all more (add a servers)) ≤ length more + length (add a servers) = length-add_all more (add a servers) in
    let e2 : length (add a servers) ≤ 1 + length servers = length-add a servers in
    omega arith

pub few-opened : (o : Options) → length (opened o).servers ≤ length o.seeds
few-opened o = let e : length (add_all o.seeds []) ≤ length o.seeds + length {A = ServerDescription} [] = length-add_all o.seeds [] in omega arith

pub few-begun : (o : Options) → length (begins_with o).servers ≤ length o.seeds
few-begun o = on o.load_balanced
  where
    on : (b : Bool) → length (if b then with_balancers o.seeds (opened o) else opened o).servers ≤ length o.seeds
    on true = let w : length (with_balancers o.seeds (opened o)).servers ≡ length (opened o).servers = length-balancers o.seeds (opened o) in subst (λ n. n ≤ length o.seeds) (sym w) (few-opened o)
    on false = few-opened o
