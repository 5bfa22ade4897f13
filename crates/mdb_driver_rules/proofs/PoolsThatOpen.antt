-- The pools that a publication opens, by the history.
use Rattle.std.proofs.Common.{ℕ, ◌≡◌, ◌+◌, Bool, true, false, if◌then◌else◌, List, [], ◌∷◌, ◌++◌, map, length, Some, refl, sym, ◌∙◌, ap, append-nil}
use Rattle.std.proofs.lemmas.List.{length-append, append_assoc}
use Rattle.mdb_base.specs.Equality.{same_address}
use Rattle.mdb_base.specs.declared.address.ServerAddress.{ServerAddress}
use Rattle.mdb_base.specs.declared.options.Options.{Options}
use Rattle.mdb_describe.specs.declared.description.ServerDescription.{ServerDescription}
use Rattle.mdb_describe.specs.declared.topology.TopologyDescription.{TopologyDescription}
use Rattle.mdb_describe.specs.declared.diff.Diff.{Diff}
use Rattle.mdb_describe.specs.Descriptions.{load_balancer}
use Rattle.mdb_describe.specs.Differences.{missing}
use Rattle.mdb_describe.specs.Servers.{addresses_of, is_known, store}
use Rattle.mdb_describe.specs.Topology.{opened}
use Rattle.mdb_describe.specs.Update.{is_new, stored, updated}
use Rattle.mdb_events.specs.declared.fact.Fact.{Fact}
use Rattle.mdb_log.specs.History.{Item, with_facts}
use Rattle.mdb_log.specs.Homes.{homes}
use Rattle.mdb_log.specs.LegalLog.{numbered}
use Rattle.mdb_describe.proofs.Addresses.{same-address}
use Rattle.mdb_describe.proofs.Stored.{none-missing}
use Rattle.mdb_driver_rules.specs.Turns.{in_turn}
use Rattle.mdb_driver_rules.specs.Description.{with_balancers, begins_with}
use Rattle.mdb_driver_rules.specs.Publishing.{server_changed, server_closed, server_opened, opened_at, topology_changed, telling}
use Rattle.mdb_driver_rules.proofs.KnownBalancers.{named-well, same-table}
use Rattle.mdb_driver_rules.proofs.LeavesAsItIs.{with-append, turn-append}
use Rattle.mdb_driver_rules.proofs.PoolsPastLimits.{free-homes, gone-away}

numbered-more : (n : ℕ) (a : ServerAddress) (more : List ServerAddress) → numbered n (a ∷ more) ≡ record { number = n; address = a } ∷ numbered (n + 1) more
numbered-more n a more = refl

module _ (o : Options) (m : ℕ) where
  -- the servers that come are numbered
  opens-homes : (list : List ServerAddress) (k : List Item) → homes (with_facts m (in_turn m (map (server_opened o) list) k) k) ≡ homes k ++ numbered (length (homes k)) list
  opens-homes [] k = sym (append-nil (homes k))
  opens-homes (a ∷ list) k =
      let n : ℕ = length (homes k) in
      let later : List Item = with_facts m (opened_at o a n) k in
      let rest : List Fact = in_turn m (map (server_opened o) list) later in
      let more : length (homes later) ≡ n + 1 = length-append (homes k) _ in
      ap homes (with-append m (opened_at o a n) rest k)
      ∙ (opens-homes list later
      ∙ (ap (λ x. homes later ++ numbered x list) more
      ∙ append_assoc (homes k) (record { number = n; address = a } ∷ []) (numbered (n + 1) list)))

  module _ (t u : TopologyDescription) (d : Diff) (k : List Item) where
    abbrev gone : List (List Item → List Fact)
    gone = map (server_changed o m t u) d.changed ++ map (server_closed o m) d.removed

    abbrev k2 : List Item
    k2 = with_facts m (in_turn m gone k) k

    abbrev comes : List (List Item → List Fact)
    comes = topology_changed o t u ∷ map (server_opened o) d.added

    -- the homes after a publication
    pub telling-homes : homes (with_facts m (in_turn m (telling o m t u (Some d)) k) k) ≡ homes k ++ numbered (length (homes k)) d.added
    telling-homes =
        ap (λ fs. homes (with_facts m fs k)) (turn-append m gone comes k)
        ∙ (ap homes (with-append m (in_turn m gone k) (in_turn m comes k2) k)
        ∙ (opens-homes d.added (with_facts m (topology_changed o t u k2) k2)
        ∙ ap (λ hs. hs ++ numbered (length hs) d.added) (free-homes m (in_turn m gone k) k (gone-away o m t u d k))))

-- A load balancer takes the place of the server of its address.
store-addresses : (d : ServerDescription) (servers : List ServerDescription) → addresses_of (store d servers) ≡ addresses_of servers
store-addresses d [] = refl
store-addresses d (s ∷ servers) = on (same_address s.address d.address) refl (store-addresses d servers)
  where
    on : (b : Bool) → same_address s.address d.address ≡ b → addresses_of (store d servers) ≡ addresses_of servers → addresses_of (store d (s ∷ servers)) ≡ addresses_of (s ∷ servers)
    on true e deeper = rw e (ap (λ a. a ∷ addresses_of servers) (sym (same-address s.address d.address e)))
    on false e deeper = rw e (ap (λ rest. s.address ∷ rest) deeper)

updated-addresses : (t : TopologyDescription) (a : ServerAddress) → addresses_of (updated t (load_balancer a)).servers ≡ addresses_of t.servers
updated-addresses t a = on (is_new t (load_balancer a)) refl
  where
    on : (b : Bool) → is_new t (load_balancer a) ≡ b → addresses_of (updated t (load_balancer a)).servers ≡ addresses_of t.servers
    on true e = rw (e, named-well t.topology_type t a) (ap addresses_of (same-table t.topology_type (stored t (load_balancer a)) (load_balancer a)) ∙ store-addresses (load_balancer a) t.servers)
    on false e = rw e refl

balancers-addresses : (seeds : List ServerAddress) (t : TopologyDescription) → addresses_of (with_balancers seeds t).servers ≡ addresses_of t.servers
balancers-addresses [] t = refl
balancers-addresses (a ∷ more) t = balancers-addresses more (updated t (load_balancer a)) ∙ updated-addresses t a

pub begun-addresses : (o : Options) → addresses_of (begins_with o).servers ≡ addresses_of (opened o).servers
begun-addresses o = on o.load_balanced
  where
    on : (b : Bool) → addresses_of (if b then with_balancers o.seeds (opened o) else opened o).servers ≡ addresses_of (opened o).servers
    on true = balancers-addresses o.seeds (opened o)
    on false = refl

-- none of the servers is missing where the others have the same addresses
known-listed : (a : ServerAddress) (xs ys : List ServerDescription) → addresses_of xs ≡ addresses_of ys → is_known a xs ≡ is_known a ys
known-listed a [] [] e = refl
known-listed a [] (y ∷ ys) e = cc
known-listed a (x ∷ xs) [] e = cc
known-listed a (x ∷ xs) (y ∷ ys) e =
    let first : x.address ≡ y.address = cc in
    let rest : addresses_of xs ≡ addresses_of ys = cc in
    rw (first, known-listed a xs ys rest) refl

pub same-missing : (xs ys : List ServerDescription) → addresses_of xs ≡ addresses_of ys → missing xs ys ≡ []
same-missing xs ys e = none-missing xs ys (λ a k. sym (known-listed a xs ys e) ∙ k)

all-missing : (xs : List ServerDescription) → missing xs [] ≡ addresses_of xs
all-missing [] = refl
all-missing (x ∷ xs) = ap (λ rest. x.address ∷ rest) (all-missing xs)

pub opened-missing : (o : Options) → missing (opened o).servers [] ≡ addresses_of (opened o).servers
opened-missing o = all-missing (opened o).servers
