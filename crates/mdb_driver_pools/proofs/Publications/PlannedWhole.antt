-- A whole publication, planned: the servers that changed, those that go, the topology, and those that come.
use Rattle.std.proofs.Common.{ℕ, ◌≡◌, ◌+◌, ◌&&◌, ◌||◌, Bool, true, false, not, List, [], ◌∷◌, ◌++◌, length, map, Some, is_some, refl, sym, ◌∙◌, ap, subst, arith, append-nil}
use Rattle.std.proofs.lemmas.List.{append_assoc}
use Rattle.std.proofs.lemmas.Bool.{or_left, or_right, not-true}
use Rattle.mdb_base.specs.Equality.{same_address}
use Rattle.mdb_base.specs.declared.address.ServerAddress.{ServerAddress}
use Rattle.mdb_base.specs.declared.options.Options.{Options}
use Rattle.mdb_describe.specs.declared.description.ServerDescription.{ServerDescription}
use Rattle.mdb_describe.specs.declared.topology.TopologyDescription.{TopologyDescription}
use Rattle.mdb_describe.specs.declared.diff.Diff.{Diff}
use Rattle.mdb_describe.specs.Differences.{changed, missing, difference, are_in_both}
use Rattle.mdb_describe.specs.Servers.{is_known, is_listed}
use Rattle.mdb_events.specs.declared.fact.Fact.{Fact}
use Rattle.mdb_log.specs.History.{Item}
use Rattle.mdb_log.specs.Opening.{pool_options}
use Rattle.mdb_describe.proofs.Addresses.{same-address, own-address}
use Rattle.mdb_driver_rules.proofs.ServersThen.{of-difference, listed-missing, known-now}
use Rattle.mdb_pool.specs.Core.{PoolCore}
use Rattle.mdb_log.proofs.Bools.{both-true}
use Rattle.mdb_driver_pools.specs.declared.pool_change.PoolChange.{PoolChange}
use Rattle.mdb_driver_pools.specs.Planned.{LeadsAll, CanTake, LeavesOpen, PlansMore}
use Rattle.mdb_driver_rules.specs.Publishing.{server_changed, server_closed, topology_changed, server_opened, telling, publication}
use Rattle.mdb_driver_pools.specs.Standing.{at_address, are_absent, PoolsStand}
use Rattle.mdb_driver_rules.specs.Touching.{is_ready_at, readies, touches}
use Rattle.mdb_driver_pools.proofs.Publications.PlannedInTurn.{plans-then}
use Rattle.mdb_driver_rules.proofs.General.Truth.{fails}

-- a changed server is known before and after
listed-both : (earlier later : List ServerDescription) (xs : List ServerAddress) (b : ServerAddress) → are_in_both earlier later xs ≡ true → is_listed xs b ≡ true → (is_known b earlier ≡ true) × (is_known b later ≡ true)
listed-both earlier later [] b all e = cc
listed-both earlier later (y ∷ ys) b all e =
    let both : (is_known y earlier && is_known y later ≡ true) × (are_in_both earlier later ys ≡ true) = both-true (is_known y earlier && is_known y later) (are_in_both earlier later ys) all in
    on (same_address y b) refl (both-true (is_known y earlier) (is_known y later) both.0) (listed-both earlier later ys b both.1)
  where
    on : (k : Bool) → same_address y b ≡ k → (is_known y earlier ≡ true) × (is_known y later ≡ true) → (is_listed ys b ≡ true → (is_known b earlier ≡ true) × (is_known b later ≡ true)) → (is_known b earlier ≡ true) × (is_known b later ≡ true)
    on true f here rest = let w : y ≡ b = same-address y b f in (ap (λ a. is_known a earlier) (sym w) ∙ here.0, ap (λ a. is_known a later) (sym w) ∙ here.1)
    on false f here rest = rest (sym (rw f refl) ∙ e)

-- a server that is missing among the others
missing-known : (servers others : List ServerDescription) (b : ServerAddress) → is_listed (missing servers others) b ≡ true → (is_known b servers ≡ true) × (is_known b others ≡ false)
missing-known servers others b e =
    let d : (is_known b servers ≡ true) × (not (is_known b others) ≡ true) = both-true (is_known b servers) (not (is_known b others)) (sym (listed-missing b others servers) ∙ e) in
    (d.0, not-true (is_known b others) d.1)

-- at addresses that no earlier server has, no pool is open
pub added-absent : (pools : List PoolCore) (earlier : List ServerDescription) (xs : List ServerAddress) → ((a : ServerAddress) → is_some (at_address pools a) ≡ is_known a earlier)
    → ((a : ServerAddress) → is_listed xs a ≡ true → is_known a earlier ≡ false) → are_absent pools xs ≡ true
added-absent pools earlier [] known new = refl
added-absent pools earlier (a ∷ more) known new =
    let here : is_listed (a ∷ more) a ≡ true = or_left (same_address a a) (is_listed more a) (own-address a) in
    let none : is_some (at_address pools a) ≡ false = known a ∙ new a here in
    rw none (added-absent pools earlier more known (λ b e. new b (or_right (same_address a b) (is_listed more b) e)))

neither : (p q : Bool) → p ≡ false → q ≡ false → p || q ≡ false
neither p q e f = rw (e, f) refl

module _ (t u : TopologyDescription) (d : Diff) (different : difference t.servers u.servers ≡ Some d) where
  abbrev whole : Diff
  whole = record { changed = changed t.servers u.servers; removed = missing t.servers u.servers; added = missing u.servers t.servers }

  same-diff : whole ≡ d
  same-diff = of-difference whole d different

  removed-known : (b : ServerAddress) → is_listed d.removed b ≡ true → (is_known b t.servers ≡ true) × (is_known b u.servers ≡ false)
  removed-known b e = missing-known t.servers u.servers b (ap (λ (x : Diff). is_listed x.removed b) same-diff ∙ e)

  pub added-new : (b : ServerAddress) → is_listed d.added b ≡ true → is_known b t.servers ≡ false
  added-new b e = (missing-known u.servers t.servers b (ap (λ (x : Diff). is_listed x.added b) same-diff ∙ e)).1

  module _ (in_both : are_in_both t.servers u.servers d.changed ≡ true) where
    changed-known : (b : ServerAddress) → readies u d.changed b ≡ true → (is_known b t.servers ≡ true) × (is_known b u.servers ≡ true)
    changed-known b e = listed-both t.servers u.servers d.changed b in_both (both-true (is_listed d.changed b) (is_ready_at u b) e).0

    removed-apart : (b : ServerAddress) → is_listed d.removed b ≡ true → readies u d.changed b ≡ false
    removed-apart b e = fails (readies u d.changed b) (is_known b u.servers) (λ f. (changed-known b f).1) (removed-known b e).1

    abbrev old : ServerAddress → Bool
    old b = readies u d.changed b || is_listed d.removed b

    added-apart : (b : ServerAddress) → is_listed d.added b ≡ true → old b ≡ false
    added-apart b e =
        neither (readies u d.changed b) (is_listed d.removed b)
        (fails (readies u d.changed b) (is_known b t.servers) (λ f. (changed-known b f).0) (added-new b e))
        (fails (is_listed d.removed b) (is_known b t.servers) (λ f. (removed-known b f).0) (added-new b e))

    old-touched : (p q r : Bool) → p || q ≡ true → p || (q || r) ≡ true
    old-touched true q r e = refl
    old-touched false q r e = or_left q r e

    pub plans-all : (o : Options) (m : ℕ) (pools : List PoolCore) (n : ℕ) (c0 c1 c2 c3 : List PoolChange) (f0 f1 f2 f3 f4 : List Fact)
        → PlansMore o m pools n (readies u d.changed) (map (server_changed o m t u) d.changed) [] [] c0 c1 f0 f1
        → PlansMore o m pools n (is_listed d.removed) (map (server_closed o m) d.removed) d.removed [] c1 c2 f1 f2
        → PlansMore o m pools n (λ b. false) (topology_changed o t u ∷ []) [] [] c2 c2 f2 f3
        → PlansMore o m pools n (is_listed d.added) (map (server_opened o) d.added) [] d.added c2 c3 f3 f4
        → PlansMore o m pools n (touches u d) (publication o m t u) d.removed d.added c0 c3 f0 f4
    plans-all o m pools n c0 c1 c2 c3 f0 f1 f2 f3 f4 p q r s =
        let A : List (List Item → List Fact) = map (server_changed o m t u) d.changed in
        let B : List (List Item → List Fact) = map (server_closed o m) d.removed in
        let T : List (List Item → List Fact) = topology_changed o t u ∷ [] in
        let D : List (List Item → List Fact) = map (server_opened o) d.added in
        let none : n + length {A = ServerAddress} [] ≡ n = omega arith in
        let one : PlansMore o m pools n old (A ++ B) d.removed [] c0 c2 f0 f2 =
        plans-then o m pools n n (readies u d.changed) (is_listed d.removed) old A B [] [] d.removed [] c0 c1 c2 f0 f1 f2 none (λ b e. cc) removed-apart
        (λ b e. or_left (readies u d.changed b) (is_listed d.removed b) e) (λ b e. or_right (readies u d.changed b) (is_listed d.removed b) e) p q in
        let two : PlansMore o m pools n old ((A ++ B) ++ T) (d.removed ++ []) [] c0 c2 f0 f3 =
        plans-then o m pools n n old (λ b. false) old (A ++ B) T d.removed [] [] [] c0 c2 c2 f0 f2 f3 none (λ b e. refl) (λ b e. cc) (λ b e. e) (λ b e. cc) one r in
        let three : PlansMore o m pools n (touches u d) (((A ++ B) ++ T) ++ D) ((d.removed ++ []) ++ []) d.added c0 c3 f0 f4 =
        plans-then o m pools n n old (is_listed d.added) (touches u d) ((A ++ B) ++ T) D (d.removed ++ []) [] [] d.added c0 c2 c3 f0 f3 f4 none (λ b e. refl) added-apart
        (λ b e. old-touched (readies u d.changed b) (is_listed d.removed b) (is_listed d.added b) e)
        (λ b e. or_right (readies u d.changed b) (is_listed d.removed b || is_listed d.added b) (or_right (is_listed d.removed b) (is_listed d.added b) e)) two s in
        let gone : (d.removed ++ []) ++ [] ≡ d.removed = append-nil (d.removed ++ []) ∙ append-nil d.removed in
        let joined : ((A ++ B) ++ T) ++ D ≡ publication o m t u = append_assoc (A ++ B) T D ∙ ap (telling o m t u) (sym different) in
        subst (λ (parts : List (List Item → List Fact)). PlansMore o m pools n (touches u d) parts d.removed d.added c0 c3 f0 f4) joined
        (subst (λ (xs : List ServerAddress). PlansMore o m pools n (touches u d) (((A ++ B) ++ T) ++ D) xs d.added c0 c3 f0 f4) gone three)

    -- a pool is then open for each server that is known
    pub known-then : (o : Options) (m : ℕ) (pools : List PoolCore) (n : ℕ) (touched : ServerAddress → Bool) (changes : List PoolChange) → LeavesOpen o m pools n touched changes d.removed d.added
        → (now later : List PoolCore) (k : List Item) → CanTake m pools now n touched → LeadsAll changes now later → PoolsStand (pool_options o) now k → ((a : ServerAddress) → is_some (at_address now a) ≡ is_known a t.servers)
        → (a : ServerAddress) → is_some (at_address later a) ≡ is_known a u.servers
    known-then o m pools n touched changes leaves now later k z l y known a =
        let e1 : is_listed d.removed a ≡ is_listed (missing t.servers u.servers) a = ap (λ (x : Diff). is_listed x.removed a) (sym same-diff) in
        let e2 : is_listed d.added a ≡ is_listed (missing u.servers t.servers) a = ap (λ (x : Diff). is_listed x.added a) (sym same-diff) in
        leaves now later k a z l y ∙ (ap (λ b. (b && not (is_listed d.removed a)) || is_listed d.added a) (known a)
        ∙ (ap (λ b. (is_known a t.servers && not b) || is_listed d.added a) e1 ∙ (ap (λ b. (is_known a t.servers && not (is_listed (missing t.servers u.servers) a)) || b) e2 ∙ known-now a t.servers u.servers)))
