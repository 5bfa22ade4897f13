-- Planned parts of many servers, one after another.
use Rattle.std.proofs.Common.{ℕ, zero, suc, ◌≡◌, ◌+◌, ◌&&◌, ◌||◌, Bool, true, false, not, List, [], ◌∷◌, ◌++◌, length, map, take, Option, Some, None, is_some, refl, sym, ◌∙◌, ap, subst, arith}
use Rattle.std.specs.Prelude.{slice_get}
use Rattle.std.specs.List.{list_any}
use Rattle.std.proofs.lemmas.Bool.{not-true}
use Rattle.mdb_base.specs.Equality.{same_address}
use Rattle.mdb_base.specs.OptionRules.{all_different}
use Rattle.mdb_base.specs.declared.address.ServerAddress.{ServerAddress}
use Rattle.mdb_base.specs.declared.options.Options.{Options}
use Rattle.mdb_base.proofs.AddressOrder.{same_back}
use Rattle.mdb_describe.specs.declared.topology.TopologyDescription.{TopologyDescription}
use Rattle.mdb_describe.specs.Servers.{is_listed}
use Rattle.mdb_events.specs.declared.fact.Fact.{Fact}
use Rattle.mdb_log.specs.History.{Item}
use Rattle.mdb_describe.proofs.Addresses.{same-address}
use Rattle.mdb_pool.specs.Core.{PoolCore}
use Rattle.mdb_log.proofs.Bools.{both-true}
use Rattle.mdb_driver_pools.specs.declared.pool_change.PoolChange.{PoolChange}
use Rattle.mdb_driver_pools.specs.Planned.{PlansMore}
use Rattle.mdb_driver_rules.specs.Publishing.{server_changed, server_closed, server_opened}
use Rattle.mdb_driver_pools.specs.Standing.{at_address, are_absent}
use Rattle.mdb_driver_rules.specs.Touching.{is_ready_at, readies, readies_one}
use Rattle.mdb_driver_rules.proofs.General.OneElement.{any-none}
use Rattle.mdb_driver_pools.proofs.Publications.OneMorePool.{map-push}
use Rattle.mdb_driver_pools.proofs.Publications.PlannedInTurn.{listed-both, plans-then}
use Rattle.mdb_driver_rules.proofs.General.Truth.{or-false, or-true}

-- none of the addresses before a place is the one there
pub different-take : (xs : List ServerAddress) (k : ℕ) (x : ServerAddress) → all_different xs ≡ true → slice_get xs k ≡ Some x → is_listed (take k xs) x ≡ false
different-take [] k x e f = cc
different-take (y ∷ ys) zero x e f = refl
different-take (y ∷ ys) (suc k) x e f =
    let both : (not (list_any (λ b. same_address b y) ys) ≡ true) × (all_different ys ≡ true) = both-true (not (list_any (λ b. same_address b y) ys)) (all_different ys) e in
    let apart : same_address x y ≡ false = any-none (λ b. same_address b y) ys k x (not-true (list_any (λ b. same_address b y) ys) both.0) f in
    let back : same_address y x ≡ false = same_back y x ∙ apart in
    rw back (different-take ys k x both.1 f)

-- at none of the addresses a pool is open
pub absent-at : (pools : List PoolCore) (xs : List ServerAddress) (k : ℕ) (x : ServerAddress) → are_absent pools xs ≡ true → slice_get xs k ≡ Some x → at_address pools x ≡ None
absent-at pools [] k x e f = cc
absent-at pools (y ∷ ys) zero x e f =
    let both : (not (is_some (at_address pools y)) ≡ true) × (are_absent pools ys ≡ true) = both-true (not (is_some (at_address pools y))) (are_absent pools ys) e in
    let w : y ≡ x = cc in
    ap (at_address pools) (sym w) ∙ none (at_address pools y) (not-true (is_some (at_address pools y)) both.0)
  where
    none : (x : Option ℕ) → is_some x ≡ false → x ≡ None
    none None e = refl
    none (Some p) e = cc
absent-at pools (y ∷ ys) (suc k) x e f = absent-at pools ys k x (both-true (not (is_some (at_address pools y))) (are_absent pools ys) e).1 f

listed-push : (xs : List ServerAddress) (x b : ServerAddress) → is_listed (xs ++ x ∷ []) b ≡ is_listed xs b || same_address x b
listed-push xs x b = listed-both xs (x ∷ []) b ∙ ap (λ k. is_listed xs b || k) (or-false (same_address x b))

-- among more it is still listed, and the last one is
pub listed-old : (xs : List ServerAddress) (x b : ServerAddress) → is_listed xs b ≡ true → is_listed (xs ++ x ∷ []) b ≡ true
listed-old xs x b e = listed-push xs x b ∙ rw e refl

pub listed-new : (xs : List ServerAddress) (x b : ServerAddress) → same_address x b ≡ true → is_listed (xs ++ x ∷ []) b ≡ true
listed-new xs x b e = listed-push xs x b ∙ rw e (or-true (is_listed xs b))

-- what is at another address is apart
listed-apart : (xs : List ServerAddress) (x b : ServerAddress) → is_listed xs x ≡ false → same_address x b ≡ true → is_listed xs b ≡ false
listed-apart xs x b e f = ap (is_listed xs) (sym (same-address x b f)) ∙ e

module _ (o : Options) (m : ℕ) (pools : List PoolCore) (n : ℕ) (xs : List ServerAddress) (x : ServerAddress) (new : is_listed xs x ≡ false)
    (earlier middle changes : List PoolChange) (before between after : List Fact) where
  -- one more of the servers that changed
  module _ (t u : TopologyDescription) where
    abbrev changed : List ServerAddress → List (List Item → List Fact)
    changed list = map (server_changed o m t u) list

    of-both : (p q : Bool) → p && q ≡ true → (p ≡ true) × (q ≡ true)
    of-both p q e = both-true p q e

    with-both : (p q : Bool) → p ≡ true → q ≡ true → p && q ≡ true
    with-both p q e f = rw (e, f) refl

    pub changed-more : PlansMore o m pools n (readies u xs) (changed xs) [] [] earlier middle before between → PlansMore o m pools n (readies_one u x) (server_changed o m t u x ∷ []) [] [] middle changes between after
        → PlansMore o m pools n (readies u (xs ++ x ∷ [])) (changed (xs ++ x ∷ [])) [] [] earlier changes before after
    changed-more p q =
        subst (λ (parts : List (List Item → List Fact)). PlansMore o m pools n (readies u (xs ++ x ∷ [])) parts [] [] earlier changes before after) (sym (map-push (server_changed o m t u) xs x))
        (plans-then o m pools n n (readies u xs) (readies_one u x) (readies u (xs ++ x ∷ [])) (changed xs) (server_changed o m t u x ∷ []) [] [] [] [] earlier middle changes before between after (omega arith) (λ b e. refl)
        (λ b e. let w : is_listed xs b ≡ false = listed-apart xs x b new (of-both (same_address x b) (is_ready_at u b) e).0 in rw w refl)
        (λ b e. let d : (is_listed xs b ≡ true) × (is_ready_at u b ≡ true) = of-both (is_listed xs b) (is_ready_at u b) e in with-both (is_listed (xs ++ x ∷ []) b) (is_ready_at u b) (listed-old xs x b d.0) d.1)
        (λ b e. let d : (same_address x b ≡ true) × (is_ready_at u b ≡ true) = of-both (same_address x b) (is_ready_at u b) e in with-both (is_listed (xs ++ x ∷ []) b) (is_ready_at u b) (listed-new xs x b d.0) d.1)
        p q)

  -- one more of those that go
  pub closed-more : PlansMore o m pools n (is_listed xs) (map (server_closed o m) xs) xs [] earlier middle before between → PlansMore o m pools n (same_address x) (server_closed o m x ∷ []) (x ∷ []) [] middle changes between after
      → PlansMore o m pools n (is_listed (xs ++ x ∷ [])) (map (server_closed o m) (xs ++ x ∷ [])) (xs ++ x ∷ []) [] earlier changes before after
  closed-more p q =
      subst (λ (parts : List (List Item → List Fact)). PlansMore o m pools n (is_listed (xs ++ x ∷ [])) parts (xs ++ x ∷ []) [] earlier changes before after) (sym (map-push (server_closed o m) xs x))
      (plans-then o m pools n n (is_listed xs) (same_address x) (is_listed (xs ++ x ∷ [])) (map (server_closed o m) xs) (server_closed o m x ∷ []) xs [] (x ∷ []) [] earlier middle changes before between after (omega arith) (λ b e. cc)
      (λ b e. listed-apart xs x b new e) (λ b e. listed-old xs x b e) (λ b e. listed-new xs x b e) p q)

  -- one more of those that come
  pub opened-more : (k : ℕ) → n + length xs ≡ k → PlansMore o m pools n (is_listed xs) (map (server_opened o) xs) [] xs earlier middle before between
      → PlansMore o m pools k (same_address x) (server_opened o x ∷ []) [] (x ∷ []) middle changes between after
      → PlansMore o m pools n (is_listed (xs ++ x ∷ [])) (map (server_opened o) (xs ++ x ∷ [])) [] (xs ++ x ∷ []) earlier changes before after
  opened-more k numbers p q =
      subst (λ (parts : List (List Item → List Fact)). PlansMore o m pools n (is_listed (xs ++ x ∷ [])) parts [] (xs ++ x ∷ []) earlier changes before after) (sym (map-push (server_opened o) xs x))
      (plans-then o m pools n k (is_listed xs) (same_address x) (is_listed (xs ++ x ∷ [])) (map (server_opened o) xs) (server_opened o x ∷ []) [] xs [] (x ∷ []) earlier middle changes before between after numbers (λ b e. refl)
      (λ b e. listed-apart xs x b new e) (λ b e. listed-old xs x b e) (λ b e. listed-new xs x b e) p q)
