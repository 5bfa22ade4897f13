-- The services of the clears that came before a connection was created.
use Rattle.std.proofs.Common.{ℕ, ◌≡◌, ◌+◌, ◌<◌, ◌≤◌, Bool, true, false, ◌||◌, ◌&&◌, nat_lt, List, [], ◌∷◌, ◌++◌, length, take, Some, None, refl, sym, ◌∙◌, ap, subst, arith, slice_index_or, IsPermutation, IsSorted}
use Rattle.std.specs.Prelude.{count_by}
use Rattle.std.specs.Cmp.{IsEquivalence, both_ways}
use Rattle.std.specs.List.{dedup}
use Rattle.std.specs.List.Retain.{IsFiltered, DiffersFromLast}
use Rattle.std.proofs.lemmas.Bool.Decides.{nat_tests}
use Rattle.std.proofs.lemmas.List.Filters.{dedup_is}
use Rattle.std.proofs.lemmas.List.Kept.{Contains-dedup, Contains-from_dedup, IsStrictlySortedBy-dedup}
use Rattle.std.proofs.lemmas.List.Sorted.{list_any-IsPermutation}
use Rattle.std.proofs.lemmas.Map.Views.{Contains-from_any, list_any-from_Contains}
use Rattle.std.proofs.lemmas.List.Folds.{list_any-append}
use Rattle.std.proofs.lemmas.List.Sums.{count_by_more_no, count_by_more_yes}
use Rattle.mdb_base.specs.Equality.{same_id}
use Rattle.mdb_base.specs.declared.object_id.ObjectId.{ObjectId}
use Rattle.mdb_log.specs.History.{same_service}
use Rattle.mdb_pool.specs.declared.kept.marks.Mark.{Mark}
use Rattle.mdb_pool.specs.declared.kept.status.Clear.{Clear}
use Rattle.mdb_pool.specs.Kept.Clearing.{AreMarked}
use Rattle.mdb_pool.specs.Kept.Values.{clears_before}
use Rattle.mdb_pool_rules.specs.Jobs.{id_order, has_id}
use Rattle.mdb_pool_rules.proofs.OrderOfIds.{Ascends, id-total, same-by-order, same-id, same-back, own-id}

-- the ids are the services of the clears before the connection was created
abbrev pub AreNamed : ℕ → List Clear → List ObjectId → Type 0
AreNamed c ks ids = (t : ObjectId) → has_id t ids ≡ nat_lt 0 (clears_before c (Some t) ks)

abbrev d : Mark
d = record { service = None; after = 0; count = 0 }

module _ (c : ℕ) (ks : List Mark) (i : ℕ) (inside : i < length ks) (ids : List ObjectId) (so : AreMarked c (take i ks) ids) where
  abbrev k : Mark
  k = slice_index_or ks i d

  abbrev counts : ObjectId → Mark → Bool
  counts t k = same_service k.service (Some t) && nat_lt k.after c

  -- a mark that does not count
  pass : ((t : ObjectId) → counts t k ≡ false) → AreMarked c (take (i + 1) ks) ids
  pass f t = so t ∙ ap (nat_lt 0) (sym (count_by_more_no (counts t) ks i d inside (f t)))

  pub pass-whole : k.service ≡ None → AreMarked c (take (i + 1) ks) ids
  pass-whole e = pass (λ t. rw e refl)

  pub pass-later : c ≤ k.after → AreMarked c (take (i + 1) ks) ids
  pass-later l = pass (λ t. on (same_service k.service (Some t)))
    where
      on : (p : Bool) → (p && nat_lt k.after c) ≡ false
      on true = grind (arith, nat_tests, l)
      on false = refl

  -- a mark of a service
  pub name-one : (s : ObjectId) → k.service ≡ Some s → k.after < c → AreMarked c (take (i + 1) ks) (ids ++ s ∷ [])
  name-one s e l t = list_any-append (same_id t) ids (s ∷ []) ∙ on (same_id t s) refl
    where
      below : nat_lt k.after c ≡ true
      below = grind (arith, nat_tests, l)

      tests : (p : Bool) → same_id t s ≡ p → counts t k ≡ p
      tests p g = rw (e, below, same-back s t, g) (and-true p)
        where
          and-true : (p : Bool) → (p && true) ≡ p
          and-true true = refl
          and-true false = refl

      either : (p : Bool) → (p || true) ≡ true
      either true = refl
      either false = refl

      neither : (p : Bool) → (p || false) ≡ p
      neither true = refl
      neither false = refl

      more : (n : ℕ) → true ≡ nat_lt 0 (n + 1)
      more n = grind (arith, nat_tests)

      on : (p : Bool) → same_id t s ≡ p → (has_id t ids || (p || false)) ≡ nat_lt 0 (count_by (counts t) (take (i + 1) ks))
      on true g = either (has_id t ids) ∙ (more (count_by (counts t) (take i ks)) ∙ ap (nat_lt 0) (sym (count_by_more_yes (counts t) ks i d inside (tests true g))))
      on false g = neither (has_id t ids) ∙ (so t ∙ ap (nat_lt 0) (sym (count_by_more_no (counts t) ks i d inside (tests false g))))

-- what a sort and the removal of repetitions leave
same-equivalence : IsEquivalence same_id
same-equivalence = record { refl = own-id; symm = same-back; congr = λ s t u e. ap (λ v. same_id v u) (same-id s t e) }

module _ (xs ys zs : List ObjectId) (permuted : IsPermutation xs ys) (sorted : IsSorted id_order ys) (filtered : IsFiltered (DiffersFromLast same_id) [] ys zs) where
  pub once-ascends : Ascends zs
  once-ascends = subst Ascends (sym (dedup_is same_id ys zs filtered)) (IsStrictlySortedBy-dedup id-total same-by-order ys sorted)

  kept : (t : ObjectId) → has_id t (dedup same_id ys) ≡ has_id t ys
  kept t = both_ways (has_id t (dedup same_id ys)) (has_id t ys)
      (λ e. list_any-from_Contains same-equivalence t ys (Contains-from_dedup same_id ys t (Contains-from_any same-id t (dedup same_id ys) e)))
      (λ e. list_any-from_Contains same-equivalence t (dedup same_id ys) (Contains-dedup same-equivalence same-id ys t (Contains-from_any same-id t ys e)))

  pub once-named : (c : ℕ) (ks : List Mark) → AreMarked c ks xs → AreMarked c ks zs
  once-named c ks so t = ap (has_id t) (dedup_is same_id ys zs filtered) ∙ (kept t ∙ (sym (list_any-IsPermutation (same_id t) xs ys permuted) ∙ so t))
