-- The order of ids is a total one, and each set of ids has one strictly ascending list.
use Rattle.std.proofs.Common.{◌≡◌, ℕ, Bool, true, false, ◌||◌, List, [], ◌∷◌, refl, sym, ◌∙◌, ap, ap₂, subst, true≢false, if◌then◌else◌}
use Rattle.std.specs.List.{AllByRecursion}
use Rattle.std.specs.List.Sorted.{IsStrictlySortedBy}
use Rattle.std.specs.declared.cmp.Ordering.{Ordering}
use Rattle.std.specs.declared.cmp.Ordering.TheVariants.{Less, Equal, Greater}
use Rattle.std.specs.Cmp.{IsTotalOrder}
use Rattle.std.specs.Ordering.{is_lt, is_eq, ordering_reverse}
use Rattle.std.proofs.lemmas.Cmp.{nat_list_cmp_total, on_total}
use Rattle.std.proofs.lemmas.Map.Text.{is_eq-slice_cmp}
use Rattle.std.proofs.lemmas.Map.Lookups.{exact_bytes}
use Rattle.mdb_base.specs.Equality.{same_id}
use Rattle.mdb_base.specs.declared.object_id.ObjectId.{ObjectId}
use Rattle.mdb_describe.specs.Update.{id_is_below}
use Rattle.mdb_pool_rules.specs.Jobs.{id_order, has_id, put_id}

pub id-total : IsTotalOrder id_order
id-total = on_total (λ (t : ObjectId). t.0) nat_list_cmp_total

pub same-by-order : (s t : ObjectId) → same_id s t ≡ is_eq (id_order s t)
same-by-order s t = sym (is_eq-slice_cmp s.0 t.0)

is-tied : (o : Ordering) → is_eq o ≡ true → o ≡ Equal
is-tied Less e = absurd (cc)
is-tied Equal e = refl
is-tied Greater e = absurd (cc)

abbrev of_bytes : List ℕ → ObjectId
of_bytes n = record { 0 = n }

pub same-id : (s t : ObjectId) → same_id s t ≡ true → s ≡ t
same-id s t e = ap of_bytes (exact_bytes s.0 t.0 (is-tied (id_order s t) (sym (same-by-order s t) ∙ e)))

tied-itself : (o : Ordering) → o ≡ ordering_reverse o → o ≡ Equal
tied-itself Less e = absurd (cc)
tied-itself Equal e = refl
tied-itself Greater e = absurd (cc)

own-order : (s : ObjectId) → id_order s s ≡ Equal
own-order s = tied-itself (id_order s s) (id-total.antisymm s s)

pub own-id : (s : ObjectId) → same_id s s ≡ true
own-id s = same-by-order s s ∙ ap is_eq (own-order s)

pub same-back : (s t : ObjectId) → same_id s t ≡ same_id t s
same-back s t = same-by-order s t ∙ (ap is_eq (id-total.antisymm s t) ∙ (reversed (id_order t s) ∙ sym (same-by-order t s)))
  where
    reversed : (o : Ordering) → is_eq (ordering_reverse o) ≡ is_eq o
    reversed Less = refl
    reversed Equal = refl
    reversed Greater = refl

-- each of them comes after the id
abbrev Above : ObjectId → List ObjectId → Type 0
Above s ids = AllByRecursion (λ t. id_order s t ≡ Less) ids

abbrev pub Ascends : List ObjectId → Type 0
Ascends ids = IsStrictlySortedBy id_order ids

above-one : (s t : ObjectId) (ids : List ObjectId) → Above s ids → has_id t ids ≡ true → id_order s t ≡ Less
above-one s t [] all e = absurd (true≢false (sym e))
above-one s t (u ∷ ids) all e = on (same_id t u) refl e (above-one s t ids all.1)
  where
    on : (p : Bool) → same_id t u ≡ p → (p || has_id t ids) ≡ true → (has_id t ids ≡ true → id_order s t ≡ Less) → id_order s t ≡ Less
    on true f e more = subst (λ v. id_order s v ≡ Less) (sym (same-id t u f)) all.0
    on false f e more = more e

above-none : (s : ObjectId) (ids : List ObjectId) → Above s ids → has_id s ids ≡ false
above-none s ids all = on (has_id s ids) refl
  where
    on : (p : Bool) → has_id s ids ≡ p → has_id s ids ≡ false
    on false e = e
    on true e = let l : id_order s s ≡ Less = above-one s s ids all e in let q : id_order s s ≡ Equal = own-order s in absurd (cc)

has-first : (s : ObjectId) (ids : List ObjectId) → has_id s (s ∷ ids) ≡ true
has-first s ids = rw (own-id s) refl

not-both : (o : Ordering) (r : Ordering) → o ≡ ordering_reverse r → o ≡ Less → r ≡ Less → true ≡ false
not-both o r e f g = absurd (cc)

same-first : (s t : ObjectId) (xs ys : List ObjectId) → Above s xs → Above t ys → has_id s (t ∷ ys) ≡ true → has_id t (s ∷ xs) ≡ true → s ≡ t
same-first s t xs ys up vp e f = on (same_id s t) (same_id t s) refl refl e f
  where
    on : (p q : Bool) → same_id s t ≡ p → same_id t s ≡ q → (p || has_id s ys) ≡ true → (q || has_id t xs) ≡ true → s ≡ t
    on true q m n e f = same-id s t m
    on false true m n e f = sym (same-id t s n)
    on false false m n e f = absurd (true≢false (not-both (id_order s t) (id_order t s) (id-total.antisymm s t) (above-one s t xs up f) (above-one t s ys vp e)))

same-rest : (s : ObjectId) (xs ys : List ObjectId) → Above s xs → Above s ys → ((t : ObjectId) → has_id t (s ∷ xs) ≡ has_id t (s ∷ ys)) → (t : ObjectId) → has_id t xs ≡ has_id t ys
same-rest s xs ys up vp same t = on (same_id t s) refl (same t)
  where
    on : (p : Bool) → same_id t s ≡ p → (p || has_id t xs) ≡ (p || has_id t ys) → has_id t xs ≡ has_id t ys
    on false e f = f
    on true e f = subst (λ u. has_id u xs ≡ has_id u ys) (sym (same-id t s e)) (above-none s xs up ∙ sym (above-none s ys vp))

-- two strictly ascending lists with the same members are equal
pub one-ascent : (xs ys : List ObjectId) → Ascends xs → Ascends ys → ((t : ObjectId) → has_id t xs ≡ has_id t ys) → xs ≡ ys
unfolding IsStrictlySortedBy
one-ascent [] [] up vp same = refl
one-ascent [] (y ∷ ys) up vp same = absurd (true≢false (sym (has-first y ys) ∙ sym (same y)))
one-ascent (x ∷ xs) [] up vp same = absurd (true≢false (sym (has-first x xs) ∙ same x))
one-ascent (x ∷ xs) (y ∷ ys) up vp same =
    let e : x ≡ y = same-first x y xs ys up.0 vp.0 (sym (same x) ∙ has-first x xs) (same y ∙ has-first y ys) in
    let wp : Above x ys = subst (λ s. Above s ys) (sym e) vp.0 in
    ap₂ (λ (s : ObjectId) (ids : List ObjectId). s ∷ ids) e (one-ascent xs ys up.1 vp.1 (same-rest x xs ys up.0 wp (λ t. same t ∙ ap (λ s. has_id t (s ∷ ys)) (sym e))))

-- an id that takes its place

not-below : (o : Ordering) → is_eq o ≡ false → is_lt o ≡ false → ordering_reverse o ≡ Less
not-below Less e f = absurd (cc)
not-below Equal e f = absurd (cc)
not-below Greater e f = refl

is-less : (o : Ordering) → is_lt o ≡ true → o ≡ Less
is-less Less e = refl
is-less Equal e = absurd (cc)
is-less Greater e = absurd (cc)

above-all : (s t : ObjectId) (ids : List ObjectId) → id_order s t ≡ Less → Above t ids → Above s ids
above-all s t [] e all = tt
above-all s t (u ∷ ids) e all = (id-total.trans s t u e all.0, above-all s t ids e all.1)

above-put : (a s : ObjectId) (ids : List ObjectId) → id_order a s ≡ Less → Above a ids → Above a (put_id s ids)
above-put a s [] e all = (e, tt)
above-put a s (t ∷ ids) e all = on (same_id s t) (id_is_below s t) (above-put a s ids e all.1)
  where
    on : (p q : Bool) → Above a (put_id s ids) → Above a (if p then (t ∷ ids) else (if q then (s ∷ t ∷ ids) else (t ∷ put_id s ids)))
    on true q more = all
    on false true more = (e, all)
    on false false more = (all.0, more)

pub ascends-put : (s : ObjectId) (ids : List ObjectId) → Ascends ids → Ascends (put_id s ids)
unfolding IsStrictlySortedBy
ascends-put s [] up = (tt, tt)
ascends-put s (t ∷ ids) up = on (same_id s t) (id_is_below s t) refl refl (ascends-put s ids up.1)
  where
    on : (p q : Bool) → same_id s t ≡ p → id_is_below s t ≡ q → Ascends (put_id s ids) → Ascends (if p then (t ∷ ids) else (if q then (s ∷ t ∷ ids) else (t ∷ put_id s ids)))
    on true q e f more = up
    on false true e f more = let l : id_order s t ≡ Less = is-less (id_order s t) f in ((l, above-all s t ids l up.0), up)
    on false false e f more =
        let l : id_order t s ≡ Less = id-total.antisymm t s ∙ not-below (id_order s t) (sym (same-by-order s t) ∙ e) f in
        (above-put t s ids l up.0, more)

pub has-put : (t s : ObjectId) (ids : List ObjectId) → has_id t (put_id s ids) ≡ (same_id t s || has_id t ids)
has-put t s [] = refl
has-put t s (u ∷ ids) = on (same_id s u) (id_is_below s u) refl (has-put t s ids)
  where
    twice : (p q : Bool) → (p || q) ≡ (p || (p || q))
    twice true q = refl
    twice false q = refl

    swapped : (p q r : Bool) → (p || (q || r)) ≡ (q || (p || r))
    swapped true true r = refl
    swapped true false r = refl
    swapped false q r = refl

    on : (p q : Bool) → same_id s u ≡ p → has_id t (put_id s ids) ≡ (same_id t s || has_id t ids) → has_id t (if p then (u ∷ ids) else (if q then (s ∷ u ∷ ids) else (u ∷ put_id s ids))) ≡ (same_id t s || has_id t (u ∷ ids))
    on true q e more = subst (λ v. has_id t (u ∷ ids) ≡ (same_id t v || has_id t (u ∷ ids))) (sym (same-id s u e)) (twice (same_id t u) (has_id t ids))
    on false true e more = refl
    on false false e more = rw more (swapped (same_id t u) (same_id t s) (has_id t ids))
