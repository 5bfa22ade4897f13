-- One pool changes, or one more comes: what memory has then.
use Rattle.std.proofs.Common.{ℕ, zero, suc, ◌≡◌, ◌+◌, ◌<◌, ◌≤◌, ◌==◌, Bool, true, false, List, [], ◌∷◌, ◌++◌, length, set, position, Option, Some, None, refl, sym, ◌∙◌, ap, append-nil, get_or, subst, arith}
use Rattle.std.specs.Prelude.{option_map, remove, slice_get}
use Rattle.std.proofs.lemmas.Bool.Decides.{nat_tests}
use Rattle.std.proofs.lemmas.Option.{slice_get_read, slice_get_within}
use Rattle.mdb_pool.specs.Core.{PoolCore}
use Rattle.mdb_pool.specs.Now.{is_spent}
use Rattle.mdb_driver_pools.specs.declared.placed.Placed.{Placed}
use Rattle.mdb_driver_pools.specs.Living.{index_in, left_at, living_from}
use Rattle.mdb_driver_rules.proofs.General.OneElement.{get-set_same}
use Rattle.mdb_driver_rules.proofs.General.OnePosition.{some-same}
use Rattle.mdb_driver_pools.proofs.InMemory.LivingPools.{position-hit, position-miss}
use Rattle.mdb_driver_pools.proofs.InMemory.StillLives.{length-last}

abbrev placed : ℕ → PoolCore → Placed
placed k s = record { place = k; core = s }

-- where the pool at a place stands, in which something lives
pub record Stands (n k p : ℕ) (pools : List PoolCore) (s : PoolCore) : Type 0 where
  pub index : ℕ
  pub found : position (λ (x : Placed). x.place == k) (living_from n pools) ≡ Some index
  pub there : slice_get (living_from n pools) index ≡ Some (placed k s)

pub stands : (n k p : ℕ) (pools : List PoolCore) (s : PoolCore) → k ≡ n + p → slice_get pools p ≡ Some s → is_spent s ≡ false → Stands n k p pools s
stands n k p [] s e at lives = cc
stands n k zero (x ∷ more) s e at lives =
    let same : x ≡ s = cc in
    let alive : is_spent x ≡ false = ap is_spent same ∙ lives in
    let here : (n == k) ≡ true = grind (arith, nat_tests) in
    let own : n ≡ k = omega arith in
    record {
      index = 0;
      found = rw alive (position-hit (λ (y : Placed). y.place == k) (placed n x) (living_from (suc n) more) here);
      there = rw alive (ap Some (ap (λ m. placed m x) own ∙ ap (placed k) same));
    }
stands n k (suc p) (x ∷ more) s e at lives = on (is_spent x) refl (stands (suc n) k p more s (omega arith) at lives)
  where
    on : (b : Bool) → is_spent x ≡ b → Stands (suc n) k p more s → Stands n k (suc p) (x ∷ more) s
    on true f r = record { index = r.index; found = rw f r.found; there = rw f r.there }
    on false f r =
        let off : (n == k) ≡ false = grind (arith, nat_tests) in
        record {
          index = suc r.index;
          found = rw f (position-miss (λ (y : Placed). y.place == k) (placed n x) (living_from (suc n) more) off ∙ ap (option_map suc) r.found);
          there = rw f r.there;
        }

-- the one at the index leaves, where nothing lives in it
pub left-spent : (xs : List Placed) (i : ℕ) (x : Placed) → slice_get xs i ≡ Some x → is_spent x.core ≡ true → left_at xs i ≡ remove xs i
left-spent xs i x at e = rw (at, e) refl

pub left-kept : (xs : List Placed) (i : ℕ) (x : Placed) → slice_get xs i ≡ Some x → is_spent x.core ≡ false → left_at xs i ≡ xs
left-kept xs i x at e = rw (at, e) refl

-- behind the first one
left-behind : (x : Placed) (xs : List Placed) (i : ℕ) → left_at (x ∷ xs) (suc i) ≡ x ∷ left_at xs i
left-behind x xs i = on (slice_get xs i) refl
  where
    on : (o : Option Placed) → slice_get xs i ≡ o → left_at (x ∷ xs) (suc i) ≡ x ∷ left_at xs i
    on None e = rw e refl
    on (Some y) e = in-two (is_spent y.core) refl
      where
        in-two : (b : Bool) → is_spent y.core ≡ b → left_at (x ∷ xs) (suc i) ≡ x ∷ left_at xs i
        in-two true f = rw (e, f) refl
        in-two false f = rw (e, f) refl

-- the pool at a place, in which something lives, becomes another one
pub changed-from : (n k p : ℕ) (pools : List PoolCore) (s t : PoolCore) (i : ℕ) → k ≡ n + p → slice_get pools p ≡ Some s → is_spent s ≡ false
    → position (λ (x : Placed). x.place == k) (living_from n pools) ≡ Some i → left_at (set (living_from n pools) i (placed k t)) i ≡ living_from n (set pools p t)
changed-from n k p [] s t i e at lives found = cc
changed-from n k zero (x ∷ more) s t i e at lives found =
    let same : x ≡ s = cc in
    let alive : is_spent x ≡ false = ap is_spent same ∙ lives in
    let here : (n == k) ≡ true = grind (arith, nat_tests) in
    let own : k ≡ n = omega arith in
    let first : position (λ (y : Placed). y.place == k) (living_from n (x ∷ more)) ≡ Some 0 = rw alive (position-hit (λ (y : Placed). y.place == k) (placed n x) (living_from (suc n) more) here) in
    let none : Some 0 ≡ Some i = sym first ∙ found in
    let zeroth : 0 ≡ i = cc in
    subst (λ j. left_at (set (living_from n (x ∷ more)) j (placed k t)) j ≡ living_from n (t ∷ more)) zeroth
    (rw alive (on own (is_spent t) refl))
  where
    on : k ≡ n → (b : Bool) → is_spent t ≡ b → left_at (placed k t ∷ living_from (suc n) more) 0 ≡ living_from n (t ∷ more)
    on own true f = rw f refl
    on own false f = rw f (ap (λ m. placed m t ∷ living_from (suc n) more) own)
changed-from n k (suc p) (x ∷ more) s t i e at lives found = on (is_spent x) refl (λ j was. changed-from (suc n) k p more s t j (omega arith) at lives was)
  where
    on : (b : Bool) → is_spent x ≡ b
        → ((j : ℕ) → position (λ (y : Placed). y.place == k) (living_from (suc n) more) ≡ Some j → left_at (set (living_from (suc n) more) j (placed k t)) j ≡ living_from (suc n) (set more p t))
        → left_at (set (living_from n (x ∷ more)) i (placed k t)) i ≡ living_from n (x ∷ set more p t)
    on true f deeper =
        let same : living_from n (x ∷ more) ≡ living_from (suc n) more = rw f refl in
        let was : position (λ (y : Placed). y.place == k) (living_from (suc n) more) ≡ Some i = ap (position (λ (y : Placed). y.place == k)) (sym same) ∙ found in
        rw f (deeper i was)
    on false f deeper =
        let off : (n == k) ≡ false = grind (arith, nat_tests) in
        let r = stands (suc n) k p more s (omega arith) at lives in
        let first : position (λ (y : Placed). y.place == k) (living_from n (x ∷ more)) ≡ Some (suc r.index) =
        rw f (position-miss (λ (y : Placed). y.place == k) (placed n x) (living_from (suc n) more) off ∙ ap (option_map suc) r.found) in
        let both : Some (suc r.index) ≡ Some i = sym first ∙ found in
        let index : suc r.index ≡ i = cc in
        let tail : left_at (set (living_from (suc n) more) r.index (placed k t)) r.index ≡ living_from (suc n) (set more p t) = deeper r.index r.found in
        subst (λ j. left_at (set (living_from n (x ∷ more)) j (placed k t)) j ≡ living_from n (x ∷ set more p t)) index
        (rw f (left-behind (placed n x) (set (living_from (suc n) more) r.index (placed k t)) r.index ∙ ap (λ ys. placed n x ∷ ys) tail))

pub changed : (p : ℕ) (pools : List PoolCore) (s t : PoolCore) (i : ℕ) → slice_get pools p ≡ Some s → is_spent s ≡ false → index_in pools p ≡ Some i → left_at (set (living_from 0 pools) i (placed p t)) i ≡ living_from 0 (set pools p t)
changed p pools s t i at lives found = changed-from 0 p p pools s t i (omega arith) at lives found

-- where it stands at first
pub index-there : (p : ℕ) (pools : List PoolCore) (s : PoolCore) (i : ℕ) → slice_get pools p ≡ Some s → is_spent s ≡ false → index_in pools p ≡ Some i → slice_get (living_from 0 pools) i ≡ Some (placed p s)
index-there p pools s i at lives found =
    let r = stands 0 p p pools s (omega arith) at lives in
    let both : Some r.index ≡ Some i = sym r.found ∙ found in
    let same : r.index ≡ i = cc in
    subst (λ j. slice_get (living_from 0 pools) j ≡ Some (placed p s)) same r.there

pub index-some : (p : ℕ) (pools : List PoolCore) (s : PoolCore) → slice_get pools p ≡ Some s → is_spent s ≡ false → index_in pools p ≡ None → ⊥
index-some p pools s at lives none = let r = stands 0 p p pools s (omega arith) at lives in let k : ◌≡◌ {A = Option ℕ} (Some r.index) None = sym r.found ∙ none in cc

-- one more comes last
pub opened-last : (n : ℕ) (pools : List PoolCore) (s : PoolCore) → living_from n (pools ++ s ∷ []) ≡ living_from n pools ++ living_from (n + length pools) (s ∷ [])
opened-last n [] s = ap (λ m. living_from m (s ∷ [])) (let e : n ≡ n + 0 = omega arith in e)
opened-last n (x ∷ pools) s = on (is_spent x) refl (opened-last (suc n) pools s ∙ ap (λ m. living_from (suc n) pools ++ living_from m (s ∷ [])) (let e : suc n + length pools ≡ n + length (x ∷ pools) = omega arith in e))
  where
    on : (b : Bool) → is_spent x ≡ b → living_from (suc n) (pools ++ s ∷ []) ≡ living_from (suc n) pools ++ living_from (n + length (x ∷ pools)) (s ∷ [])
        → living_from n ((x ∷ pools) ++ s ∷ []) ≡ living_from n (x ∷ pools) ++ living_from (n + length (x ∷ pools)) (s ∷ [])
    on true e r = rw e r
    on false e r = rw e (ap (λ ys. placed n x ∷ ys) r)

pub opened-one : (pools : List PoolCore) (s : PoolCore) → living_from 0 pools ++ living_from (length pools) (s ∷ []) ≡ living_from 0 (pools ++ s ∷ [])
opened-one pools s = sym (opened-last 0 pools s ∙ ap (λ m. living_from 0 pools ++ living_from m (s ∷ [])) (let k : 0 + length pools ≡ length pools = omega arith in k))

-- those that stay are at most as many
shorter : (xs : List Placed) (i : ℕ) → length (remove xs i) ≤ length xs
shorter [] zero = omega arith
shorter [] (suc i) = omega arith
shorter (x ∷ xs) zero = omega arith
shorter (x ∷ xs) (suc i) = let r = shorter xs i in let s : length (remove (x ∷ xs) (suc i)) ≡ suc (length (remove xs i)) = refl in omega arith

pub left-shorter : (xs : List Placed) (i : ℕ) → length (left_at xs i) ≤ length xs
left-shorter xs i = on (slice_get xs i) refl
  where
    on : (o : Option Placed) → slice_get xs i ≡ o → length (left_at xs i) ≤ length xs
    on None e = rw e (omega arith)
    on (Some x) e = in-two (is_spent x.core) refl
      where
        in-two : (b : Bool) → is_spent x.core ≡ b → length (left_at xs i) ≤ length xs
        in-two true f = rw (e, f) (shorter xs i)
        in-two false f = rw (e, f) (omega arith)

-- one more takes at most one place
pub one-at-most : (p : ℕ) (s : PoolCore) (xs : List Placed) → length (xs ++ living_from p (s ∷ [])) ≤ length xs + 1
one-at-most p s xs = on (is_spent s) refl
  where
    on : (b : Bool) → is_spent s ≡ b → length (xs ++ living_from p (s ∷ [])) ≤ length xs + 1
    on true e = let k : xs ++ [] ≡ xs = append-nil xs in rw (e, k) (omega arith)
    on false e = let k : length (xs ++ placed p s ∷ []) ≡ length xs + 1 = length-last xs (placed p s) in rw e (omega (arith, k))

-- what is read at the index of a pool in which something lives
module _ (p : ℕ) (pools : List PoolCore) (s : PoolCore) (i : ℕ) (xs : List Placed) (at : slice_get pools p ≡ Some s) (lives : is_spent s ≡ false) (found : index_in pools p ≡ Some i) (are : xs ≡ living_from 0 pools) where
  there : slice_get xs i ≡ Some (placed p s)
  there = ap (λ ys. slice_get ys i) are ∙ index-there p pools s i at lives found

  pub within : i < length xs
  within = slice_get_within xs i (placed p s) there

  pub read-there : (x : Placed) → x ≡ get_or xs i x → x ≡ placed p s
  read-there x e = some-same x (placed p s) (slice_get xs i) (slice_get_read xs (length xs) i x refl within e) there

  -- when it became another one
  module _ (old : Placed) (was : old ≡ get_or xs i old) (after t : PoolCore) (became : after ≡ t) where
    abbrev pub put : Placed
    put = record { place = old.place; core = after }

    pub put-is : put ≡ placed p t
    put-is = ap (λ n. placed n after) (ap (λ (x : Placed). x.place) (read-there old was)) ∙ ap (placed p) became

    stands-put : slice_get (set xs i put) i ≡ Some put
    stands-put = get-set_same xs i (placed p s) put there

    pub read-put : (x : Placed) → x ≡ get_or (set xs i put) i x → x ≡ placed p t
    read-put x e = some-same x put (slice_get (set xs i put) i) (slice_get_read (set xs i put) (length (set xs i put)) i x refl (slice_get_within (set xs i put) i put stands-put) e) stands-put ∙ put-is

    pub left-put : left_at (set xs i put) i ≡ living_from 0 (set pools p t)
    left-put = ap (λ x. left_at (set xs i x) i) put-is ∙ (ap (λ ys. left_at (set ys i (placed p t)) i) are ∙ changed p pools s t i at lives found)
