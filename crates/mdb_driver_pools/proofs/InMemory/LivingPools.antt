-- What is found among the pools in which something lives is what is found among all pools.
use Rattle.std.proofs.Common.{ℕ, zero, suc, ◌≡◌, ◌+◌, ◌<◌, ◌==◌, Bool, true, false, not, List, [], ◌∷◌, length, find, position, nat_lt, is_some, Bor, Option, Some, None, refl, sym, ◌∙◌, ap, arith}
use Rattle.std.specs.Prelude.{option_copied, option_map, slice_get}
use Rattle.std.specs.List.{position_or_len}
use Rattle.std.proofs.lemmas.Bool.Decides.{nat_tests}
use Rattle.std.proofs.lemmas.Option.{slice_get_within}
use Rattle.mdb_base.specs.declared.address.ServerAddress.{ServerAddress}
use Rattle.mdb_pool.specs.Core.{PoolCore}
use Rattle.mdb_pool.specs.Now.{has_job_now, holds_now, is_open_now, is_spent}
use Rattle.mdb_pool.proofs.KeptInLittle.NothingLives.{no-job, nobody-held, none-open, spent-shut}
use Rattle.mdb_driver_pools.specs.declared.placed.Placed.{Placed}
use Rattle.mdb_driver_pools.specs.Living.{if_lives, lives_at, lives_in, living_at, living_from}
use Rattle.mdb_driver_pools.specs.Standing.{is_open_at}
use Rattle.mdb_driver_rules.proofs.General.OneElement.{position-at}

-- where the first that passes stands
pub position-hit : {T : Type 0} (f : T → Bool) (x : T) (xs : List T) → f x ≡ true → position f (x ∷ xs) ≡ Some 0
position-hit f x xs e =
    let here : position_or_len f (x ∷ xs) ≡ 0 = rw e refl in
    let within : nat_lt 0 (length (x ∷ xs)) ≡ true = grind (arith, nat_tests) in
    rw (here, within) refl

pub position-miss : {T : Type 0} (f : T → Bool) (x : T) (xs : List T) → f x ≡ false → position f (x ∷ xs) ≡ option_map suc (position f xs)
position-miss f x xs e = on (nat_lt (position_or_len f xs) (length xs)) refl
  where
    here : position_or_len f (x ∷ xs) ≡ 1 + position_or_len f xs
    here = rw e refl

    on : (b : Bool) → nat_lt (position_or_len f xs) (length xs) ≡ b → position f (x ∷ xs) ≡ option_map suc (position f xs)
    on true g = let k : nat_lt (1 + position_or_len f xs) (length (x ∷ xs)) ≡ true = grind (arith, nat_tests) in rw (here, k, g) (ap Some (let e : 1 + position_or_len f xs ≡ suc (position_or_len f xs) = omega arith in e))
    on false g = let k : nat_lt (1 + position_or_len f xs) (length (x ∷ xs)) ≡ false = grind (arith, nat_tests) in rw (here, k, g) refl

shift : (n : ℕ) (o : Option ℕ) → option_map (λ i. suc n + i) o ≡ option_map (λ i. n + i) (option_map suc o)
shift n None = refl
shift n (Some i) = ap Some (let e : suc n + i ≡ n + suc i = omega arith in e)

from-zero : (o : Option ℕ) → option_map (λ i. 0 + i) o ≡ o
from-zero None = refl
from-zero (Some i) = ap Some (let e : 0 + i ≡ i = omega arith in e)

-- A test that passes for no pool in which nothing lives.
module _ (test : PoolCore → Bool) (fails : (s : PoolCore) → is_spent s ≡ true → test s ≡ false) where
  found-from : (n : ℕ) (pools : List PoolCore) → option_map (λ (x : Placed). x.place) (find (λ (x : Placed). test x.core) (living_from n pools)) ≡ option_map (λ i. n + i) (position test pools)
  found-from n [] = refl
  found-from n (s ∷ more) = on (is_spent s) (test s) refl refl (found-from (suc n) more)
    where
      on : (b d : Bool) → is_spent s ≡ b → test s ≡ d
          → option_map (λ (x : Placed). x.place) (find (λ (x : Placed). test x.core) (living_from (suc n) more)) ≡ option_map (λ i. suc n + i) (position test more)
          → option_map (λ (x : Placed). x.place) (find (λ (x : Placed). test x.core) (living_from n (s ∷ more))) ≡ option_map (λ i. n + i) (position test (s ∷ more))
      on true d e f r =
          let off : test s ≡ false = fails s e in
          let step : option_map (λ (x : Placed). x.place) (find (λ (x : Placed). test x.core) (living_from n (s ∷ more))) ≡ option_map (λ i. n + i) (option_map suc (position test more)) = rw e (r ∙ shift n (position test more)) in
          step ∙ sym (ap (option_map (λ i. n + i)) (position-miss test s more off))
      on false true e f r =
          let same : n + 0 ≡ n = omega arith in
          let step : option_map (λ (x : Placed). x.place) (find (λ (x : Placed). test x.core) (living_from n (s ∷ more))) ≡ Some (n + 0) = rw (e, f) (ap Some (sym same)) in
          step ∙ sym (ap (option_map (λ i. n + i)) (position-hit test s more f))
      on false false e f r =
          let step : option_map (λ (x : Placed). x.place) (find (λ (x : Placed). test x.core) (living_from n (s ∷ more))) ≡ option_map (λ i. n + i) (option_map suc (position test more)) = rw (e, f) (r ∙ shift n (position test more)) in
          step ∙ sym (ap (option_map (λ i. n + i)) (position-miss test s more f))

  pub found-place : (pools : List PoolCore) → option_map (λ (x : Placed). x.place) (find (λ (x : Placed). test x.core) (living_from 0 pools)) ≡ position test pools
  found-place pools = found-from 0 pools ∙ from-zero (position test pools)

-- something lives in the pool that is found so
pub lives-of : (pools : List PoolCore) (p : ℕ) (s : PoolCore) → slice_get pools p ≡ Some s → is_spent s ≡ false → lives_at pools p ≡ true
lives-of pools p s at e = rw (at, e) refl

pub alive-of : (pools : List PoolCore) (p : ℕ) (s : PoolCore) → lives_at pools p ≡ true → slice_get pools p ≡ Some s → is_spent s ≡ false
alive-of pools p s l at = not-not (is_spent s) (sym (ap lives_in at) ∙ l)
  where
    not-not : (b : Bool) → not b ≡ true → b ≡ false
    not-not true e = cc
    not-not false e = refl

-- there is a pool at a place in which something lives
pub some-living : (pools : List PoolCore) (p : ℕ) → lives_at pools p ≡ true → (s : PoolCore) × (slice_get pools p ≡ Some s)
some-living pools p l = on (slice_get pools p) refl
  where
    on : (o : Option PoolCore) → slice_get pools p ≡ o → (s : PoolCore) × (slice_get pools p ≡ Some s)
    on None e = let k : lives_at pools p ≡ false = rw e refl in cc
    on (Some s) e = (s, e)

pub lives-within : (pools : List PoolCore) (p : ℕ) → lives_at pools p ≡ true → p < length pools
lives-within pools p l = let s = some-living pools p l in slice_get_within pools p s.0 s.1

pub test-lives : (test : PoolCore → Bool) → ((s : PoolCore) → is_spent s ≡ true → test s ≡ false) → (pools : List PoolCore) (i : ℕ) (s : PoolCore) → position test pools ≡ Some i → slice_get pools i ≡ Some s → lives_at pools i ≡ true
test-lives test fails pools i s e at = lives-of pools i s at (on (is_spent s) refl)
  where
    on : (b : Bool) → is_spent s ≡ b → b ≡ false
    on true f = let k : test s ≡ true = (position-at test pools i s e at).0 in let off : test s ≡ false = fails s f in cc
    on false f = refl

-- the tests of searches
pub spent-open_at : (a : ServerAddress) (s : PoolCore) → is_spent s ≡ true → is_open_at a s ≡ false
spent-open_at a s e = rw (spent-shut s e) refl

pub spent-asked : (r : ℕ) (s : PoolCore) → is_spent s ≡ true → is_open_now s r ≡ false
spent-asked r s e = none-open s e r

pub spent-holder : (r : ℕ) (s : PoolCore) → is_spent s ≡ true → holds_now s r ≡ false
spent-holder r s e = nobody-held s e r

pub spent-job : (s : PoolCore) → is_spent s ≡ true → has_job_now s ≡ false
spent-job s e = no-job s e

-- what stands at a place
pub past-none : (n k : ℕ) (pools : List PoolCore) → k < n → find (λ (x : Placed). x.place == k) (living_from n pools) ≡ None
past-none n k [] l = refl
past-none n k (s ∷ more) l = on (is_spent s) refl (past-none (suc n) k more (omega arith))
  where
    on : (b : Bool) → is_spent s ≡ b → find (λ (x : Placed). x.place == k) (living_from (suc n) more) ≡ None → find (λ (x : Placed). x.place == k) (living_from n (s ∷ more)) ≡ None
    on true e r = rw e r
    on false e r = let off : (n == k) ≡ false = grind (arith, nat_tests) in rw (e, off) r

pub placed-at : (n k p : ℕ) (pools : List PoolCore) → k ≡ n + p → option_map (λ (x : Placed). x.core) (find (λ (x : Placed). x.place == k) (living_from n pools)) ≡ if_lives (slice_get pools p)
placed-at n k p [] e = refl
placed-at n k zero (s ∷ more) e = on (is_spent s) refl
  where
    on : (b : Bool) → is_spent s ≡ b → option_map (λ (x : Placed). x.core) (find (λ (x : Placed). x.place == k) (living_from n (s ∷ more))) ≡ if_lives (slice_get (s ∷ more) 0)
    on true f = rw (f, past-none (suc n) k more (omega arith)) refl
    on false f = let here : (n == k) ≡ true = grind (arith, nat_tests) in rw (f, here) refl
placed-at n k (suc p) (s ∷ more) e = on (is_spent s) refl (placed-at (suc n) k p more (omega arith))
  where
    on : (b : Bool) → is_spent s ≡ b → option_map (λ (x : Placed). x.core) (find (λ (x : Placed). x.place == k) (living_from (suc n) more)) ≡ if_lives (slice_get more p)
        → option_map (λ (x : Placed). x.core) (find (λ (x : Placed). x.place == k) (living_from n (s ∷ more))) ≡ if_lives (slice_get (s ∷ more) (suc p))
    on true f r = rw f r
    on false f r = let off : (n == k) ≡ false = grind (arith, nat_tests) in rw (f, off) r

pub living-is : (pools : List PoolCore) (p : ℕ) → option_map (λ (x : Placed). x.core) (find (λ (x : Placed). x.place == p) (living_from 0 pools)) ≡ living_at pools p
living-is pools p = placed-at 0 p p pools (omega arith)

-- what is found is read through a reference
pub copied-some : {T : Type 0} (o : Option (Bor T)) → is_some o ≡ is_some (option_copied o)
copied-some None = refl
copied-some (Some x) = refl

-- there is one where something lives, and none where nothing does
pub living-some : (o : Option PoolCore) → is_some (if_lives o) ≡ lives_in o
living-some None = refl
living-some (Some s) = on (is_spent s) refl
  where
    on : (b : Bool) → is_spent s ≡ b → is_some (if_lives (Some s)) ≡ lives_in (Some s)
    on true e = rw e refl
    on false e = rw e refl

pub living-there : (pools : List PoolCore) (p : ℕ) (s : PoolCore) → living_at pools p ≡ Some s → (slice_get pools p ≡ Some s) × (is_spent s ≡ false)
living-there pools p s e = on (slice_get pools p) refl e
  where
    on : (o : Option PoolCore) → slice_get pools p ≡ o → if_lives o ≡ Some s → (slice_get pools p ≡ Some s) × (is_spent s ≡ false)
    on None f g = cc
    on (Some u) f g = in-two (is_spent u) refl
      where
        in-two : (b : Bool) → is_spent u ≡ b → (slice_get pools p ≡ Some s) × (is_spent s ≡ false)
        in-two true k = let w : if_lives (Some u) ≡ None = rw k refl in let v : ◌≡◌ {A = Option PoolCore} None (Some s) = sym w ∙ g in cc
        in-two false k = let w : if_lives (Some u) ≡ Some u = rw k refl in let v : Some u ≡ Some s = sym w ∙ g in let same : u ≡ s = cc in (f ∙ v, ap is_spent (sym same) ∙ k)
