-- A pool in which something lives after a step is one in which something lived before, or one that came with the step.
use Rattle.std.proofs.Common.{ℕ, zero, suc, ◌≡◌, ◌+◌, ◌≤◌, ◌<◌, Bool, true, false, List, [], ◌∷◌, ◌++◌, length, set, Some, ◌⊎◌, inl, inr, refl, sym, ◌∙◌, ap, subst, arith, nat_lt}
use Rattle.std.specs.Prelude.{slice_get}
use Rattle.std.proofs.lemmas.Bool.Decides.{nat_tests}
use Rattle.std.proofs.lemmas.List.{length-set}
use Rattle.mdb_pool.specs.Core.{PoolCore}
use Rattle.mdb_pool.specs.Now.{is_spent}
use Rattle.mdb_driver_pools.specs.declared.pool_change.PoolChange.{PoolChange}
use Rattle.mdb_driver_pools.specs.declared.pool_change.PoolChange.TheVariants.{Alter, Open}
use Rattle.mdb_driver_pools.specs.Living.{lives_at, lives_in}
use Rattle.mdb_driver_pools.specs.Planned.{Leads, LeadsAll}
use Rattle.mdb_driver_rules.proofs.General.OnePosition.{Place, at_it, beside, place}
use Rattle.mdb_driver_pools.proofs.InMemory.LivingPools.{lives-of}

pub get-before : {T : Type 0} (xs : List T) (y : T) (i : ℕ) → i < length xs → slice_get (xs ++ y ∷ []) i ≡ slice_get xs i
get-before [] y i l = absurd (omega arith)
get-before (x ∷ xs) y zero l = refl
get-before (x ∷ xs) y (suc i) l = get-before xs y i (omega arith)

pub get-last : {T : Type 0} (xs : List T) (y : T) → slice_get (xs ++ y ∷ []) (length xs) ≡ Some y
get-last [] y = refl
get-last (x ∷ xs) y = get-last xs y

pub length-last : {T : Type 0} (xs : List T) (y : T) → length (xs ++ y ∷ []) ≡ length xs + 1
length-last [] y = refl
length-last (x ∷ xs) y = ap suc (length-last xs y) ∙ (let e : suc (length xs + 1) ≡ length (x ∷ xs) + 1 = omega arith in e)

-- it lived, or it is new
abbrev pub Lived : List PoolCore → ℕ → Type 0
Lived pools p = (lives_at pools p ≡ true) ⊎ (length pools ≤ p)

-- one pool changes at its place
pub lived-before : (pools : List PoolCore) (i p : ℕ) (s t : PoolCore) → slice_get pools i ≡ Some s → is_spent s ≡ false → lives_at (set pools i t) p ≡ true → lives_at pools p ≡ true
lived-before pools i p s t at lives after = on (place pools i s t at p)
  where
    on : Place pools i t p → lives_at pools p ≡ true
    on (at_it w e) = subst (λ j. lives_at pools j ≡ true) w (lives-of pools i s at lives)
    on (beside ne e) = ap lives_in (sym e) ∙ after

one-change : (x : PoolChange) (pools between : List PoolCore) (p : ℕ) → Leads x pools between → Lived between p → Lived pools p
one-change (Alter i plan) pools between p f (inl k) =
    inl (lived-before pools i p f.0 f.1 f.2 f.5 (subst (λ (v : List PoolCore). lives_at v p ≡ true) f.4 k))
one-change (Alter i plan) pools between p f (inr l) = inr (let e : length between ≡ length pools = ap length f.4 ∙ length-set pools i f.1 in omega arith)
one-change (Open core) pools between p f (inl k) = on (nat_lt p (length pools)) refl
  where
    on : (b : Bool) → nat_lt p (length pools) ≡ b → Lived pools p
    on true e = let l : p < length pools = grind (arith, nat_tests) in inl (sym (ap (λ (v : List PoolCore). lives_in (slice_get v p)) f ∙ ap lives_in (get-before pools core p l)) ∙ k)
    on false e = inr (grind (arith, nat_tests))
one-change (Open core) pools between p f (inr l) = inr (let e : length between ≡ length pools + 1 = ap length f ∙ length-last pools core in omega arith)

pub still-lives : (changes : List PoolChange) (pools later : List PoolCore) (p : ℕ) → LeadsAll changes pools later → lives_at later p ≡ true → Lived pools p
still-lives [] pools later p e l = inl (subst (λ (v : List PoolCore). lives_at v p ≡ true) e l)
still-lives (x ∷ more) pools later p d l = one-change x pools d.0 p d.1 (still-lives more d.0 later p d.2 l)
