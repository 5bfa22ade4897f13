-- What is last in a list of numbers.
use Rattle.std.proofs.Common.{ℕ, ◌≡◌, true, List, [], ◌∷◌, Option, Some, None, refl, ap, ◌∙◌, arith}
use Rattle.mdb_log.specs.Connections.{has}
use Rattle.mdb_pool_rules.specs.Serving.{last_of}

-- the last of a list is in it
pub last_of-has : (k : ℕ) (ks : List ℕ) → last_of ks ≡ Some k → has k ks ≡ true
last_of-has k [] e = cc
last_of-has k (j ∷ ks) e = on (last_of ks) refl (last_of-has k ks)
  where
    on : (o : Option ℕ) → last_of ks ≡ o → (last_of ks ≡ Some k → has k ks ≡ true) → has k (j ∷ ks) ≡ true
    on None f deeper = let g : last_of (j ∷ ks) ≡ Some j = rw f refl in let w : j ≡ k = cc in grind arith
    on (Some i) f deeper = let g : last_of (j ∷ ks) ≡ Some i = rw f refl in let w : i ≡ k = cc in let v : has k ks ≡ true = deeper (f ∙ ap Some w) in grind arith

-- a list without a last one is empty
pub last_of-none : (ks : List ℕ) → last_of ks ≡ None → ks ≡ []
last_of-none [] e = refl
last_of-none (j ∷ ks) e = on (last_of ks) refl
  where
    on : (o : Option ℕ) → last_of ks ≡ o → j ∷ ks ≡ []
    on None f = let g : last_of (j ∷ ks) ≡ Some j = rw f refl in cc
    on (Some i) f = let g : last_of (j ∷ ks) ≡ Some i = rw f refl in cc
