-- Numbers that are noted.
use Rattle.std.proofs.Common.{◌≡◌, ℕ, Bool, true, false, ◌==◌, ◌||◌, List, [], ◌∷◌, ◌++◌, refl, sym, subst}
use Rattle.std.proofs.Math.Bool.{or-false}
use Rattle.mdb_log.specs.Connections.{has}
use Rattle.mdb_log.proofs.Numbers.{has-append}
use Rattle.mdb_slots.proofs.Numbers.{same-number}
use Rattle.mdb_pool.specs.Kept.Keyed.{marked}

-- it is there, and the others stay
pub has-marked : (k r : ℕ) (ks : List ℕ) → has k (marked r ks) ≡ (has k ks || (r == k))
has-marked k r ks = on (has r ks) refl
  where
    there : (b : Bool) → (r == k) ≡ b → has r ks ≡ true → has k ks ≡ (has k ks || (r == k))
    there true f e = let w : has k ks ≡ true = subst (λ i. has i ks ≡ true) (same-number r k f) e in rw w refl
    there false f e = rw f (sym (or-false (has k ks)))

    on : (b : Bool) → has r ks ≡ b → has k (marked r ks) ≡ (has k ks || (r == k))
    on true e = rw e (there (r == k) refl e)
    on false e = rw e (has-append k r ks)

-- a number that is there is not noted again
pub marked-again : (k : ℕ) (ks : List ℕ) → has k ks ≡ true → ks ≡ marked k ks
marked-again k ks e = rw e refl

-- and a new one comes last
pub marked-new : (k : ℕ) (ks : List ℕ) → has k ks ≡ false → ks ++ k ∷ [] ≡ marked k ks
marked-new k ks e = rw e refl
