-- Lists of numbers: what is in them, and what is last.
use Rattle.std.proofs.Common.{ℕ, ◌≡◌, ◌==◌, true, not, ◌&&◌, ◌||◌, List, [], ◌∷◌, ◌++◌, refl, sym, ◌∙◌, arith}
use Rattle.std.proofs.lemmas.Grind.{common_steps}
use Rattle.mdb_log.specs.History.{without}
use Rattle.mdb_log.specs.Connections.{has}
use Rattle.mdb_log.proofs.Bools.{both-left}

pub same-number : (k : ℕ) → (k == k) ≡ true
same-number k = grind arith

pub has-append : (k j : ℕ) (ks : List ℕ) → has k (ks ++ j ∷ []) ≡ has k ks || (j == k)
has-append k j [] = grind arith
has-append k j (i ∷ ks) = grind (arith, has-append k j ks)

pub has-without-is : (k j : ℕ) (ks : List ℕ) → has k (without j ks) ≡ has k ks && not (j == k)
has-without-is k j [] = refl
has-without-is k j (i ∷ ks) = grind (arith, common_steps, has-without-is k j ks)

pub has-without : (k j : ℕ) (ks : List ℕ) → has k (without j ks) ≡ true → has k ks ≡ true
has-without k j ks e = both-left (has k ks) (not (j == k)) (sym (has-without-is k j ks) ∙ e)
