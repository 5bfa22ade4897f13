-- A text told in pieces.
use Rattle.std.proofs.Common.{◌≡◌, ℕ, ◌+◌, ◌≤◌, ◌⊎◌, List, ◌++◌, length, take, Option, inl, inr, arith, subst}
use Rattle.std.proofs.lemmas.List.{take-append-le}
use Rattle.std.proofs.Math.Seq.{take-append-add, take-length}
use Rattle.std.proofs.lemmas.Grind.{common_steps}
use Rattle.mdb_base.specs.Outside.{Rose, Held, Took}
use Rattle.mdb_lines.specs.Loops.{TookFront}
use Rattle.mdb_lines.proofs.Loops.{took_more}

-- a front of the first piece is a front of the whole
pub front_whole : (a b : Option Held) (x y : List ℕ) → TookFront a b x → TookFront a b (x ++ y)
front_whole a b x y (n, took) = elim (cases_le n (length x)) [
  | inl within ↦ (n, rw (take-append-le n x y within) took)
  | inr past ↦ (length x, rw (take-append-le (length x) x y (omega arith), take-length x) (rw (take_past n x past) at took))
]
  where
    cases_le : (m k : ℕ) → (m ≤ k) ⊎ (k ≤ m)
    cases_le m k = grind arith

    take_past : (m : ℕ) (l : List ℕ) → length l ≤ m → take m l ≡ l
    take_past m l h = grind (arith, common_steps)

-- the first piece, and a front of the rest
pub front_after : (a b c : Option Held) (x y : List ℕ) → Took a b x → TookFront b c y → TookFront a c (x ++ y)
front_after a b c x y first (n, took) = (length x + n, rw (take-append-add x y n) (took_more a b c x (take n y) first took))

pub rose_after : (a b c : ℕ) → b ≡ a → Rose b c → Rose a c
rose_after a b c e h = subst (λ (n : ℕ). Rose n c) e h
