-- A slot or none, in the bits of one number.
use Rattle.std.proofs.Common.{◌≡◌, ◌==◌, ◌-◌, ◌^◌, ℕ, Bool, true, false, T, if◌then◌else◌, Option, None, Some, refl, sym, subst, eqb→eq}

-- all ones stand for none
abbrev pub slot_in : ℕ → Option ℕ
slot_in b = if b == 2 ^ 32 - 1 then None else Some b

abbrev pub bits_of : Option ℕ → ℕ
bits_of None = 2 ^ 32 - 1
bits_of (Some k) = k

-- the slot gives its bits back
pub bits_of-slot_in : (b : ℕ) → bits_of (slot_in b) ≡ b
bits_of-slot_in b = on (b == 2 ^ 32 - 1) refl
  where
    on : (t : Bool) → (b == 2 ^ 32 - 1) ≡ t → bits_of (if t then None else Some b) ≡ b
    on true e = sym (eqb→eq b (2 ^ 32 - 1) (subst (λ t. T t) (sym e) tt))
    on false e = refl
