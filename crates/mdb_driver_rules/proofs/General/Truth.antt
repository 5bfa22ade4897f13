-- Tests that are joined.
use Rattle.std.proofs.Common.{◌≡◌, ◌&&◌, ◌||◌, Bool, true, false, not, refl, sym, ◌∙◌}

pub or-false : (b : Bool) → b || false ≡ b
or-false true = refl
or-false false = refl

pub or-true : (b : Bool) → b || true ≡ true
or-true true = refl
or-true false = refl

pub and-true : (b : Bool) → b && true ≡ b
and-true true = refl
and-true false = refl

pub and-false : (b : Bool) → b && false ≡ false
and-false true = refl
and-false false = refl

-- what nothing is taken from and nothing added to
pub and-or-same : (b : Bool) → (b && not false) || false ≡ b
and-or-same true = refl
and-or-same false = refl

-- where one would hold, another that fails would hold
pub fails : (p q : Bool) → (p ≡ true → q ≡ true) → q ≡ false → p ≡ false
fails true q f e = let w : true ≡ false = sym (f refl) ∙ e in cc
fails false q f e = refl
