-- Whether a place of a list is the one that is set.
use Rattle.std.proofs.Common.{ℕ, ◌≡◌, ◌≢◌, ◌==◌, Bool, true, false, List, set, Option, Some, refl, sym, ◌∙◌, subst, arith}
use Rattle.std.specs.Prelude.{slice_get}
use Rattle.std.proofs.lemmas.Option.{same_Some}
use Rattle.mdb_driver_rules.proofs.General.OneElement.{get-set_same, get-set_other}

pub some-same : {T : Type 0} (x y : T) (g : Option T) → g ≡ Some x → g ≡ Some y → x ≡ y
some-same x y g e f = same_Some x y (sym e ∙ f)

-- whether the place is the one that is set
pub data Place {T : Type 0} (xs : List T) (i : ℕ) (t : T) (j : ℕ) : Type 0 where
  at_it : i ≡ j → slice_get (set xs i t) j ≡ Some t → Place xs i t j
  beside : i ≢ j → slice_get (set xs i t) j ≡ slice_get xs j → Place xs i t j

pub place : {T : Type 0} (xs : List T) (i : ℕ) (s t : T) → slice_get xs i ≡ Some s → (j : ℕ) → Place xs i t j
place xs i s t e j = on (i == j) refl
  where
    on : (b : Bool) → (i == j) ≡ b → Place xs i t j
    on true f = let w : i ≡ j = grind arith in at_it w (subst (λ j. slice_get (set xs i t) j ≡ Some t) w (get-set_same xs i s t e))
    on false f = let w : i ≢ j = grind arith in beside w (get-set_other xs i j t w)
