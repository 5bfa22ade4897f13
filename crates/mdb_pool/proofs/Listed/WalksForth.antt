-- A walk through the values of a table, one after another.
use Rattle.std.proofs.Common.{◌≡◌, ℕ, ◌<◌, Bool, true, false, Option, Some, None, List, [], ◌∷◌, find, length, refl, sym, ◌∙◌, ap, arith}
use Rattle.mdb_slots.specs.Keyed.{after_key, rest_of}

module _ {T : Type 0} (key : T → ℕ) where
  -- less is left after each step
  pub walk-shorter : (ys : List T) (x : T) (p o : Option T) → p ≡ Some x → rest_of key o ys ≡ after_key key (key x) ys → length (rest_of key o ys) < length (rest_of key p ys)
  walk-shorter ys x p o at e = rw (at, e) (omega arith)

  -- and nothing at its end
  pub walk-over : (ys : List T) (p : Option T) → p ≡ None → rest_of key p ys ≡ []
  walk-over ys p at = rw at refl

  module _ (test : T → Bool) where
    -- a value that does not meet the test is passed by
    pub walk-miss : (ys : List T) (x : T) (p o : Option T) → p ≡ Some x → rest_of key o ys ≡ after_key key (key x) ys → test x ≡ false
        → find test (rest_of key p ys) ≡ find test ys → find test (rest_of key o ys) ≡ find test ys
    walk-miss ys x p o at e miss left = ap (find test) e ∙ (sym (passed (after_key key (key x) ys)) ∙ (sym (ap (λ q. find test (rest_of key q ys)) at) ∙ left))
      where
        passed : (zs : List T) → find test (x ∷ zs) ≡ find test zs
        passed zs = rw miss refl

    -- and the first one that does is found
    pub walk-hit : (ys : List T) (x : T) (p : Option T) → p ≡ Some x → test x ≡ true → find test (rest_of key p ys) ≡ find test ys → Some x ≡ find test ys
    walk-hit ys x p at hit left = sym (met (after_key key (key x) ys)) ∙ (sym (ap (λ q. find test (rest_of key q ys)) at) ∙ left)
      where
        met : (zs : List T) → find test (x ∷ zs) ≡ Some x
        met zs = rw hit refl

    -- nothing is found where none does
    pub walk-none : (ys : List T) (p : Option T) → p ≡ None → find test (rest_of key p ys) ≡ find test ys → None ≡ find test ys
    walk-none ys p at left = sym (ap (λ q. find test (rest_of key q ys)) at) ∙ left
