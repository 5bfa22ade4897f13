-- The first that passes, where one that passes alone does so no longer.
use Rattle.std.proofs.Common.{ℕ, ◌≡◌, ◌==◌, Bool, true, false, if◌then◌else◌, List, set, Option, Some, None, position, refl, sym, ◌∙◌, ap, arith}
use Rattle.std.specs.Prelude.{slice_get}
use Rattle.mdb_log.specs.History.{is_number}
use Rattle.mdb_driver_rules.proofs.General.OneElement.{position-set, position-at, position-within, position-none, nowhere, any-nowhere, at-place}
use Rattle.mdb_driver_rules.proofs.General.OnePosition.{Place, at_it, beside, place, some-same}

module _ {T : Type 0} (f : T → Bool) (xs : List T) (i : ℕ) (s t : T) (at_i : slice_get xs i ≡ Some s) (shut : f t ≡ false)
    (alone : (j : ℕ) (x : T) → slice_get xs j ≡ Some x → f x ≡ true → f s ≡ true → i ≡ j) where
  -- it is the first
  first : f s ≡ true → position f xs ≡ Some i
  first e = on (position f xs) refl
    where
      on : (q : Option ℕ) → position f xs ≡ q → position f xs ≡ Some i
      on None g = let k : f s ≡ false = position-none f xs g i s at_i in let w : true ≡ false = sym e ∙ k in cc
      on (Some j) g = at_j (slice_get xs j) refl
        where
          at_j : (x : Option T) → slice_get xs j ≡ x → position f xs ≡ Some i
          at_j None k = absurd (at-place xs j (position-within f xs j g) k)
          at_j (Some x) k = let w : i ≡ j = alone j x k (position-at f xs j x g k).0 e in g ∙ ap Some (sym w)

  -- afterwards none passes
  gone : f s ≡ true → position f (set xs i t) ≡ None
  gone e = nowhere f (set xs i t) (any-nowhere f (set xs i t) none)
    where
      none : (j : ℕ) (x : T) → slice_get (set xs i t) j ≡ Some x → f x ≡ false
      none j x g = on (place xs i s t at_i j)
        where
          on : Place xs i t j → f x ≡ false
          on (at_it w k) = ap f (some-same x t (slice_get (set xs i t) j) g k) ∙ shut
          on (beside ne k) = at_x (f x) refl
            where
              at_x : (b : Bool) → f x ≡ b → f x ≡ false
              at_x true p = absurd (ne (alone j x (sym k ∙ g) p e))
              at_x false p = p

  -- it does not pass, so it is not the first
  elsewhere : f s ≡ false → is_number (position f xs) i ≡ false
  elsewhere e = on (position f xs) refl
    where
      on : (q : Option ℕ) → position f xs ≡ q → is_number q i ≡ false
      on None g = refl
      on (Some j) g = at_j (j == i) refl
        where
          at_j : (b : Bool) → (j == i) ≡ b → (j == i) ≡ false
          at_j false w = w
          at_j true w =
              let n : j ≡ i = grind arith in
              let k : f s ≡ true = (position-at f xs i s (g ∙ ap Some n) at_i).0 in
              let c : true ≡ false = sym k ∙ e in
              cc

  pub position-shut : position f (set xs i t) ≡ if is_number (position f xs) i then None else position f xs
  position-shut = on (f s) refl
    where
      on : (b : Bool) → f s ≡ b → position f (set xs i t) ≡ if is_number (position f xs) i then None else position f xs
      on true e = rw (first e) (gone e ∙ same)
        where
          same : None ≡ if (i == i) then None else Some i
          same = let w : (i == i) ≡ true = grind arith in rw w refl
      on false e = rw (elsewhere e) (position-set f xs i s t at_i (shut ∙ sym e))
