-- The values that meet a test go, one after another.
use Rattle.std.proofs.Common.{◌≡◌, ℕ, ◌<◌, ◌≤◌, Bool, true, false, not, ◌==◌, Some, None, List, [], ◌∷◌, map, filter, find, length, refl, sym, ◌∙◌, ap, subst, arith, if◌then◌else◌}
use Rattle.std.proofs.lemmas.Grind.{common_steps}
use Rattle.mdb_slots.specs.Lists.{has, apart}
use Rattle.mdb_slots.specs.Keyed.{others}
use Rattle.mdb_slots.proofs.Lists.{apart-first, apart-rest}
use Rattle.mdb_slots.proofs.Numbers.{same-number, is-same}

module _ {T : Type 0} (key : T → ℕ) (test : T → Bool) where
  abbrev left_out : List T → List T
  left_out xs = filter (λ x. not (test x)) xs

  unfound : (k : ℕ) (xs : List T) → has k (map key xs) ≡ false → others key k xs ≡ xs
  unfound k [] h = refl
  unfound k (x ∷ xs) h = on (key x == k) refl (unfound k xs)
    where
      on : (b : Bool) → (key x == k) ≡ b → (has k (map key xs) ≡ false → others key k xs ≡ xs) → others key k (x ∷ xs) ≡ x ∷ xs
      on true w more = let z : has k (map key (x ∷ xs)) ≡ true = rw w refl in cc
      on false w more = let g : has k (map key xs) ≡ false = grind (arith, common_steps, h, w) in rw w (ap (λ ys. x ∷ ys) (more g))

  found-has : (xs : List T) (y : T) → find test xs ≡ Some y → has (key y) (map key xs) ≡ true
  found-has [] y e = cc
  found-has (x ∷ xs) y e = on (test x) refl (found-has xs y)
    where
      on : (b : Bool) → test x ≡ b → (find test xs ≡ Some y → has (key y) (map key xs) ≡ true) → has (key y) (map key (x ∷ xs)) ≡ true
      on true w more =
          let f : find test (x ∷ xs) ≡ Some x = rw w refl in
          let g : Some x ≡ Some y = sym f ∙ e in
          let h : x ≡ y = cc in
          rw h (rw (is-same (key y)) refl)
      on false w more =
          let f : find test xs ≡ Some y = subst (λ (b : Bool). (if b then Some x else find test xs) ≡ Some y) w e in
          let g : has (key y) (map key xs) ≡ true = more f in
          grind (arith, common_steps, g)

  -- what does not meet the test stays where one that does goes
  pub sweep-one : (xs : List T) (y : T) → apart (map key xs) ≡ true → find test xs ≡ Some y → left_out (others key (key y) xs) ≡ left_out xs
  sweep-one [] y a e = refl
  sweep-one (x ∷ xs) y a e = on (test x) refl (sweep-one xs y (apart-rest (key x) (map key xs) a))
    where
      on : (b : Bool) → test x ≡ b → (find test xs ≡ Some y → left_out (others key (key y) xs) ≡ left_out xs) → left_out (others key (key y) (x ∷ xs)) ≡ left_out (x ∷ xs)
      on true w more =
          let f : find test (x ∷ xs) ≡ Some x = rw w refl in
          let g : Some x ≡ Some y = sym f ∙ e in
          let h : x ≡ y = cc in
          let u : others key (key x) xs ≡ xs = unfound (key x) xs (apart-first (key x) (map key xs) a) in
          subst (λ z. left_out (others key (key z) (x ∷ xs)) ≡ left_out (x ∷ xs)) h (rw (is-same (key x), u, w) refl)
      on false w more =
          let f : find test xs ≡ Some y = subst (λ (b : Bool). (if b then Some x else find test xs) ≡ Some y) w e in
          let h : has (key y) (map key xs) ≡ true = found-has xs y f in
          let d : (key x == key y) ≡ false = apart-number x (key y) (apart-first (key x) (map key xs) a) h in
          rw (d, w) (ap (λ zs. x ∷ zs) (more f))
        where
          apart-number : (x : T) (k : ℕ) → has (key x) (map key xs) ≡ false → has k (map key xs) ≡ true → (key x == k) ≡ false
          apart-number x k h e = at (key x == k) refl
            where
              at : (b : Bool) → (key x == k) ≡ b → (key x == k) ≡ false
              at true w = let z : has k (map key xs) ≡ false = subst (λ j. has j (map key xs) ≡ false) (same-number (key x) k w) h in cc
              at false w = w

  pub sweep-smaller : (xs : List T) (y : T) → find test xs ≡ Some y → length (others key (key y) xs) < length xs
  sweep-smaller [] y e = cc
  sweep-smaller (x ∷ xs) y e = on (test x) refl (sweep-smaller xs y)
    where
      fewer : (k : ℕ) (zs : List T) → length (others key k zs) ≤ length zs
      fewer k [] = omega arith
      fewer k (z ∷ zs) = grind (arith, common_steps, fewer k zs)

      on : (b : Bool) → test x ≡ b → (find test xs ≡ Some y → length (others key (key y) xs) < length xs) → length (others key (key y) (x ∷ xs)) < length (x ∷ xs)
      on true w more =
          let f : find test (x ∷ xs) ≡ Some x = rw w refl in
          let g : Some x ≡ Some y = sym f ∙ e in
          let h : x ≡ y = cc in
          subst (λ z. length (others key (key z) (x ∷ xs)) < length (x ∷ xs)) h (rw (is-same (key x)) (omega (arith, fewer (key x) xs)))
      on false w more =
          let f : find test xs ≡ Some y = subst (λ (b : Bool). (if b then Some x else find test xs) ≡ Some y) w e in
          at (key x == key y) refl (more f)
        where
          at : (d : Bool) → (key x == key y) ≡ d → length (others key (key y) xs) < length xs → length (others key (key y) (x ∷ xs)) < length (x ∷ xs)
          at true d r = rw d (omega (arith, r))
          at false d r = rw d (omega (arith, r))

  pub swept : (xs : List T) → find test xs ≡ None → left_out xs ≡ xs
  swept [] e = refl
  swept (x ∷ xs) e = on (test x) refl (swept xs)
    where
      on : (b : Bool) → test x ≡ b → (find test xs ≡ None → left_out xs ≡ xs) → left_out (x ∷ xs) ≡ x ∷ xs
      on true w more =
          let f : find test (x ∷ xs) ≡ Some x = rw w refl in
          let z : None ≡ Some x = sym e ∙ f in cc
      on false w more =
          let f : find test xs ≡ None = subst (λ (b : Bool). (if b then Some x else find test xs) ≡ None) w e in
          rw w (ap (λ ys. x ∷ ys) (more f))
