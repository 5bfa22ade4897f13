-- A walk through values by their numbers.
use Rattle.std.proofs.Common.{◌≡◌, ℕ, Bool, true, false, ◌==◌, if◌then◌else◌, List, [], ◌∷◌, map, filter, refl, ap, subst, arith}
use Rattle.std.proofs.lemmas.Grind.{common_steps}
use Rattle.mdb_slots.specs.Lists.{has, apart}
use Rattle.mdb_slots.specs.Keyed.{first_of, entry_after, after_key, rest_of}
use Rattle.mdb_slots.proofs.Lists.{apart-first, apart-rest}
use Rattle.mdb_slots.proofs.Numbers.{same-number, is-same}

module _ {T : Type 0} (key : T → ℕ) where
  -- a walk begins with all values
  pub rest-first : (xs : List T) → rest_of key (first_of xs) xs ≡ xs
  rest-first [] = refl
  rest-first (x ∷ xs) = rw (is-same (key x)) refl

  pub after-first : (k : ℕ) (xs : List T) → entry_after key k xs ≡ first_of (after_key key k xs)
  after-first k [] = refl
  after-first k (x ∷ xs) = grind (arith, common_steps, after-first k xs)

  apart-number : (x : T) (k : ℕ) (xs : List T) → has (key x) (map key xs) ≡ false → has k (map key xs) ≡ true → (key x == k) ≡ false
  apart-number x k xs h e = on (key x == k) refl
    where
      on : (b : Bool) → (key x == k) ≡ b → (key x == k) ≡ false
      on true w = let z : has k (map key xs) ≡ false = subst (λ j. has j (map key xs) ≡ false) (same-number (key x) k w) h in cc
      on false w = w

  -- a value that follows another is one of them
  follows : (k : ℕ) (xs ys : List T) (y : T) → after_key key k xs ≡ y ∷ ys → has (key y) (map key xs) ≡ true
  follows k [] ys y e = cc
  follows k (x ∷ xs) ys y e = on (key x == k) refl (follows k xs ys y)
    where
      on : (b : Bool) → (key x == k) ≡ b → (after_key key k xs ≡ y ∷ ys → has (key y) (map key xs) ≡ true) → has (key y) (map key (x ∷ xs)) ≡ true
      on true w more =
          let f : xs ≡ y ∷ ys = subst (λ (b : Bool). (if b then xs else after_key key k xs) ≡ y ∷ ys) w e in
          let h : has (key y) (map key xs) ≡ true = rw f (rw (is-same (key y)) refl) in
          grind (arith, common_steps, h)
      on false w more =
          let h : has (key y) (map key xs) ≡ true = more (subst (λ (b : Bool). (if b then xs else after_key key k xs) ≡ y ∷ ys) w e) in
          grind (arith, common_steps, h)

  after-after : (k : ℕ) (xs ys : List T) (y : T) → apart (map key xs) ≡ true → after_key key k xs ≡ y ∷ ys → after_key key (key y) xs ≡ ys
  after-after k [] ys y a e = cc
  after-after k (x ∷ xs) ys y a e = on (key x == k) refl (after-after k xs ys y (apart-rest (key x) (map key xs) a))
    where
      on : (b : Bool) → (key x == k) ≡ b → (after_key key k xs ≡ y ∷ ys → after_key key (key y) xs ≡ ys) → after_key key (key y) (x ∷ xs) ≡ ys
      on true w more =
          let f : xs ≡ y ∷ ys = subst (λ (b : Bool). (if b then xs else after_key key k xs) ≡ y ∷ ys) w e in
          let h : has (key y) (map key xs) ≡ true = rw f (rw (is-same (key y)) refl) in
          rw (apart-number x (key y) xs (apart-first (key x) (map key xs) a) h, f, is-same (key y)) refl
      on false w more =
          let f : after_key key k xs ≡ y ∷ ys = subst (λ (b : Bool). (if b then xs else after_key key k xs) ≡ y ∷ ys) w e in
          rw (apart-number x (key y) xs (apart-first (key x) (map key xs) a) (follows k xs ys y f)) (more f)

  -- and goes on with those that are left
  pub rest-next : (k : ℕ) (xs : List T) → apart (map key xs) ≡ true → rest_of key (entry_after key k xs) xs ≡ after_key key k xs
  rest-next k xs a = rw (after-first k xs) (on (after_key key k xs) refl)
    where
      on : (zs : List T) → after_key key k xs ≡ zs → rest_of key (first_of zs) xs ≡ zs
      on [] e = refl
      on (z ∷ zs) e = ap (λ ys. z ∷ ys) (after-after k xs zs z a e)

  keys-filter : (k : ℕ) (test : T → Bool) (xs : List T) → has k (map key xs) ≡ false → has k (map key (filter test xs)) ≡ false
  keys-filter k test [] h = refl
  keys-filter k test (x ∷ xs) h = grind (arith, common_steps, h, keys-filter k test xs)

  -- values with different numbers still have them where some are left out
  pub apart-filter : (test : T → Bool) (xs : List T) → apart (map key xs) ≡ true → apart (map key (filter test xs)) ≡ true
  apart-filter test [] a = refl
  apart-filter test (x ∷ xs) a = on (test x) refl (apart-filter test xs (apart-rest (key x) (map key xs) a))
    where
      on : (b : Bool) → test x ≡ b → apart (map key (filter test xs)) ≡ true → apart (map key (filter test (x ∷ xs))) ≡ true
      on true e r = rw (e, keys-filter (key x) test xs (apart-first (key x) (map key xs) a)) r
      on false e r = rw e r
