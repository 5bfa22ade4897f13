-- No two values have the same number, after a change of the values.
use Rattle.std.proofs.Common.{◌≡◌, ℕ, Bool, true, false, ◌==◌, List, [], ◌∷◌, ◌++◌, map, refl, ap, arith}
use Rattle.std.proofs.lemmas.Grind.{common_steps}
use Rattle.mdb_slots.specs.Lists.{has, apart}
use Rattle.mdb_slots.specs.Keyed.{others, put, swap}
use Rattle.mdb_slots.proofs.Lists.{has-append, apart-first, apart-rest}
use Rattle.mdb_slots.proofs.Numbers.{same-number}

apart-last : (k : ℕ) (ks : List ℕ) → apart ks ≡ true → has k ks ≡ false → apart (ks ++ k ∷ []) ≡ true
apart-last k [] a h = refl
apart-last k (j ∷ js) a h = grind (arith, common_steps, h, apart-first j js a, has-append j js (k ∷ []), apart-last k js (apart-rest j js a))

module _ {T : Type 0} (key : T → ℕ) where
  keys-append : (xs ys : List T) → map key (xs ++ ys) ≡ map key xs ++ map key ys
  keys-append [] ys = refl
  keys-append (x ∷ xs) ys = ap (λ ks. key x ∷ ks) (keys-append xs ys)

  gone : (k : ℕ) (xs : List T) → has k (map key (others key k xs)) ≡ false
  gone k [] = refl
  gone k (x ∷ xs) = grind (arith, common_steps, gone k xs)

  still : (j k : ℕ) (xs : List T) → has j (map key xs) ≡ false → has j (map key (others key k xs)) ≡ false
  still j k [] h = refl
  still j k (x ∷ xs) h = grind (arith, common_steps, h, still j k xs)

  pub apart-others : (k : ℕ) (xs : List T) → apart (map key xs) ≡ true → apart (map key (others key k xs)) ≡ true
  apart-others k [] a = refl
  apart-others k (x ∷ xs) a = grind (arith, common_steps, still (key x) k xs (apart-first (key x) (map key xs) a), apart-others k xs (apart-rest (key x) (map key xs) a))

  pub apart-put : (x : T) (xs : List T) → apart (map key xs) ≡ true → apart (map key (put key x xs)) ≡ true
  apart-put x xs a = rw (keys-append (others key (key x) xs) (x ∷ [])) (apart-last (key x) (map key (others key (key x) xs)) (apart-others (key x) xs a) (gone (key x) xs))

  same-keys : (x : T) (xs : List T) → map key (swap key x xs) ≡ map key xs
  same-keys x [] = refl
  same-keys x (y ∷ ys) = on (key y == key x) refl (same-keys x ys)
    where
      on : (b : Bool) → (key y == key x) ≡ b → map key (swap key x ys) ≡ map key ys → map key (swap key x (y ∷ ys)) ≡ map key (y ∷ ys)
      on true w r = rw (w, r, same-number (key y) (key x) w) refl
      on false w r = rw (w, r) refl

  pub apart-swap : (x : T) (xs : List T) → apart (map key xs) ≡ true → apart (map key (swap key x xs)) ≡ true
  apart-swap x xs a = rw (same-keys x xs) a
