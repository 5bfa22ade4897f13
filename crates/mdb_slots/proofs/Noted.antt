-- The entries of the values that meet a test, in a list beside them, after a change of the values.
use Rattle.std.proofs.Common.{◌≡◌, ℕ, Bool, true, false, ◌==◌, if◌then◌else◌, None, Some, List, [], ◌∷◌, ◌++◌, map, filter, refl, ◌∙◌, subst, arith}
use Rattle.std.proofs.lemmas.Grind.{common_steps}
use Rattle.mdb_slots.specs.Lists.{has, apart}
use Rattle.mdb_slots.specs.Keyed.{entry_at, others, put, swap}
use Rattle.mdb_slots.specs.Sided.{relisted, amended, stays}
use Rattle.mdb_slots.proofs.Lists.{apart-first, apart-rest}
use Rattle.mdb_slots.proofs.Numbers.{same-number}

module _ {T L : Type 0} (key : T → ℕ) (note : T → L) (id_of : L → ℕ) (named : (x : T) → id_of (note x) ≡ key x) (test : T → Bool) where
  abbrev list : List T → List L
  list xs = map note (filter test xs)

  pub noted-append : (xs ys : List T) → list (xs ++ ys) ≡ list xs ++ list ys
  noted-append [] ys = refl
  noted-append (x ∷ xs) ys = grind (arith, common_steps, noted-append xs ys)

  pub noted-others : (k : ℕ) (xs : List T) → list (others key k xs) ≡ others id_of k (list xs)
  noted-others k [] = refl
  noted-others k (x ∷ xs) = grind (arith, common_steps, named x, noted-others k xs)

  noted-one : (x : T) → list (x ∷ []) ≡ (if test x then note x ∷ [] else [])
  noted-one x = on (test x) refl
    where
      on : (b : Bool) → test x ≡ b → list (x ∷ []) ≡ (if b then note x ∷ [] else [])
      on true e = rw e refl
      on false e = rw e refl

  pub noted-put : (x : T) (xs : List T) → list (put key x xs) ≡ relisted id_of (test x) (note x) (list xs)
  noted-put x xs = noted-append (others key (key x) xs) (x ∷ []) ∙ rw (noted-others (key x) xs, noted-one x, ← named x) (on (test x))
    where
      on : (b : Bool) → others id_of (id_of (note x)) (list xs) ++ (if b then note x ∷ [] else []) ≡ relisted id_of b (note x) (list xs)
      on true = refl
      on false = grind (arith, common_steps)

  -- where no value with the number comes to stand in the list
  dropped : (x : T) (xs : List T) → test x ≡ false → list (swap key x xs) ≡ others id_of (key x) (list xs)
  dropped x [] e = refl
  dropped x (y ∷ ys) e = grind (arith, common_steps, e, named y, dropped x ys e)

  absent : (k : ℕ) (xs : List T) → has k (map key xs) ≡ false → entry_at key k xs ≡ None
  absent k [] h = refl
  absent k (y ∷ ys) h = grind (arith, common_steps, h, absent k ys)

  unchanged : (x : T) (xs : List T) → has (key x) (map key xs) ≡ false → list (swap key x xs) ≡ swap id_of (note x) (list xs)
  unchanged x [] h = refl
  unchanged x (y ∷ ys) h = grind (arith, common_steps, h, named x, named y, unchanged x ys)

  kept-in-place : (x : T) (xs : List T) → test x ≡ true → apart (map key xs) ≡ true → stays test x (entry_at key (key x) xs) ≡ true → list (swap key x xs) ≡ swap id_of (note x) (list xs)
  kept-in-place x [] e a s = refl
  kept-in-place x (y ∷ ys) e a s = on (key y == key x) refl (kept-in-place x ys e (apart-rest (key y) (map key ys) a))
    where
      on : (b : Bool) → (key y == key x) ≡ b → (stays test x (entry_at key (key x) ys) ≡ true → list (swap key x ys) ≡ swap id_of (note x) (list ys)) → list (swap key x (y ∷ ys)) ≡ swap id_of (note x) (list (y ∷ ys))
      on true w more =
          let h : has (key x) (map key ys) ≡ false = subst (λ k. has k (map key ys) ≡ false) (same-number (key y) (key x) w) (apart-first (key y) (map key ys) a) in
          let t : test y ≡ true = grind (arith, common_steps, s, w, e) in
          grind (arith, common_steps, w, t, e, named x, named y, unchanged x ys h)
      on false w more = grind (arith, common_steps, w, e, s, named x, named y, more)

  pub noted-swap : (x : T) (xs : List T) → apart (map key xs) ≡ true → stays test x (entry_at key (key x) xs) ≡ true → list (swap key x xs) ≡ amended id_of (test x) (note x) (list xs)
  noted-swap x xs a s = on (test x) refl
    where
      on : (b : Bool) → test x ≡ b → list (swap key x xs) ≡ amended id_of b (note x) (list xs)
      on true e = kept-in-place x xs e a s
      on false e = rw (named x) (dropped x xs e)

  -- a value that is not there, or stands on another side, has no entry in the list
  pub noted-none : (k : ℕ) (xs : List T) → entry_at key k xs ≡ None → others id_of k (list xs) ≡ list xs
  noted-none k [] e = refl
  noted-none k (y ∷ ys) e = on (key y == k) refl (noted-none k ys)
    where
      on : (b : Bool) → (key y == k) ≡ b → (entry_at key k ys ≡ None → others id_of k (list ys) ≡ list ys) → others id_of k (list (y ∷ ys)) ≡ list (y ∷ ys)
      on true w more = let f : entry_at key k (y ∷ ys) ≡ Some y = rw w refl in cc
      on false w more =
          let g : entry_at key k ys ≡ None = grind (arith, common_steps, w, e) in
          grind (arith, common_steps, w, named y, more g)

  pub noted-off : (k : ℕ) (xs : List T) (x : T) → apart (map key xs) ≡ true → entry_at key k xs ≡ Some x → test x ≡ false → others id_of k (list xs) ≡ list xs
  noted-off k [] x a e t = refl
  noted-off k (y ∷ ys) x a e t = on (key y == k) refl (noted-off k ys x (apart-rest (key y) (map key ys) a))
    where
      on : (b : Bool) → (key y == k) ≡ b → (entry_at key k ys ≡ Some x → test x ≡ false → others id_of k (list ys) ≡ list ys) → others id_of k (list (y ∷ ys)) ≡ list (y ∷ ys)
      on true w more =
          let h : has k (map key ys) ≡ false = subst (λ k. has k (map key ys) ≡ false) (same-number (key y) k w) (apart-first (key y) (map key ys) a) in
          let f : entry_at key k (y ∷ ys) ≡ Some y = rw w refl in
          let s : y ≡ x = cc in
          let u : test y ≡ false = rw s t in
          grind (arith, common_steps, u, noted-none k ys (absent k ys h))
      on false w more =
          let g : entry_at key k ys ≡ Some x = grind (arith, common_steps, w, e) in
          grind (arith, common_steps, w, named y, more g t)

-- a number that takes its own place changes nothing
pub swap-number : (n : ℕ) (ns : List ℕ) → swap (λ k. k) n ns ≡ ns
swap-number n [] = refl
swap-number n (k ∷ ks) = on (k == n) refl (swap-number n ks)
  where
    on : (b : Bool) → (k == n) ≡ b → swap (λ j. j) n ks ≡ ks → swap (λ j. j) n (k ∷ ks) ≡ k ∷ ks
    on true w more = rw (w, more, same-number k n w) refl
    on false w more = rw (w, more) refl
