-- The values whose entries stand first, last and next in a list beside a table.
use Rattle.std.proofs.Common.{◌≡◌, ℕ, Bool, true, false, ◌==◌, Option, Some, None, List, [], ◌∷◌, map, filter, find, refl, ◌∙◌, subst, arith}
use Rattle.std.specs.Prelude.{IfSome}
use Rattle.std.proofs.lemmas.Grind.{common_steps}
use Rattle.mdb_slots.specs.Lists.{has, apart}
use Rattle.mdb_slots.specs.Keyed.{entry_after, first_of, last_after, last_of}
use Rattle.mdb_slots.specs.Sided.{picked}
use Rattle.mdb_slots.proofs.Lists.{apart-first, apart-rest}
use Rattle.mdb_slots.proofs.Numbers.{same-number, is-same}

module _ {T L : Type 0} (key : T → ℕ) (note : T → L) (id_of : L → ℕ) (named : (x : T) → id_of (note x) ≡ key x) (test : T → Bool) where
  abbrev list : List T → List L
  list xs = map note (filter test xs)

  abbrev IsIn : List T → Option L → Type 0
  IsIn xs o = IfSome o (λ r. has (id_of r) (map key xs) ≡ true)

  apart-number : (x : T) (k : ℕ) (xs : List T) → has (key x) (map key xs) ≡ false → has k (map key xs) ≡ true → (key x == k) ≡ false
  apart-number x k xs h e = on (key x == k) refl
    where
      on : (b : Bool) → (key x == k) ≡ b → (key x == k) ≡ false
      on true w = let z : has k (map key xs) ≡ false = subst (λ j. has j (map key xs) ≡ false) (same-number (key x) k w) h in cc
      on false w = w

  later : (x : T) (xs : List T) (o : Option L) → has (key x) (map key xs) ≡ false → IsIn xs o → picked key id_of o (x ∷ xs) ≡ picked key id_of o xs
  later x xs None h i = refl
  later x xs (Some r) h i = rw (apart-number x (id_of r) xs h i) refl

  widen : (x : T) (xs : List T) (o : Option L) → IsIn xs o → IsIn (x ∷ xs) o
  widen x xs None i = tt
  widen x xs (Some r) i = grind (arith, common_steps, i)

  itself : (x : T) (xs : List T) → IsIn (x ∷ xs) (Some (note x))
  itself x xs = grind (arith, common_steps, named x, is-same (key x))

  first-in : (xs : List T) → IsIn xs (first_of (list xs))
  first-in [] = tt
  first-in (x ∷ xs) = on (test x) refl (first-in xs)
    where
      on : (b : Bool) → test x ≡ b → IsIn xs (first_of (list xs)) → IsIn (x ∷ xs) (first_of (list (x ∷ xs)))
      on true e i = rw e (itself x xs)
      on false e i = rw e (widen x xs (first_of (list xs)) i)

  next-in : (k : ℕ) (xs : List T) → IsIn xs (entry_after id_of k (list xs))
  next-in k [] = tt
  next-in k (x ∷ xs) = on (test x) (key x == k) refl refl (next-in k xs)
    where
      on : (b d : Bool) → test x ≡ b → (key x == k) ≡ d → IsIn xs (entry_after id_of k (list xs)) → IsIn (x ∷ xs) (entry_after id_of k (list (x ∷ xs)))
      on true true e w i = rw (e, named x, w) (widen x xs (first_of (list xs)) (first-in xs))
      on true false e w i = rw (e, named x, w) (widen x xs (entry_after id_of k (list xs)) i)
      on false d e w i = rw e (widen x xs (entry_after id_of k (list xs)) i)

  pub first-pick : (xs : List T) → apart (map key xs) ≡ true → picked key id_of (first_of (list xs)) xs ≡ find test xs
  first-pick [] a = refl
  first-pick (x ∷ xs) a = on (test x) refl (first-pick xs (apart-rest (key x) (map key xs) a))
    where
      on : (b : Bool) → test x ≡ b → picked key id_of (first_of (list xs)) xs ≡ find test xs → picked key id_of (first_of (list (x ∷ xs))) (x ∷ xs) ≡ find test (x ∷ xs)
      on true e r = rw (e, named x, is-same (key x)) refl
      on false e r = rw e (later x xs (first_of (list xs)) (apart-first (key x) (map key xs) a) (first-in xs) ∙ r)

  pub find-first : (xs : List T) → find test xs ≡ first_of (filter test xs)
  find-first [] = refl
  find-first (x ∷ xs) = grind (arith, common_steps, find-first xs)

  pub next-pick : (k : ℕ) (xs : List T) → apart (map key xs) ≡ true → picked key id_of (entry_after id_of k (list xs)) xs ≡ entry_after key k (filter test xs)
  next-pick k [] a = refl
  next-pick k (x ∷ xs) a = on (test x) (key x == k) refl refl (next-pick k xs (apart-rest (key x) (map key xs) a))
    where
      on : (b d : Bool) → test x ≡ b → (key x == k) ≡ d → picked key id_of (entry_after id_of k (list xs)) xs ≡ entry_after key k (filter test xs) → picked key id_of (entry_after id_of k (list (x ∷ xs))) (x ∷ xs) ≡ entry_after key k (filter test (x ∷ xs))
      on true true e w r = rw (e, named x, w) (later x xs (first_of (list xs)) (apart-first (key x) (map key xs) a) (first-in xs) ∙ (first-pick xs (apart-rest (key x) (map key xs) a) ∙ find-first xs))
      on true false e w r = rw (e, named x, w) (later x xs (entry_after id_of k (list xs)) (apart-first (key x) (map key xs) a) (next-in k xs) ∙ r)
      on false d e w r = rw e (later x xs (entry_after id_of k (list xs)) (apart-first (key x) (map key xs) a) (next-in k xs) ∙ r)

  last-in : (xs : List T) → IsIn xs (last_of (list xs))
  last-in [] = tt
  last-in (x ∷ xs) = on (test x) refl (last-in xs)
    where
      more : (zs : List T) → filter test xs ≡ zs → IsIn xs (last_of (map note zs)) → IsIn (x ∷ xs) (last_after (Some (note x)) (map note zs))
      more [] e i = itself x xs
      more (z ∷ zs) e i = widen x xs (last_after (Some (note z)) (map note zs)) i

      on : (b : Bool) → test x ≡ b → IsIn xs (last_of (list xs)) → IsIn (x ∷ xs) (last_of (list (x ∷ xs)))
      on true e i = rw e (more (filter test xs) refl i)
      on false e i = rw e (widen x xs (last_of (list xs)) i)

  pub last-pick : (xs : List T) → apart (map key xs) ≡ true → picked key id_of (last_of (list xs)) xs ≡ last_of (filter test xs)
  last-pick [] a = refl
  last-pick (x ∷ xs) a = on (test x) refl (last-pick xs (apart-rest (key x) (map key xs) a))
    where
      more : (zs : List T) → filter test xs ≡ zs → IsIn xs (last_of (map note zs)) → picked key id_of (last_of (map note zs)) xs ≡ last_of zs → picked key id_of (last_after (Some (note x)) (map note zs)) (x ∷ xs) ≡ last_after (Some x) zs
      more [] e i r = rw (named x, is-same (key x)) refl
      more (z ∷ zs) e i r = later x xs (last_after (Some (note z)) (map note zs)) (apart-first (key x) (map key xs) a) i ∙ r

      on : (b : Bool) → test x ≡ b → picked key id_of (last_of (list xs)) xs ≡ last_of (filter test xs) → picked key id_of (last_of (list (x ∷ xs))) (x ∷ xs) ≡ last_of (filter test (x ∷ xs))
      on true e r = rw e (more (filter test xs) refl (last-in xs) r)
      on false e r = rw e (later x xs (last_of (list xs)) (apart-first (key x) (map key xs) a) (last-in xs) ∙ r)
