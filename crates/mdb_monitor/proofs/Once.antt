-- A list in which nobody stands twice stays so.
use Rattle.std.proofs.Common.{◌≡◌, ℕ, ◌==◌, Bool, true, false, not, ◌||◌, List, [], ◌∷◌, ◌++◌, filter, refl, ap, inl, inr, arith}
use Rattle.std.proofs.lemmas.Bool.{cases_Bool, and_parts, and_from, not-true}
use Rattle.std.proofs.lemmas.Bool.Decides.{nat_tests}
use Rattle.mdb_monitor.specs.Asking.{stands, each_once}

neither : (x y : Bool) → (x || y) ≡ false → (x ≡ false) × (y ≡ false)
neither true y h = absurd (cc)
neither false y h = (refl, h)

both_not : (x y : Bool) → x ≡ false → y ≡ false → (x || y) ≡ false
both_not true y h g = absurd (cc)
both_not false y h g = g

other_way : (v w : ℕ) → (v == w) ≡ false → (w == v) ≡ false
other_way v w h = grind (arith, nat_tests, h)

absent_pushed : (v w : ℕ) (xs : List ℕ) → (w == v) ≡ false → stands v xs ≡ false → stands v (xs ++ (w ∷ [])) ≡ false
absent_pushed v w [] h g = both_not (w == v) false h refl
absent_pushed v w (x ∷ xs) h g =
    let q = neither (x == v) (stands v xs) g in
    both_not (x == v) (stands v (xs ++ (w ∷ []))) q.0 (absent_pushed v w xs h q.1)

absent_left : (p : ℕ → Bool) (v : ℕ) (xs : List ℕ) → stands v xs ≡ false → stands v (filter p xs) ≡ false
absent_left p v [] g = refl
absent_left p v (x ∷ xs) g =
    let q = neither (x == v) (stands v xs) g in
    elim (cases_Bool (p x)) [
      | inl passes ↦ rw passes (both_not (x == v) (stands v (filter p xs)) q.0 (absent_left p v xs q.1))
      | inr fails ↦ rw fails (absent_left p v xs q.1)
    ]

pub once_pushed : (w : ℕ) (xs : List ℕ) → each_once xs ≡ true → stands w xs ≡ false → each_once (xs ++ (w ∷ [])) ≡ true
once_pushed w [] h g = refl
once_pushed w (x ∷ xs) h g =
    let q = and_parts (not (stands x xs)) (each_once xs) h in
    let n = neither (x == w) (stands w xs) g in
    and_from (not (stands x (xs ++ (w ∷ [])))) (each_once (xs ++ (w ∷ [])))
    (ap not (absent_pushed x w xs (other_way x w n.0) (not-true (stands x xs) q.0)))
    (once_pushed w xs q.1 n.1)

pub once_left : (p : ℕ → Bool) (xs : List ℕ) → each_once xs ≡ true → each_once (filter p xs) ≡ true
once_left p [] h = refl
once_left p (x ∷ xs) h =
    let q = and_parts (not (stands x xs)) (each_once xs) h in
    elim (cases_Bool (p x)) [
      | inl passes ↦ rw passes (and_from (not (stands x (filter p xs))) (each_once (filter p xs)) (ap not (absent_left p x xs (not-true (stands x xs) q.0))) (once_left p xs q.1))
      | inr fails ↦ rw fails (once_left p xs q.1)
    ]
