-- Room that is filled from its beginning on, an element at a time.
use Rattle.std.proofs.Common.{◌≡◌, ℕ, ◌<◌, ◌≤◌, ◌+◌, List, ◌++◌, length, map, drop, get_or, set, ◌∙◌, ap, sym, refl, subst, arith}
use Rattle.std.proofs.lemmas.Bool.{le-leb, lt-leb}
use Rattle.std.proofs.lemmas.List.{length-map, get_or-map}
use Rattle.std.proofs.lemmas.List.Edits.{paste_more}
use lib.Seq.{paste}
use Rattle.mdb_session.specs.Facts.{filled}
use Rattle.mdb_session.specs.declared.fact_numbers.FactNumbers.{FactNumbers}

-- one element more of the list, by the function
pub fills : {X Y : Type 0} (f : X → Y) (xs : List X) (room ys : List Y) (i : ℕ) (x : X) (y : Y) → i < length room → i < length xs → ys ≡ paste room 0 (map f xs) i → x ≡ get_or xs i x → y ≡ f x
    → set ys i y ≡ paste room 0 (map f xs) (i + 1)
fills f xs room ys i x y fits within is at told =
    let e : y ≡ get_or (map f xs) i y = told ∙ (ap f at ∙ sym (get_or-map f xs i x y within)) in
    let more : i < length (map f xs) = rw (length-map xs f) within in
    let from : 0 + i ≡ i = omega arith in
    let put : set (paste room 0 (map f xs) i) (0 + i) (get_or (map f xs) i y) ≡ paste room 0 (map f xs) (i + 1) = paste_more room 0 (map f xs) i y (omega arith) more in
    ap (λ zs. set zs i y) is ∙ (ap (λ z. set (paste room 0 (map f xs) i) i z) e ∙ subst (λ j. set (paste room 0 (map f xs) i) j (get_or (map f xs) i y) ≡ paste room 0 (map f xs) (i + 1)) from put)

-- where they fit they stand at the beginning
pub fitting : (told room : List FactNumbers) → length told ≤ length room → told ++ drop (length told) room ≡ filled told room
fitting told room fits = rw (le-leb (length told) (length room) fits) refl

-- where they don't fit the room stays as it is
pub unfitting : (told room : List FactNumbers) → length room < length told → room ≡ filled told room
unfitting told room small = rw (lt-leb (length told) (length room) small) refl
