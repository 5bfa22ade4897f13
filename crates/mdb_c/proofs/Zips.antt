-- Lists that go together place by place.
use Rattle.std.proofs.Common.{ℕ, ◌+◌, ◌<◌, List, [], ◌∷◌, ◌++◌, length, take, get_or, zero, suc, map, Bor, sym, subst, arith}
use Rattle.std.specs.List.{AllZip}
use Rattle.std.proofs.lemmas.List.{take_more, length-map, get_or-map}
use Rattle.std.proofs.lemmas.Slice.Zip.{all_zipped_more}

-- one place more
pub zip_more : {A B : Type 0} (R : A → B → Type 0) (xs : List A) (ys : List B) (i : ℕ) (d : A) (y : B)
    → i < length xs → AllZip R (take i xs) ys → R (get_or xs i d) y → AllZip R (take (i + 1) xs) (ys ++ y ∷ [])
zip_more R xs ys i d y below zip r = subst (λ l. AllZip R l (ys ++ y ∷ [])) (sym (take_more xs i d below)) (all_zipped_more R (take i xs) ys (get_or xs i d) y zip r)

-- an element that goes with nothing
pub zip_never : {A B : Type 0} (R : A → B → Type 0) (xs : List A) (ys : List B) (i : ℕ) (d : A)
    → i < length xs → ((y : B) → R (get_or xs i d) y → ⊥) → AllZip R xs ys → ⊥
zip_never R [] ys i d below never zip = let none : ⊥ = omega arith in none
zip_never R (x ∷ xs) [] i d below never zip = zip
zip_never R (x ∷ xs) (z ∷ zs) zero d below never zip = never z zip.0
zip_never R (x ∷ xs) (z ∷ zs) (suc i) d below never zip = zip_never R xs zs i d (omega arith) never zip.1

-- one more pair of a lent text and a value
pub texts_more : {B : Type 0} (R : List ℕ → B → Type 0) (texts : List (Bor (List ℕ))) (ys : List B) (i : ℕ) (d : Bor (List ℕ)) (y : B)
    → i < length texts → AllZip R (take i (map (λ t. t.now) texts)) ys → R (get_or texts i d).now y → AllZip R (take (i + 1) (map (λ t. t.now) texts)) (ys ++ y ∷ [])
texts_more R texts ys i d y below zip r =
    zip_more R (map (λ t. t.now) texts) ys i [] y (rw (length-map texts (λ t. t.now)) below) zip (rw (get_or-map (λ t. t.now) texts i d [] below) r)

pub texts_never : {B : Type 0} (R : List ℕ → B → Type 0) (texts : List (Bor (List ℕ))) (ys : List B) (i : ℕ) (d : Bor (List ℕ))
    → i < length texts → ((y : B) → R (get_or texts i d).now y → ⊥) → AllZip R (map (λ t. t.now) texts) ys → ⊥
texts_never R texts ys i d below never zip =
    zip_never R (map (λ t. t.now) texts) ys i [] (rw (length-map texts (λ t. t.now)) below) (λ y r. never y (rw (get_or-map (λ t. t.now) texts i d [] below) at r)) zip
