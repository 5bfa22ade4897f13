-- What is left of a document's fields is left of their contents.
use Rattle.std.proofs.Common.{◌≡◌, Bool, List, [], ◌∷◌, map, filter, refl, ap, ◌∙◌, inl, inr}
use Rattle.std.proofs.lemmas.Bool.{cases_Bool}

pub left_named : {X Y : Type 0} (f : X → Y) (p : X → Bool) (q : Y → Bool) → ((x : X) → p x ≡ q (f x)) → (xs : List X) → map f (filter p xs) ≡ filter q (map f xs)
left_named f p q same [] = refl
left_named f p q same (x ∷ xs) = elim (cases_Bool (q (f x))) [
  | inl passes ↦ rw (same x ∙ passes) (rw passes (ap (λ ys. f x ∷ ys) (left_named f p q same xs)))
  | inr fails ↦ rw (same x ∙ fails) (rw fails (left_named f p q same xs))
]
