-- Whether a selection has a server.
use Rattle.std.proofs.Common.{◌≡◌, Bool, true, false, ◌&&◌, ◌||◌, List, [], ◌∷◌, filter, refl, sym, ap, ◌∙◌, inl, inr}
use Rattle.std.specs.List.{list_any}
use Rattle.std.proofs.lemmas.Bool.{cases_Bool}
use Rattle.mdb_base.specs.Tags.{Tag}
use Rattle.mdb_describe.specs.declared.description.ServerDescription.{ServerDescription}
use Rattle.mdb_describe.specs.Selection.{contains_tags, or_else, with_first_tags, matching, matches_some, is_some_server}

abbrev pub Test : Type 0
Test = ServerDescription → Bool

pub some_filtered : (p : Test) (xs : List ServerDescription) → is_some_server (filter p xs) ≡ list_any p xs
some_filtered p [] = refl
some_filtered p (s ∷ xs) = elim (cases_Bool (p s)) [
  | inl passes ↦ rw passes refl
  | inr fails ↦ rw fails (some_filtered p xs)
]

pub some_or : (xs ys : List ServerDescription) → is_some_server (or_else xs ys) ≡ is_some_server xs || is_some_server ys
some_or [] ys = refl
some_or (s ∷ xs) ys = refl

any_same : (p q : Test) → ((s : ServerDescription) → p s ≡ q s) → (xs : List ServerDescription) → list_any p xs ≡ list_any q xs
any_same p q same [] = refl
any_same p q same (s ∷ xs) = ap (λ (b : Bool). b || list_any p xs) (same s) ∙ ap (λ (b : Bool). q s || b) (any_same p q same xs)

any_within : (p q : Test) (xs : List ServerDescription) → list_any q (filter p xs) ≡ list_any (λ s. p s && q s) xs
any_within p q [] = refl
any_within p q (s ∷ xs) = elim (cases_Bool (p s)) [
  | inl passes ↦ rw passes (ap (λ (b : Bool). q s || b) (any_within p q xs))
  | inr fails ↦ rw fails (any_within p q xs)
]

swap_or : (a b c d : Bool) → (a || b) || (c || d) ≡ (a || c) || (b || d)
swap_or true b c d = refl
swap_or false true true d = refl
swap_or false true false d = refl
swap_or false false c d = refl

any_or : (p q : Test) (xs : List ServerDescription) → list_any p xs || list_any q xs ≡ list_any (λ s. p s || q s) xs
any_or p q [] = refl
any_or p q (s ∷ xs) = swap_or (p s) (list_any p xs) (q s) (list_any q xs) ∙ ap (λ (b : Bool). (p s || q s) || b) (any_or p q xs)

none_any : (xs : List ServerDescription) → list_any (λ s. false) xs ≡ false
none_any [] = refl
none_any (s ∷ xs) = none_any xs

some_tagged : (sets : List (List Tag)) (xs : List ServerDescription) → is_some_server (with_first_tags sets xs) ≡ list_any (λ s. list_any (λ wanted. contains_tags wanted s) sets) xs
some_tagged [] xs = sym (none_any xs)
some_tagged (set ∷ more) xs =
    some_or (filter (contains_tags set) xs) (with_first_tags more xs)
    ∙ ap (λ (b : Bool). b || is_some_server (with_first_tags more xs)) (some_filtered (contains_tags set) xs)
    ∙ ap (λ (b : Bool). list_any (contains_tags set) xs || b) (some_tagged more xs)
    ∙ any_or (contains_tags set) (λ s. list_any (λ wanted. contains_tags wanted s) more) xs

and_true : (b : Bool) → b ≡ b && true
and_true true = refl
and_true false = refl

pub some_matching : (p : Test) (sets : List (List Tag)) (xs : List ServerDescription) → is_some_server (matching sets (filter p xs)) ≡ list_any (λ s. p s && matches_some sets s) xs
some_matching p [] xs = some_filtered p xs ∙ any_same p (λ s. p s && true) (λ s. and_true (p s)) xs
some_matching p (set ∷ more) xs = some_tagged (set ∷ more) (filter p xs) ∙ any_within p (matches_some (set ∷ more)) xs
