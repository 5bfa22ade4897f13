-- Lists each of whose members has a property.
use Rattle.std.proofs.Common.{◌≡◌, Bool, true, false, List, [], ◌∷◌, ◌++◌, map, filter, find, Option, Some, None, refl, if◌then◌else◌}
use Rattle.std.specs.Prelude.{⊤}
use Rattle.std.specs.List.{AllByRecursion, list_all}
use Rattle.std.proofs.lemmas.Bool.{and_from, and_parts}

pub all-both : {A : Type 0} (P : A → Type 0) (xs ys : List A) → AllByRecursion P xs → AllByRecursion P ys → AllByRecursion P (xs ++ ys)
all-both P [] ys hx hy = hy
all-both P (x ∷ xs) ys hx hy = (hx.0, all-both P xs ys hx.1 hy)

pub all-filter : {A : Type 0} (P : A → Type 0) (test : A → Bool) (xs : List A) → AllByRecursion P xs → AllByRecursion P (filter test xs)
all-filter P test [] h = tt
all-filter P test (x ∷ xs) h = on (test x) (all-filter P test xs h.1)
  where
    on : (b : Bool) → AllByRecursion P (filter test xs) → AllByRecursion P (if b then x ∷ filter test xs else filter test xs)
    on true rest = (h.0, rest)
    on false rest = rest

pub all-map : {A B : Type 0} (P : A → Type 0) (Q : B → Type 0) (f : A → B) → ((x : A) → P x → Q (f x)) → (xs : List A) → AllByRecursion P xs → AllByRecursion Q (map f xs)
all-map P Q f each [] h = tt
all-map P Q f each (x ∷ xs) h = (each x h.0, all-map P Q f each xs h.1)

-- what an option holds
abbrev pub IfAny : {A : Type 0} → (A → Type 0) → Option A → Type 0
IfAny P None = ⊤
IfAny P (Some x) = P x

pub all-find : {A : Type 0} (P : A → Type 0) (test : A → Bool) (xs : List A) → AllByRecursion P xs → IfAny P (find test xs)
all-find P test [] h = tt
all-find P test (x ∷ xs) h = on (test x) (all-find P test xs h.1)
  where
    on : (b : Bool) → IfAny P (find test xs) → IfAny P (if b then Some x else find test xs)
    on true rest = h.0
    on false rest = rest

pub all-told : {A : Type 0} (test : A → Bool) (xs : List A) → AllByRecursion (λ x. test x ≡ true) xs → list_all test xs ≡ true
all-told test [] h = refl
all-told test (x ∷ xs) h = and_from (test x) (list_all test xs) h.0 (all-told test xs h.1)

pub all-from : {A : Type 0} (test : A → Bool) (xs : List A) → list_all test xs ≡ true → AllByRecursion (λ x. test x ≡ true) xs
all-from test [] h = tt
all-from test (x ∷ xs) h = let p = and_parts (test x) (list_all test xs) h in (p.0, all-from test xs p.1)

-- one of two
pub either : {A : Type 0} (P : A → Type 0) (b : Bool) (x y : A) → P x → P y → P (if b then x else y)
either P true x y hx hy = hx
either P false x y hx hy = hy
