-- One place of a list is set, and one place is found.
use Rattle.std.proofs.Common.{ℕ, zero, suc, ◌≡◌, ◌≢◌, ◌+◌, ◌<◌, ◌≤◌, Bool, true, false, ◌||◌, List, [], ◌∷◌, length, map, set, find, Option, Some, None, refl, sym, ◌∙◌, ap, subst, arith, append-nil, get_or, position}
use Rattle.std.specs.Prelude.{flat_map, slice_get, cond, nat_lt}
use Rattle.std.specs.List.{list_any, position_or_len}
use Rattle.std.proofs.lemmas.List.Folds.{position_or_len-set}
use Rattle.std.proofs.lemmas.List.Quantifiers.{position-Some}
use Rattle.std.proofs.lemmas.List.{length-set}
use Rattle.std.proofs.lemmas.Option.{get_or_from_slice_get, slice_get_read}
use Rattle.std.proofs.lemmas.Bool.Decides.{nat_tests}

module _ {T : Type 0} where
  pub get-set_same : (xs : List T) (i : ℕ) (s t : T) → slice_get xs i ≡ Some s → slice_get (set xs i t) i ≡ Some t
  get-set_same [] i s t e = cc
  get-set_same (x ∷ xs) zero s t e = refl
  get-set_same (x ∷ xs) (suc i) s t e = get-set_same xs i s t e

  pub get-set_other : (xs : List T) (i j : ℕ) (t : T) → i ≢ j → slice_get (set xs i t) j ≡ slice_get xs j
  get-set_other [] i j t ne = refl
  get-set_other (x ∷ xs) zero zero t ne = absurd (ne refl)
  get-set_other (x ∷ xs) zero (suc j) t ne = refl
  get-set_other (x ∷ xs) (suc i) zero t ne = refl
  get-set_other (x ∷ xs) (suc i) (suc j) t ne = get-set_other xs i j t (λ e. ne (ap suc e))

  -- of the other places each is as it was
  pub any-set : (f : T → Bool) (b : Bool) (xs : List T) (i : ℕ) (s t : T) → slice_get xs i ≡ Some s → f t ≡ b || f s → list_any f (set xs i t) ≡ b || list_any f xs
  any-set f b [] i s t e g = cc
  any-set f b (x ∷ xs) zero s t e g = let w : x ≡ s = cc in on b (f s) (f t) refl refl refl g
    where
      on : (p q r : Bool) → b ≡ p → f s ≡ q → f t ≡ r → f t ≡ b || f s → list_any f (t ∷ xs) ≡ b || list_any f (x ∷ xs)
      on p q r k l m g = let w : x ≡ s = cc in grind arith
  any-set f b (x ∷ xs) (suc i) s t e g = on b (f x) refl refl (any-set f b xs i s t e g)
    where
      on : (p q : Bool) → b ≡ p → f x ≡ q → list_any f (set xs i t) ≡ b || list_any f xs → list_any f (x ∷ set xs i t) ≡ b || list_any f (x ∷ xs)
      on p q k l deeper = grind arith

  pub any-none : (f : T → Bool) (xs : List T) (i : ℕ) (s : T) → list_any f xs ≡ false → slice_get xs i ≡ Some s → f s ≡ false
  any-none f [] i s e g = cc
  any-none f (x ∷ xs) zero s e g = let w : x ≡ s = cc in grind arith
  any-none f (x ∷ xs) (suc i) s e g = let d : list_any f xs ≡ false = grind arith in any-none f xs i s d g

  pub position-set : (f : T → Bool) (xs : List T) (i : ℕ) (s t : T) → slice_get xs i ≡ Some s → f t ≡ f s → position f (set xs i t) ≡ position f xs
  position-set f xs i s t e g =
      let w : get_or xs i s ≡ s = get_or_from_slice_get xs i s s e in
      let k : position_or_len f (set xs i t) ≡ position_or_len f xs = position_or_len-set f xs i t s (g ∙ ap f (sym w)) in
      rw (k, length-set) refl

  pub map-set : {U : Type 0} (f : T → U) (xs : List T) (i : ℕ) (s t : T) → slice_get xs i ≡ Some s → f t ≡ f s → map f (set xs i t) ≡ map f xs
  map-set f [] i s t e g = refl
  map-set f (x ∷ xs) zero s t e g = let w : x ≡ s = cc in ap (λ u. u ∷ map f xs) (g ∙ ap f (sym w))
  map-set f (x ∷ xs) (suc i) s t e g = ap (λ us. f x ∷ us) (map-set f xs i s t e g)

  -- the first that passes, among the images
  pub find-at : {U : Type 0} (g : T → U) (p : U → Bool) (xs : List T) (i : ℕ) (s : T) → slice_get xs i ≡ Some s → p (g s) ≡ true → ((j : ℕ) (x : T) → slice_get xs j ≡ Some x → j < i → p (g x) ≡ false) → find p (map g xs) ≡ Some (g s)
  find-at g p [] i s e h before = cc
  find-at g p (x ∷ xs) zero s e h before = let w : x ≡ s = cc in let k : p (g x) ≡ true = ap (λ y. p (g y)) w ∙ h in rw k (ap (λ y. Some (g y)) w)
  find-at g p (x ∷ xs) (suc i) s e h before = let k : p (g x) ≡ false = before 0 x refl (omega arith) in rw k (find-at g p xs i s e h (λ j y f l. before (suc j) y f (omega arith)))

  pub find-none : {U : Type 0} (g : T → U) (p : U → Bool) (xs : List T) → ((j : ℕ) (x : T) → slice_get xs j ≡ Some x → p (g x) ≡ false) → find p (map g xs) ≡ None
  find-none g p [] nope = refl
  find-none g p (x ∷ xs) nope = let k : p (g x) ≡ false = nope 0 x refl in rw k (find-none g p xs (λ j y f. nope (suc j) y f))

  -- one place gives all
  pub flat-none : {U A : Type 0} (g : T → U) (f : U → List A) (xs : List T) → ((j : ℕ) (x : T) → slice_get xs j ≡ Some x → f (g x) ≡ []) → flat_map f (map g xs) ≡ []
  flat-none g f [] nope = refl
  flat-none g f (x ∷ xs) nope = rw (nope 0 x refl) (flat-none g f xs (λ j y e. nope (suc j) y e))

  pub flat-one : {U A : Type 0} (g : T → U) (f : U → List A) (xs : List T) (i : ℕ) (s : T) → slice_get xs i ≡ Some s → ((j : ℕ) (x : T) → slice_get xs j ≡ Some x → i ≢ j → f (g x) ≡ []) → flat_map f (map g xs) ≡ f (g s)
  flat-one g f [] i s e nope = cc
  flat-one g f (x ∷ xs) zero s e nope =
      let w : x ≡ s = cc in
      let k : flat_map f (map g xs) ≡ [] = flat-none g f xs (λ j y c. nope (suc j) y c (omega arith)) in
      rw k (append-nil (f (g x)) ∙ ap (λ y. f (g y)) w)
  flat-one g f (x ∷ xs) (suc i) s e nope =
      let k : f (g x) ≡ [] = nope 0 x refl (omega arith) in
      rw k (flat-one g f xs i s e (λ j y c ne. nope (suc j) y c (λ q. ne (omega arith))))

  -- what the first index says
  pub position-at : (f : T → Bool) (xs : List T) (i : ℕ) (s : T) → position f xs ≡ Some i → slice_get xs i ≡ Some s → (f s ≡ true) × ((j : ℕ) (x : T) → slice_get xs j ≡ Some x → j < i → f x ≡ false)
  position-at f xs i s e g =
      let k : (i < length xs) × (f (get_or xs i s) ≡ true) × ((j : ℕ) → j < i → f (get_or xs j s) ≡ false) = position-Some f xs i s e in
      (ap f (sym (get_or_from_slice_get xs i s s g)) ∙ k.1, λ j x c l. ap f (sym (get_or_from_slice_get xs j x s c)) ∙ k.2 j l)

  pub any-position : (f : T → Bool) (xs : List T) (i : ℕ) (s : T) → slice_get xs i ≡ Some s → f s ≡ true → list_any f xs ≡ true
  any-position f [] i s e g = cc
  any-position f (x ∷ xs) zero s e g = let w : x ≡ s = cc in grind arith
  any-position f (x ∷ xs) (suc i) s e g = let d : list_any f xs ≡ true = any-position f xs i s e g in on (f x) refl d
    where
      on : (b : Bool) → f x ≡ b → list_any f xs ≡ true → list_any f (x ∷ xs) ≡ true
      on true k d = grind arith
      on false k d = grind arith

  pub position-within : (f : T → Bool) (xs : List T) (i : ℕ) → position f xs ≡ Some i → i < length xs
  position-within f xs i e = on (nat_lt (position_or_len f xs) (length xs)) refl e
    where
      on : (b : Bool) → nat_lt (position_or_len f xs) (length xs) ≡ b → cond (nat_lt (position_or_len f xs) (length xs)) (Some (position_or_len f xs)) None ≡ Some i → i < length xs
      on true g k = let w : position_or_len f xs ≡ i = grind arith in grind (arith, nat_tests)
      on false g k = let w : ◌≡◌ {A = Option ℕ} None (Some i) = subst (λ b. cond b (Some (position_or_len f xs)) None ≡ Some i) g k in cc

  -- none passes
  unfound : (f : T → Bool) (xs : List T) → length xs ≤ position_or_len f xs → (j : ℕ) (x : T) → slice_get xs j ≡ Some x → f x ≡ false
  unfound f [] l j x e = cc
  unfound f (y ∷ ys) l j x e = on (f y) refl l j e (λ k d i g. unfound f ys d i k g)
    where
      on : (b : Bool) → f y ≡ b → length (y ∷ ys) ≤ position_or_len f (y ∷ ys) → (j : ℕ) → slice_get (y ∷ ys) j ≡ Some x → ((k : T) → length ys ≤ position_or_len f ys → (i : ℕ) → slice_get ys i ≡ Some k → f k ≡ false) → f x ≡ false
      on true g l j e deeper = let k : position_or_len f (y ∷ ys) ≡ 0 = rw g refl in absurd (omega arith)
      on false g l zero e deeper = let w : y ≡ x = cc in ap f (sym w) ∙ g
      on false g l (suc j) e deeper = let k : position_or_len f (y ∷ ys) ≡ 1 + position_or_len f ys = rw g refl in deeper x (omega arith) j e

  pub position-none : (f : T → Bool) (xs : List T) → position f xs ≡ None → (j : ℕ) (x : T) → slice_get xs j ≡ Some x → f x ≡ false
  position-none f xs e = on (nat_lt (position_or_len f xs) (length xs)) refl e
    where
      on : (b : Bool) → nat_lt (position_or_len f xs) (length xs) ≡ b → cond (nat_lt (position_or_len f xs) (length xs)) (Some (position_or_len f xs)) None ≡ None → (j : ℕ) (x : T) → slice_get xs j ≡ Some x → f x ≡ false
      on true g k = let w : ◌≡◌ {A = Option ℕ} (Some (position_or_len f xs)) None = subst (λ b. cond b (Some (position_or_len f xs)) None ≡ None) g k in cc
      on false g k = let l : length xs ≤ position_or_len f xs = grind (arith, nat_tests) in unfound f xs l

  pub at-index : (xs : List T) (i : ℕ) (x s : T) → i < length xs → x ≡ get_or xs i x → s ≡ x → slice_get xs i ≡ Some s
  at-index xs i x s l e f = slice_get_read xs (length xs) i x refl l e ∙ ap Some (sym f)

  -- nothing passes anywhere
  pub any-nowhere : (f : T → Bool) (xs : List T) → ((j : ℕ) (x : T) → slice_get xs j ≡ Some x → f x ≡ false) → list_any f xs ≡ false
  any-nowhere f [] nope = refl
  any-nowhere f (x ∷ xs) nope = let k : f x ≡ false = nope 0 x refl in rw k (any-nowhere f xs (λ j y e. nope (suc j) y e))

  pub any-map : {U : Type 0} (g : T → U) (f : U → Bool) (xs : List T) → list_any f (map g xs) ≡ list_any (λ x. f (g x)) xs
  any-map g f [] = refl
  any-map g f (x ∷ xs) = on (f (g x)) refl (any-map g f xs)
    where
      on : (b : Bool) → f (g x) ≡ b → list_any f (map g xs) ≡ list_any (λ y. f (g y)) xs → list_any f (map g (x ∷ xs)) ≡ list_any (λ y. f (g y)) (x ∷ xs)
      on true e deeper = rw e refl
      on false e deeper = rw e deeper

  -- where none passes there is no index
  past : (f : T → Bool) (xs : List T) → list_any f xs ≡ false → length xs ≤ position_or_len f xs
  past f [] e = omega arith
  past f (x ∷ xs) e = on (f x) refl e (past f xs)
    where
      on : (b : Bool) → f x ≡ b → f x || list_any f xs ≡ false → (list_any f xs ≡ false → length xs ≤ position_or_len f xs) → length (x ∷ xs) ≤ position_or_len f (x ∷ xs)
      on true g k rest = let w : f x || list_any f xs ≡ true = rw g refl in cc
      on false g k rest =
          let d : list_any f xs ≡ false = sym (rw g refl) ∙ k in
          let c : position_or_len f (x ∷ xs) ≡ 1 + position_or_len f xs = rw g refl in
          omega (arith, rest d)

  pub nowhere : (f : T → Bool) (xs : List T) → list_any f xs ≡ false → position f xs ≡ None
  nowhere f xs e = let l : nat_lt (position_or_len f xs) (length xs) ≡ false = grind (arith, nat_tests, past f xs e) in rw l refl

  -- an index within the list has something there
  pub at-place : (xs : List T) (j : ℕ) → j < length xs → slice_get xs j ≡ None → ⊥
  at-place [] j l e = absurd (omega arith)
  at-place (x ∷ xs) zero l e = cc
  at-place (x ∷ xs) (suc j) l e = at-place xs j (omega arith) e
