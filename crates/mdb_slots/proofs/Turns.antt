-- Changes that are turned.
use Rattle.std.proofs.Common.{◌≡◌, ℕ, zero, suc, ◌-◌, ◌<◌, ◌≤◌, List, [], ◌∷◌, ◌++◌, length, take, drop, set, get_or, refl, sym, ◌∙◌, ap, arith}
use Rattle.std.proofs.lemmas.Grind.{common_steps}
use Rattle.mdb_slots.specs.declared.edit.Edit.{Edit}
use Rattle.mdb_slots.specs.declared.edit.Edit.TheVariants.{Grew, Put}
use Rattle.mdb_slots.specs.Edits.{undo, unwound}

module _ {T : Type 0} where
  pub unwound-append : (ls : List (Edit T)) (l : Edit T) (xs : List T) → unwound (ls ++ l ∷ []) xs ≡ unwound ls (undo l xs)
  unwound-append [] l xs = refl
  unwound-append (k ∷ ks) l xs = ap (λ ys. undo k ys) (unwound-append ks l xs)

  pub undo-push : (xs : List T) (v : T) → undo Grew (xs ++ v ∷ []) ≡ xs
  undo-push xs v = grind (arith, common_steps)

  pub undo-set : (xs : List T) (i : ℕ) (v w : T) → w ≡ get_or xs i w → undo (Put i w) (set xs i v) ≡ xs
  undo-set [] i v w e = refl
  undo-set (x ∷ xs) zero v w e = ap (λ y. y ∷ xs) e
  undo-set (x ∷ xs) (suc i) v w e = ap (λ ys. x ∷ ys) (undo-set xs i v w e)

  pub set-past : (xs : List T) (i : ℕ) (v : T) → length xs ≤ i → set xs i v ≡ xs
  set-past [] i v h = refl
  set-past (x ∷ xs) zero v h = absurd (omega (arith, h))
  set-past (x ∷ xs) (suc i) v h = ap (λ ys. x ∷ ys) (set-past xs i v (omega (arith, h)))

  pub set-twice : (xs : List T) (i : ℕ) (v w : T) → set (set xs i v) i w ≡ set xs i w
  set-twice [] i v w = refl
  set-twice (x ∷ xs) zero v w = refl
  set-twice (x ∷ xs) (suc i) v w = ap (λ ys. x ∷ ys) (set-twice xs i v w)

  -- what was moved out is what stood there
  pub stood : (xs : List T) (i : ℕ) (r m : T) → r ≡ m → m ≡ get_or xs i m → r ≡ get_or xs i r
  stood xs i r m e h = e ∙ h ∙ ap (λ d. get_or xs i d) (sym e)

  before-at : (ls : List (Edit T)) (k : ℕ) (l t : Edit T) (xs : List T) → k < length ls → l ≡ get_or ls k l → unwound (take k (set ls k t)) (undo l xs) ≡ unwound (take (suc k) ls) xs
  before-at [] k l t xs h e = absurd (omega (arith, h))
  before-at (x ∷ ls) zero l t xs h e = ap (λ j. undo j xs) e
  before-at (x ∷ ls) (suc k) l t xs h e = ap (λ ys. undo x ys) (before-at ls k l t xs (omega (arith, h)) e)

  from-at : (ls : List (Edit T)) (k : ℕ) (t : Edit T) → k < length ls → drop k (set ls k t) ≡ t ∷ drop (suc k) ls
  from-at [] k t h = absurd (omega (arith, h))
  from-at (x ∷ ls) zero t h = refl
  from-at (x ∷ ls) (suc k) t h = from-at ls k t (omega (arith, h))

  -- the change before n is turned: those before it are as they were
  pub before-turned : (ls : List (Edit T)) (n : ℕ) (l t : Edit T) (xs : List T) → 0 < n → n ≤ length ls → l ≡ get_or ls (n - 1) l → unwound (take (n - 1) (set ls (n - 1) t)) (undo l xs) ≡ unwound (take n ls) xs
  before-turned ls n l t xs p h e =
      let m : n ≡ suc (n - 1) = omega (arith, p) in
      before-at ls (n - 1) l t xs (omega (arith, p, h)) e ∙ ap (λ k. unwound (take k ls) xs) (sym m)

  -- and it comes first of those that are turned
  pub from-turned : (ls : List (Edit T)) (n : ℕ) (t : Edit T) → 0 < n → n ≤ length ls → drop (n - 1) (set ls (n - 1) t) ≡ t ∷ drop n ls
  from-turned ls n t p h =
      let m : n ≡ suc (n - 1) = omega (arith, p) in
      from-at ls (n - 1) t (omega (arith, p, h)) ∙ ap (λ k. t ∷ drop k ls) (sym m)

  -- the change at k comes first of those from it on
  pub next-at : (ls : List (Edit T)) (k : ℕ) (l : Edit T) → k < length ls → l ≡ get_or ls k l → drop k ls ≡ l ∷ drop (suc k) ls
  next-at [] k l h e = absurd (omega (arith, h))
  next-at (x ∷ ls) zero l h e = ap (λ y. y ∷ ls) (sym e)
  next-at (x ∷ ls) (suc k) l h e = next-at ls k l (omega (arith, h)) e

  -- those after it are as they were
  pub past-at : (ls : List (Edit T)) (k : ℕ) (t : Edit T) → drop (suc k) (set ls k t) ≡ drop (suc k) ls
  past-at [] k t = refl
  past-at (x ∷ ls) zero t = refl
  past-at (x ∷ ls) (suc k) t = past-at ls k t

  pub drop-all : (ls : List (Edit T)) → drop (length ls) ls ≡ []
  drop-all [] = refl
  drop-all (x ∷ ls) = drop-all ls
