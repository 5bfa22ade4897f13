-- The first values of a list, and which of them pass a test.
use Rattle.std.proofs.Common.{ℕ, zero, suc, ◌≡◌, ◌<◌, ◌==◌, Bool, true, false, ◌||◌, if◌then◌else◌, filter, List, [], ◌∷◌, ◌++◌, Some, refl, sym, ap, subst, ◌∙◌, arith}
use Rattle.std.proofs.lemmas.Grind.{common_steps}
use Rattle.std.proofs.lemmas.List.Elements.{filter-append}
use Rattle.mdb_log.specs.Connections.{has}
use Rattle.mdb_log.specs.Legal.{first}
use Rattle.mdb_judging.specs.Queueing.{first_of}
use Rattle.mdb_tallies.proofs.Placed.{same}

abbrev one_of : Bool → ℕ → List ℕ
one_of b v = if b then (v ∷ []) else []

-- values that agree below a number are the same first ones
pub first-same : (n : ℕ) (u v : ℕ → ℕ) → ((i : ℕ) → i < n → u i ≡ v i) → first_of n u ≡ first_of n v
first-same zero u v e = refl
first-same (suc n) u v e = let last : u n ≡ v n = e n (omega arith) in let rest : first_of n u ≡ first_of n v = first-same n u v (λ i l. e i (omega arith)) in rw (last, rest) refl

-- tests that agree on the first values let the same pass
pub filter-first : (n : ℕ) (values : ℕ → ℕ) (f g : ℕ → Bool) → ((i : ℕ) → i < n → f (values i) ≡ g (values i)) → filter f (first_of n values) ≡ filter g (first_of n values)
filter-first zero values f g e = refl
filter-first (suc n) values f g e =
    let last : f (values n) ≡ g (values n) = e n (omega arith) in
    let rest : filter f (first_of n values) ≡ filter g (first_of n values) = filter-first n values f g (λ i l. e i (omega arith)) in
    filter-append f (first_of n values) (values n ∷ []) ∙ (λ i. rest i ++ one_of (last i) (values n)) ∙ sym (filter-append g (first_of n values) (values n ∷ []))

-- tests that agree but at one number that is not on the list
pub filter-but : (s : ℕ) (ks : List ℕ) (f g : ℕ → Bool) → has s ks ≡ false → ((k : ℕ) → (s == k) ≡ false → f k ≡ g k) → filter f ks ≡ filter g ks
filter-but s [] f g absent e = refl
filter-but s (k ∷ ks) f g absent e = rw (e k (apart k (k == s) refl (has s ks) absent), filter-but s ks f g (absent-rest (k == s) (has s ks) absent) e) refl
  where
    absent-rest : (a b : Bool) → a || b ≡ false → b ≡ false
    absent-rest true b e = cc
    absent-rest false b e = e

    apart : (k : ℕ) (a : Bool) → (k == s) ≡ a → (b : Bool) → a || b ≡ false → (s == k) ≡ false
    apart k true u b e = cc
    apart k false u b e = grind arith

-- none of the first values passes
pub filter-none : (n : ℕ) (values : ℕ → ℕ) (g : ℕ → Bool) → ((i : ℕ) → i < n → g (values i) ≡ false) → filter g (first_of n values) ≡ []
filter-none zero values g e = refl
filter-none (suc n) values g e =
    let last : g (values n) ≡ false = e n (omega arith) in
    let rest : filter g (first_of n values) ≡ [] = filter-none n values g (λ i l. e i (omega arith)) in
    filter-append g (first_of n values) (values n ∷ []) ∙ (λ i. rest i ++ one_of (last i) (values n))

first-before : (xs ys : List ℕ) (v : ℕ) → first xs ≡ Some v → first (xs ++ ys) ≡ Some v
first-before [] ys v e = cc
first-before (x ∷ xs) ys v e = e

-- the first that passes
pub first-at : (n i : ℕ) (values : ℕ → ℕ) (g : ℕ → Bool) → i < n → g (values i) ≡ true → ((j : ℕ) → j < i → g (values j) ≡ false) → first (filter g (first_of n values)) ≡ Some (values i)
first-at zero i values g below passes idle = grind arith
first-at (suc n) i values g below passes idle = ap first (filter-append g (first_of n values) (values n ∷ [])) ∙ by (i == n) refl (λ less. first-at n i values g less passes idle)
  where
    by : (b : Bool) → (i == n) ≡ b → (i < n → first (filter g (first_of n values)) ≡ Some (values i)) → first (filter g (first_of n values) ++ one_of (g (values n)) (values n)) ≡ Some (values i)
    by true u before =
        let is : i ≡ n = same i n u in
        let none : filter g (first_of n values) ≡ [] = filter-none n values g (λ j l. idle j (omega (arith, l, is))) in
        let last : g (values n) ≡ true = subst (λ k. g (values k) ≡ true) is passes in
        (λ k. first (none k ++ one_of (last k) (values n))) ∙ ap (λ k. Some (values k)) (sym is)
    by false u before = let less : i < n = grind (arith, common_steps) in first-before (filter g (first_of n values)) (one_of (g (values n)) (values n)) (values i) (before less)
