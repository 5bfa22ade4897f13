-- Lists of numbers: how often a number stands in them, how long they are, and what passes a test.
use Rattle.std.proofs.Common.{ℕ, ◌≡◌, ◌+◌, ◌≤◌, ◌==◌, Bool, true, false, not, ◌&&◌, List, [], ◌∷◌, ◌++◌, length, refl, sym, ◌∙◌, ap, subst, arith, if◌then◌else◌, filter}
use Rattle.std.proofs.lemmas.Grind.{common_steps}
use Rattle.std.specs.List.{list_any}
use Rattle.mdb_log.specs.History.{without}
use Rattle.mdb_log.specs.Connections.{one_if, has}
use Rattle.mdb_log.proofs.Numbers.{same-number}
use Rattle.mdb_sound.proofs.Order.{times, times-has, times-none}

pub same-if : (n k : ℕ) → (n == k) ≡ true → n ≡ k
same-if n k e = grind arith

pub times-filter-is : (f : ℕ → Bool) (k : ℕ) (ks : List ℕ) → times k (filter f ks) ≡ if f k then times k ks else 0
times-filter-is f k [] = on (f k)
  where
    on : (b : Bool) → ◌≡◌ {A = ℕ} 0 (if b then 0 else 0)
    on true = refl
    on false = refl
times-filter-is f k (j ∷ ks) = on (j == k) (f j) refl refl (times-filter-is f k ks)
  where
    on : (a b : Bool) → (j == k) ≡ a → f j ≡ b → times k (filter f ks) ≡ (if f k then times k ks else 0) → times k (filter f (j ∷ ks)) ≡ if f k then times k (j ∷ ks) else 0
    on true b e g rest = let h : f k ≡ b = subst (λ n. f n ≡ b) (same-if j k e) g in grind (arith, common_steps)
    on false b e g rest = grind (arith, common_steps)

pub times-without : (j k : ℕ) (ks : List ℕ) → times k (without j ks) ≡ if j == k then 0 else times k ks
times-without j k [] = on (j == k)
  where
    on : (b : Bool) → ◌≡◌ {A = ℕ} 0 (if b then 0 else 0)
    on true = refl
    on false = refl
times-without j k (i ∷ ks) = grind (arith, common_steps, times-without j k ks)

pub length-parts : (k : ℕ) (ks : List ℕ) → length ks ≡ times k ks + length (without k ks)
length-parts k [] = refl
length-parts k (j ∷ ks) = grind (arith, common_steps, length-parts k ks)

left : (j k : ℕ) (js ks : List ℕ) → times k js + one_if (j == k) ≡ times k ks → times k js + one_if (j == k) ≤ 1 → times k js ≡ times k (without j ks)
left j k js ks e l = grind (arith, common_steps, times-without j k ks)

-- two lists that name the same, each once, are as long as each other
pub same-length : (js ks : List ℕ) → ((k : ℕ) → times k js ≡ times k ks) → ((k : ℕ) → times k js ≤ 1) → length js ≡ length ks
same-length [] [] same once = refl
same-length [] (k ∷ ks) same once = let e : 0 ≡ times k ks + one_if (k == k) = same k in absurd (grind (arith, common_steps, same-number k))
same-length (j ∷ js) ks same once =
    let rest : length js ≡ length (without j ks) = same-length js (without j ks) (λ k. left j k js ks (same k) (once k)) (λ k. let l : times k js + one_if (j == k) ≤ 1 = once k in omega arith) in
    let e : times j js + one_if (j == j) ≡ times j ks = same j in
    let l : times j js + one_if (j == j) ≤ 1 = once j in
    let parts : length ks ≡ times j ks + length (without j ks) = length-parts j ks in
    grind (arith, common_steps, same-number j)

-- how often a number stands in a list that names each once tells whether it is there
pub times-tell : (k : ℕ) (ks : List ℕ) (b : Bool) → times k ks ≡ one_if b → has k ks ≡ b
times-tell k ks false e = times-has k ks e
times-tell k ks true e = on (has k ks) refl
  where
    on : (b : Bool) → has k ks ≡ b → has k ks ≡ true
    on true f = f
    on false f = absurd (grind (arith, common_steps, times-none k ks f))

pub filter-same : (f g : ℕ → Bool) (ks : List ℕ) → ((k : ℕ) → has k ks ≡ true → f k ≡ g k) → filter f ks ≡ filter g ks
filter-same f g [] same = refl
filter-same f g (k ∷ ks) same = on (g k) refl (filter-same f g ks (λ j h. same j (grind arith)))
  where
    here : f k ≡ g k
    here = same k (grind arith)

    on : (b : Bool) → g k ≡ b → filter f ks ≡ filter g ks → filter f (k ∷ ks) ≡ filter g (k ∷ ks)
    on true e rest = let h : f k ≡ true = here ∙ e in grind arith
    on false e rest = let h : f k ≡ false = here ∙ e in grind arith

pub filter-more : (f : ℕ → Bool) (ks : List ℕ) (k : ℕ) → filter f (ks ++ k ∷ []) ≡ filter f ks ++ (if f k then (k ∷ []) else [])
filter-more f [] k = refl
filter-more f (j ∷ ks) k = grind (arith, common_steps, filter-more f ks k)

pub filter-filter : (f g : ℕ → Bool) (ks : List ℕ) → filter f (filter g ks) ≡ filter (λ k. g k && f k) ks
filter-filter f g [] = refl
filter-filter f g (k ∷ ks) = on (f k) (g k) refl refl (filter-filter f g ks)
  where
    on : (b c : Bool) → f k ≡ b → g k ≡ c → filter f (filter g ks) ≡ filter (λ j. g j && f j) ks → filter f (filter g (k ∷ ks)) ≡ filter (λ j. g j && f j) (k ∷ ks)
    on true true e d rest = rw (d, e) (ap (λ (js : List ℕ). k ∷ js) rest)
    on true false e d rest = rw d rest
    on false true e d rest = rw (d, e) rest
    on false false e d rest = rw d rest

pub filter-cut : (f g : ℕ → Bool) (q : ℕ) (ks : List ℕ) → ((k : ℕ) → f k ≡ g k && not (k == q)) → filter f ks ≡ without q (filter g ks)
filter-cut f g q [] cut = refl
filter-cut f g q (k ∷ ks) cut = on (g k) (k == q) refl refl (filter-cut f g q ks cut)
  where
    on : (b c : Bool) → g k ≡ b → (k == q) ≡ c → filter f ks ≡ without q (filter g ks) → filter f (k ∷ ks) ≡ without q (filter g (k ∷ ks))
    on true true e h rest = let i : f k ≡ false = cut k ∙ rw (e, h) refl in grind arith
    on true false e h rest = let i : f k ≡ true = cut k ∙ rw (e, h) refl in grind arith
    on false c e h rest = let i : f k ≡ false = cut k ∙ rw e refl in grind arith

-- some member passes the test where this one does
pub any-has : (f : ℕ → Bool) (k : ℕ) (ks : List ℕ) → has k ks ≡ true → f k ≡ true → list_any f ks ≡ true
any-has f k [] e g = cc
any-has f k (j ∷ ks) e g = on (j == k) refl (any-has f k ks)
  where
    on : (b : Bool) → (j == k) ≡ b → (has k ks ≡ true → f k ≡ true → list_any f ks ≡ true) → list_any f (j ∷ ks) ≡ true
    on true h deeper = let i : f j ≡ true = subst (λ n. f n ≡ true) (sym (same-if j k h)) g in grind arith
    on false h deeper = let i : list_any f ks ≡ true = deeper (grind arith) g in grind arith

-- and none does where none passes
pub any-none : (f : ℕ → Bool) (ks : List ℕ) → ((k : ℕ) → f k ≡ false) → list_any f ks ≡ false
any-none f [] none = refl
any-none f (k ∷ ks) none = let i : f k ≡ false = none k in let j : list_any f ks ≡ false = any-none f ks none in grind arith
