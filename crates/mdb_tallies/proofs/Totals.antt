-- Sums over lists that have each number once: what a change at one number does to them.
use Rattle.std.proofs.Common.{ℕ, ◌+◌, ◌-◌, ◌≡◌, ◌==◌, Bool, true, false, not, if◌then◌else◌, List, [], ◌∷◌, length, filter, refl, ap, arith}
use Rattle.std.proofs.lemmas.Grind.{common_steps}
use Rattle.mdb_log.specs.History.{without}
use Rattle.mdb_log.specs.Connections.{has, one_if}
use Rattle.mdb_log.proofs.Numbers.{has-without-is, same-number}
use Rattle.mdb_tallies.specs.Totals.{total, count, Once}

-- a number that is not in the list is not taken out
pub without-absent : (k : ℕ) (ks : List ℕ) → has k ks ≡ false → without k ks ≡ ks
without-absent k [] e = refl
without-absent k (j ∷ ks) e = grind (arith, common_steps, without-absent k ks)

pub without-itself : (k : ℕ) (ks : List ℕ) → has k (without k ks) ≡ false
without-itself k ks = grind (arith, common_steps, has-without-is k k ks, same-number k)

pub without-twice : (k : ℕ) (ks : List ℕ) → without k (without k ks) ≡ without k ks
without-twice k ks = without-absent k (without k ks) (without-itself k ks)

pub without-first : (k : ℕ) (ks : List ℕ) → without k (k ∷ without k ks) ≡ without k ks
without-first k ks = rw (same-number k) (without-twice k ks)

once-kept : (b : Bool) (j k : ℕ) (ks : List ℕ) → has j (without k ks) ≡ false → Once (without k ks) → Once (if b then (j ∷ without k ks) else without k ks)
once-kept true j k ks e o = (e, o)
once-kept false j k ks e o = o

pub once-without : (k : ℕ) (ks : List ℕ) → Once ks → Once (without k ks)
once-without k [] o = tt
once-without k (j ∷ ks) o = once-kept (not (j == k)) j k ks (rw (has-without-is j k ks, o.0) refl) (once-without k ks o.1)

-- one more in front
pub once-first : (k : ℕ) (ks : List ℕ) → Once ks → Once (k ∷ without k ks)
once-first k ks o = (without-itself k ks, once-without k ks o)

-- weights that are the same wherever the list has a number give the same sum
pub total-same : (f g : ℕ → ℕ) (ks : List ℕ) → ((k : ℕ) → has k ks ≡ true → f k ≡ g k) → total f ks ≡ total g ks
total-same f g [] e = refl
total-same f g (j ∷ ks) e = let first : f j ≡ g j = e j (grind (arith, same-number j)) in let rest : total f ks ≡ total g ks = total-same f g ks (λ k i. e k (grind (arith, common_steps))) in grind arith

-- what a number of the list weighs, and all others
pub total-apart : (f : ℕ → ℕ) (k : ℕ) (ks : List ℕ) → Once ks → total f ks ≡ (if has k ks then f k else 0) + total f (without k ks)
total-apart f k [] o = refl
total-apart f k (j ∷ ks) o = grind (arith, common_steps, total-apart f k ks o.1, without-absent k ks)

-- After a change at one number alone the sum is more by its new weight, and less by its old one.
pub total-change : (f g : ℕ → ℕ) (k : ℕ) (ks js : List ℕ) → Once ks → Once js → without k js ≡ without k ks → ((j : ℕ) → (k == j) ≡ false → g j ≡ f j) → (has k ks ≡ false → f k ≡ 0) → (has k js ≡ false → g k ≡ 0) → total g js + f k ≡ total f ks + g k
total-change f g k ks js o p e others here there =
    let was = total-apart f k ks o in
    let now = total-apart g k js p in
    let rest : total g (without k ks) ≡ total f (without k ks) = total-same g f (without k ks) (λ j i. others j (grind (arith, common_steps, has-without-is j k ks))) in
    let moved : total g (without k js) ≡ total f (without k ks) = rw e rest in
    grind (arith, common_steps)

none-passes : (b : Bool) → b ≡ false → one_if b ≡ 0
none-passes b e = rw e refl

-- how many pass, after a change at one number alone
pub count-change : (f g : ℕ → Bool) (k : ℕ) (ks js : List ℕ) → Once ks → Once js → without k js ≡ without k ks → ((j : ℕ) → (k == j) ≡ false → g j ≡ f j) → (has k ks ≡ false → f k ≡ false) → (has k js ≡ false → g k ≡ false) → count g js ≡ (count f ks + one_if (g k)) - one_if (f k)
count-change f g k ks js o p e others here there =
    let change = total-change (λ j. one_if (f j)) (λ j. one_if (g j)) k ks js o p e (λ j a. ap one_if (others j a)) (λ a. none-passes (f k) (here a)) (λ a. none-passes (g k) (there a)) in
    omega arith

pub count-same : (f g : ℕ → Bool) (ks : List ℕ) → ((k : ℕ) → f k ≡ g k) → count f ks ≡ count g ks
count-same f g ks e = total-same (λ k. one_if (f k)) (λ k. one_if (g k)) ks (λ k i. ap one_if (e k))

pub filter-count : (test : ℕ → Bool) (ks : List ℕ) → length (filter test ks) ≡ count test ks
filter-count test [] = refl
filter-count test (j ∷ ks) = grind (arith, common_steps, filter-count test ks)
