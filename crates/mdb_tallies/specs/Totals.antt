-- Sums over lists of numbers, and lists that have each number once.
use Rattle.std.specs.Prelude.{ℕ, ◌+◌, ◌≡◌, Bool, false, List, [], ◌∷◌, ⊤}
use Rattle.mdb_log.specs.Connections.{has, one_if}

-- the sum of what each number of the list weighs
abbrev pub total : (ℕ → ℕ) → List ℕ → ℕ
total weight [] = 0
total weight (c ∷ cs) = total weight cs + weight c

-- how many numbers of the list pass the test
abbrev pub count : (ℕ → Bool) → List ℕ → ℕ
count test cs = total (λ c. one_if (test c)) cs

-- no number stands twice
abbrev pub Once : List ℕ → Type 0
Once [] = ⊤
Once (c ∷ cs) = (has c cs ≡ false) × Once cs
