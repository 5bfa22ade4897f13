-- The average with one more sample is that of one more sample.
use Rattle.std.proofs.Common.{ℕ, ◌≡◌, Some, List, [], ◌∷◌, refl}
use Rattle.mdb_monitor.specs.Average.{mean, average_of, next_average}

pub mean-next : (x : ℕ) (l : List ℕ) → mean (x ∷ l) ≡ next_average (average_of l) x
mean-next x [] = refl
mean-next x (y ∷ l) = refl

pub next-average : (l : List ℕ) (x : ℕ) → average_of (x ∷ l) ≡ Some (next_average (average_of l) x)
next-average [] x = refl
next-average (y ∷ l) x = refl

-- where there is an average it is the mean
pub mean-is : (l : List ℕ) (a : ℕ) → average_of l ≡ Some a → mean l ≡ a
mean-is [] a e = absurd (cc)
mean-is (x ∷ l) a e = cc
