-- The average round trip of a server.
use Rattle.std.specs.Prelude.{ℕ, ◌+◌, ◌*◌, ◌/◌, Option, Some, None, List, [], ◌∷◌}

-- the average of the samples, the newest first: that of one is the sample; a further one weighs a fifth and the average before it four fifths, each rounded down
abbrev pub mean : List ℕ → ℕ
mean [] = 0
mean (x ∷ []) = x
mean (x ∷ y ∷ older) = x / 5 + mean (y ∷ older) * 4 / 5

-- the average, where there is a sample
abbrev pub average_of : List ℕ → Option ℕ
average_of [] = None
average_of (x ∷ older) = Some (mean (x ∷ older))

-- the average with one more sample
abbrev pub next_average : Option ℕ → ℕ → ℕ
next_average None sample = sample
next_average (Some old) sample = sample / 5 + old * 4 / 5
