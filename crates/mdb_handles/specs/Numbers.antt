-- The numbers of a seat: all numbers below 2 ^ 32 are shared out among the seats in parts of one size.
use Rattle.std.specs.Prelude.{ℕ, ◌+◌, ◌*◌, ◌/◌, ◌^◌, ◌<◌, ◌≤◌}

-- the next number, and the first one that isn't the seat's any more
pub record NumbersView : Type 0 where
  pub next : ℕ
  pub end : ℕ

abbrev pub first_of : ℕ → ℕ → ℕ
first_of seats seat = seat * (2 ^ 32 / seats)

abbrev pub end_of : ℕ → ℕ → ℕ
end_of seats seat = (seat + 1) * (2 ^ 32 / seats)

abbrev pub IsNumberOf : ℕ → ℕ → ℕ → Type 0
IsNumberOf seats seat n = (first_of seats seat ≤ n) × (n < end_of seats seat)
