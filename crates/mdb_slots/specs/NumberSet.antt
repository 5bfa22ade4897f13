-- Numbers that were put, each once: those that stay as spans, and those that came since.
use Rattle.std.specs.Prelude.{ℕ, ◌+◌, ◌≤◌, Option, List, [], ◌∷◌, ◌++◌, length}
use Rattle.mdb_intervals.specs.declared.span.Span.{Span}
use Rattle.mdb_intervals.specs.Spans.{put}
use Rattle.mdb_slots.specs.Open.{or_else}

-- what a set is read from: the numbers in the order in which they came, and the spans in memory
pub record Spanned : Type 0 where
  pub numbers : List ℕ
  pub spans : List Span

abbrev pub nothing_spanned : Spanned
nothing_spanned = record { numbers = []; spans = [] }

abbrev pub numbers_kept : Spanned → List ℕ
numbers_kept s = s.numbers

-- the numbers come to the spans
abbrev pub put_all : List ℕ → List Span → List Span
put_all [] ss = ss
put_all (n ∷ ns) ss = put_all ns (put n ss)

-- numbers that come, and how many spans there are places for if the spans move
pub record NumberSteps : Type 0 where
  pub numbers : List ℕ
  pub capacity : Option ℕ

-- what the set is read from once the numbers have come
abbrev pub spanned_after : NumberSteps → Spanned → Spanned
spanned_after p s = record { numbers = s.numbers ++ p.numbers; spans = put_all p.numbers s.spans }

-- how many spans there are places for then
abbrev pub capacity_after : NumberSteps → ℕ → ℕ
capacity_after p capacity = or_else p.capacity capacity

-- the numbers can come without memory
abbrev pub NumbersFit : NumberSteps → Spanned → ℕ → Type 0
NumbersFit p s capacity = length s.spans + length p.numbers ≤ capacity_after p capacity

-- the numbers as they are, what they were read from when they were last committed, and how many spans there were places for then
pub record OpenNumbers : Type 0 where
  pub now : List ℕ
  pub base : Spanned
  pub capacity : ℕ
