-- Sets of numbers as spans.
use Rattle.std.specs.Prelude.{ℕ, suc, ◌+◌, ◌-◌, ◌≤◌, Bool, false, ◌&&◌, ◌||◌, ◌==◌, if◌then◌else◌, nat_lt, nat_le, List, [], ◌∷◌, ⊤}
use Rattle.mdb_intervals.specs.declared.span.Span.{Span}

-- the number is one of the span's
abbrev pub within : ℕ → Span → Bool
within n s = nat_le s.from n && nat_le n s.to

-- the number is in one of the spans
abbrev pub has : ℕ → List Span → Bool
has n [] = false
has n (s ∷ ss) = within n s || has n ss

-- the spans have numbers, begin at the bound or above it, and leave a gap between any two
abbrev pub AreApart : ℕ → List Span → Type 0
AreApart bound [] = ⊤
AreApart bound (s ∷ ss) = (bound ≤ s.from) × (s.from ≤ s.to) × AreApart (s.to + 2) ss

-- how many of the spans end before the number
abbrev pub ended : ℕ → List Span → ℕ
ended n [] = 0
ended n (s ∷ ss) = if nat_lt s.to n then suc (ended n ss) else 0

-- a set of numbers as spans, and how many spans there may be without memory
pub record SpanSet : Type 0 where
  pub spans : List Span
  pub capacity : ℕ

-- the first of the spans begins right after the number
abbrev pub begins_after : ℕ → List Span → Bool
begins_after n [] = false
begins_after n (t ∷ ts) = t.from == n + 1

-- the span from a number to n, and with the first of the others where that begins right after n
abbrev pub joined : ℕ → ℕ → List Span → List Span
joined from n [] = record { from = from; to = n } ∷ []
joined from n (t ∷ ts) = if t.from == n + 1 then record { from = from; to = t.to } ∷ ts else (record { from = from; to = n } ∷ t ∷ ts)

-- the number comes to the spans, of which the first does not end before the number below it
abbrev pub put_first : ℕ → List Span → List Span
put_first n [] = record { from = n; to = n } ∷ []
put_first n (s ∷ ss) =
    if nat_lt n s.from then (if nat_lt 1 (s.from - n) then record { from = n; to = n } ∷ s ∷ ss else (record { from = n; to = s.to } ∷ ss))
    else (if nat_lt s.to n then joined s.from n ss else (s ∷ ss))

-- the number comes
abbrev pub put : ℕ → List Span → List Span
put n [] = put_first n []
put n (s ∷ ss) = if nat_lt s.to (n - 1) then s ∷ put n ss else put_first n (s ∷ ss)
