-- Tags stand by name: the bytes of each name are below those of the next.
use Rattle.std.specs.Prelude.{ℕ, List, [], ◌∷◌, Bool, true, ◌&&◌}
use Rattle.std.specs.Ordering.{is_lt, nat_cmp}
use Rattle.std.specs.Cmp.Lexicographic.{slice_cmp}

-- a tag: its name, and its value
abbrev pub Tag : Type 0
Tag = List ℕ × List ℕ

abbrev pub is_before : List ℕ → List ℕ → Bool
is_before a b = is_lt (slice_cmp nat_cmp a b)

-- the name is below that of the first of these
abbrev pub is_below_first : List ℕ → List Tag → Bool
is_below_first name [] = true
is_below_first name (tag ∷ tags) = is_before name tag.0

abbrev pub is_by_name : List Tag → Bool
is_by_name [] = true
is_by_name (tag ∷ tags) = is_below_first tag.0 tags && is_by_name tags
