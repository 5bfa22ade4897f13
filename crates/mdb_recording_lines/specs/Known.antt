-- The addresses that a recording names, in the order in which they were first named. The number of a pool is the place of its address.
use Rattle.std.specs.Prelude.{◌≡◌, ℕ, ◌+◌, List, [], ◌∷◌, ◌++◌, map, Option, Some, None, is_some, if◌then◌else◌, string_bytes}
use Rattle.std.specs.Str.{bytes_eq}
use Rattle.std.specs.BTreeMap.{get_by_text}
use Rattle.mdb_recording_lines.specs.declared.names.Names.{Names}

-- the place of an address, counted from this
abbrev pub place_from : ℕ → List ℕ → List (List ℕ) → Option ℕ
place_from n a [] = None
place_from n a (x ∷ xs) = if bytes_eq x a then Some n else place_from (n + 1) a xs

abbrev pub place : List ℕ → List (List ℕ) → Option ℕ
place a known = place_from 0 a known

-- the addresses where this one is named
abbrev pub with_named : List ℕ → List (List ℕ) → List (List ℕ)
with_named a known = if is_some (place a known) then known else known ++ a ∷ []

pub record Holds (known : List (List ℕ)) (names : Names) : Type 0 where
  pub list : map string_bytes names.list.items ≡ known
  pub places : (a : List ℕ) → get_by_text names.map a ≡ place a known

-- The address is named, and has this place.
pub record Named (a : List ℕ) (known : List (List ℕ)) (n : ℕ) (names : Names) : Type 0 where
  pub number : place a (with_named a known) ≡ Some n
  pub holds : Holds (with_named a known) names
