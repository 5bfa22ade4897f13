-- Elections and set versions of primaries, and the greatest pair of them.
use Rattle.std.specs.Prelude.{◌≡◌, false, [], ◌∷◌, ℕ, ◌==◌, ◌&&◌, ◌||◌, nat_lt, List, Bool, Option, Some, None, if◌then◌else◌}
use Rattle.std.specs.List.{fold}

-- The number of an election, and a set version.
pub record Pair : Type 0 where
  pub election : ℕ
  pub version : ℕ

-- pairs in their order: by election, and at one election by set version
abbrev pub is_below : Pair → Pair → Bool
is_below p q = nat_lt p.election q.election || ((p.election == q.election) && nat_lt p.version q.version)

-- the pair, unless the greatest so far is above it
abbrev pub greater : Option Pair → Pair → Pair
greater None p = p
greater (Some t) p = if is_below p t then t else p

-- the greatest of some pairs
abbrev pub top : List Pair → Option Pair
top pairs = fold (λ t p. Some (greater t p)) None pairs

-- the first greatest pair, where there is one, is not above the second
abbrev pub IsAtMost : Option Pair → Option Pair → Type 0
IsAtMost None later = Unit {0}
IsAtMost (Some t) None = ⊥
IsAtMost (Some t) (Some u) = is_below u t ≡ false

-- none of the pairs is above this one
abbrev pub AllUpTo : Pair → List Pair → Type 0
AllUpTo t [] = Unit {0}
AllUpTo t (p ∷ ps) = (is_below t p ≡ false) × AllUpTo t ps
