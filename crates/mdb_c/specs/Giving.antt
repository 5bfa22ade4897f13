-- Texts as they are given to a caller.
use Rattle.std.specs.Prelude.{◌≡◌, ◌<◌, ℕ, List, ◌++◌, length, drop}

-- The text stands at the beginning of the room, and this is how long it is.
abbrev pub IsGiven : List ℕ → List ℕ → List ℕ → ℕ → Type 0
IsGiven text before after needed = (after ≡ text ++ drop (length text) before) × (needed ≡ length text)

-- The text is as long as this, and longer than the room.
abbrev pub LacksRoom : List ℕ → List ℕ → ℕ → Type 0
LacksRoom text before needed = (needed ≡ length text) × (length before < length text)
