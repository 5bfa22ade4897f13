-- Lines of a text.
use Rattle.std.specs.Prelude.{◌≡◌, ◌<◌, ℕ, ◌==◌, List, [], ◌∷◌, length, if◌then◌else◌}
use Rattle.mdb_lines.specs.Script.{lines_of}

-- a line without its newline
abbrev pub without_newline : List ℕ → List ℕ
without_newline [] = []
without_newline (b ∷ []) = if b == 10 then [] else b ∷ []
without_newline (b ∷ (c ∷ bs)) = b ∷ without_newline (c ∷ bs)

-- the first line of a text, without its newline, and what stands behind it
pub record CutsFirst (text line behind : List ℕ) : Type 0 where
  pub whole : List ℕ
  pub lines : lines_of text ≡ whole ∷ lines_of behind
  pub own : without_newline whole ≡ line
  pub shorter : length behind < length text
