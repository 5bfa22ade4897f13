-- The grammar of a script: its lines, and the steps that they spell.
use Rattle.std.specs.Prelude.{◌≡◌, ℕ, ◌+◌, ◌==◌, List, [], ◌∷◌, ◌++◌, codes, if◌then◌else◌, IsTrue}
use Rattle.std.specs.List.{onto_first}
use Rattle.mdb_log.specs.declared.step.Step.{Step}
use Rattle.mdb_lines.specs.Spelling.{spelling}
use Rattle.mdb_lines.specs.Grammar.{is_step, is_open, is_printable}
use Rattle.mdb_lines.specs.Types.{IsStepOfTypes}

-- The line of this number, counted from 1 and without its newline, spells the step.
pub record Spells (number : ℕ) (line : List ℕ) (s : Step) : Type 0 where
  pub types : IsStepOfTypes s
  pub rules : IsTrue (is_step s)
  pub place : is_open s.act ≡ (number == 1)
  pub printable : IsTrue (is_printable line)
  pub text : line ≡ spelling s

-- The lines of an input, each with its newline. Bytes after the last newline are one more line.
unfoldable pub lines_of : List ℕ → List (List ℕ)
lines_of [] = []
lines_of (b ∷ bs) = if b == 10 then (10 ∷ []) ∷ lines_of bs else onto_first b (lines_of bs)

-- a step's line, with its newline
abbrev pub line_of : Step → List ℕ
line_of s = spelling s ++ codes "\n"

-- Each step may stand at its number, counted from this one.
abbrev pub AreAllowed : ℕ → List Step → Type 0
AreAllowed n [] = Unit {0}
AreAllowed n (s ∷ ss) = Spells n (spelling s) s × AreAllowed (n + 1) ss

-- the most bytes that a script may have
abbrev pub max_input : ℕ
max_input = 131072
