-- Which entries the lines of a printed log show.
use Rattle.std.specs.Prelude.{◌≡◌, ℕ, List, ◌++◌, codes, IsTrue, Result, MatchResult}
use Rattle.std.specs.List.{AllByRecursion}
use Rattle.mdb_lines.specs.Spelling.{spelling}
use Rattle.mdb_lines.specs.Grammar.{is_printable}
use Rattle.mdb_lines.specs.LogText.{reply_text}
use Rattle.mdb_lines.specs.Script.{Spells}
use Rattle.mdb_entries.specs.declared.shown.Shown.{Shown}
use Rattle.mdb_entries.specs.declared.shown.ShownError.{ShownError}
use Rattle.mdb_entries.specs.declared.shown.ShownError.TheVariants.{OutOfMemory}
use Rattle.mdb_entries.specs.Facts.{shown_facts, IsFact}
use Rattle.mdb_entries.specs.Replies.{IsReply}

-- an entry's line, without its newline: the step's line, and behind bars the reply and the facts
abbrev pub shown_text : Shown → List ℕ
shown_text e = spelling e.step ++ (codes " | " ++ (reply_text e.reply ++ shown_facts e.facts))

-- The line of this number spells the step, and the reply and the facts keep their rules.
pub record HasParts (number : ℕ) (e : Shown) : Type 0 where
  pub step : Spells number (spelling e.step) e.step
  pub reply : IsReply e.reply
  pub facts : AllByRecursion IsFact e.facts

-- The line of this number, counted from 1 and without its newline, shows the entry.
pub record Shows (number : ℕ) (line : List ℕ) (e : Shown) : Type 0 where
  pub parts : HasParts number e
  pub printable : IsTrue (is_printable line)
  pub text : line ≡ shown_text e

-- This is what was read, unless memory ran out.
abbrev pub GivesShown : Shown → Result Shown ShownError → Type 0
GivesShown x r = MatchResult r (λ y. y ≡ x) (λ e. e ≡ OutOfMemory)
