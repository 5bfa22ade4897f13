-- What a run of a proxy script wrote that ended before its end.
use Rattle.std.specs.Prelude.{◌≡◌, ℕ, ◌+◌, List, [], ◌∷◌, ◌++◌, length, map, Option, ◌⊎◌}
use Rattle.mdb_base.specs.Outside.{Held, Took}
use Rattle.mdb_base.specs.declared.options.Options.{Options}
use Rattle.mdb_lines.specs.declared.run_error.RunError.{RunError}
use Rattle.mdb_lines.specs.declared.run_error.RunError.TheVariants as errors
use Rattle.mdb_lines.specs.Script.{lines_of, max_input}
use Rattle.mdb_lines.specs.Loops.{TookFront, ReadsAll}
use Rattle.mdb_proxies.specs.View.{ProxyView}
use Rattle.mdb_proxy_lines.specs.ProxyLines.{SpellsShares}
use Rattle.mdb_proxy_runs.specs.ProxyScripts.{whole, OpensFor}
use Rattle.mdb_proxy_runs.specs.ProxyRuns.{Answers, AnswersAll, begun, opening_text, Seen}

-- Of the text the sink took all, or at an error of the sink some front.
abbrev pub Sent : RunError → Option Held → Option Held → List ℕ → Type 0
Sent errors.WriteFault held new_held text = TookFront held new_held text
Sent _ held new_held text = Took held new_held text

-- a line that has no place is the one with this number
abbrev pub IsAt : RunError → ℕ → Type 0
IsAt (errors.Malformed n) number = n ≡ number
IsAt _ number = Unit {0}

-- ---- parts of a run

-- One line wrote nothing; or, at an error of the sink, it was answered, and the sink took a front of what is written for it.
abbrev pub LineWrote : List ℕ → ProxyView → Option Held → Option Held → RunError → Type 0
LineWrote line old held new_held errors.WriteFault = (new : ProxyView) × (text : List ℕ) × Answers old new line text × TookFront held new_held text
LineWrote line old held new_held _ = Took held new_held []

-- The first lines of the bytes were answered by the proxy, one after another, and this is what is written for them.
pub record Answered (input : List ℕ) (old : ProxyView) (text : List ℕ) : Type 0 where
  pub lines : List (List ℕ)
  pub more : List (List ℕ)
  pub last : ProxyView
  pub cut : lines_of input ≡ map whole lines ++ more
  pub answers : AnswersAll old last lines text

-- So much was written for the lines from the third on.
abbrev pub LinesWrote : List ℕ → ProxyView → Option Held → Option Held → RunError → Type 0
LinesWrote input old held new_held e = (text : List ℕ) × (a : Answered input old text) × Sent e held new_held text × IsAt e (3 + length a.lines)

-- The second line wrote nothing; or, at an error of the sink, it opens a driver, and the sink took a front of what is written for it.
abbrev pub SecondWrote : List ℕ → List ℕ → Option Held → Option Held → RunError → Type 0
SecondWrote shares line held new_held errors.WriteFault = (o : Options) × OpensFor shares line o × TookFront held new_held (opening_text line o)
SecondWrote shares line held new_held _ = Took held new_held []

-- ---- what is written for the first lines

-- What is written for lines behind the first one, for these shares: nothing where there are none; and else what opens the driver, and what the one proxy over it answers to each later line.
abbrev pub WrittenFor : List ℕ → List (List ℕ) → List ℕ → Type 0
WrittenFor shares [] text = text ≡ []
WrittenFor shares (line ∷ lines) text =
    (o : Options) × (last : ProxyView) × (rest : List ℕ) × OpensFor shares line o × AnswersAll (begun shares o) last lines rest × (text ≡ opening_text line o ++ rest)

-- The bytes begin with these lines, for which this is written.
pub record FrontFor (shares input text : List ℕ) : Type 0 where
  pub lines : List (List ℕ)
  pub more : List (List ℕ)
  pub cut : lines_of input ≡ map whole lines ++ more
  pub written : WrittenFor shares lines text

-- So much was written for the lines from the second on.
abbrev pub SharesWrote : List ℕ → List ℕ → Option Held → Option Held → RunError → Type 0
SharesWrote shares input held new_held e = (text : List ℕ) × (f : FrontFor shares input text) × Sent e held new_held text × IsAt e (2 + length f.lines)

-- What is written for the first lines of a proxy script: the first names shares, for which nothing is written.
abbrev pub Written : List (List ℕ) → List ℕ → Type 0
Written [] text = text ≡ []
Written (first ∷ lines) text = (shares : List ℕ) × SpellsShares first shares × WrittenFor shares lines text

-- The input begins with these lines, given without their newlines, for which this is written.
pub record Front (input text : List ℕ) : Type 0 where
  pub lines : List (List ℕ)
  pub more : List (List ℕ)
  pub cut : lines_of input ≡ map whole lines ++ more
  pub written : Written lines text

-- ---- whole runs

-- What was written for the first lines of the input: all of their text, or at an error of the sink a front. A line that has no place is the next one.
abbrev pub RunWrote : List ℕ → Option Held → Option Held → RunError → Type 0
RunWrote input held new_held e = (text : List ℕ) × (f : Front input text) × Sent e held new_held text × IsAt e (1 + length f.lines)

-- What a run wrote that ended early: nothing where the input was not read to its end, and else the text of its first lines.
abbrev pub Wrote : Seen → Seen → RunError → Type 0
Wrote old new errors.ReadFault = Took old.held new.held []
Wrote old new errors.TooLong = Took old.held new.held []
Wrote old new errors.OutOfMemory = Took old.held new.held [] ⊎ ((input : List ℕ) × ReadsAll max_input old.left new.left old.reads new.reads input × RunWrote input old.held new.held errors.OutOfMemory)
Wrote old new e = (input : List ℕ) × ReadsAll max_input old.left new.left old.reads new.reads input × RunWrote input old.held new.held e
