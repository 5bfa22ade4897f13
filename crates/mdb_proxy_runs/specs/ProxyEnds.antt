-- How a run of a proxy script ends before its end, and when each cause may come.
use Rattle.std.specs.Prelude.{◌≡◌, ℕ, ◌+◌, ◌<◌, List, ◌∷◌, ◌++◌, length, Result, Ok, Err, ◌⊎◌}
use Rattle.std.specs.Io.KnownBytes.{Consumes}
use Rattle.mdb_base.specs.Outside.{Rose}
use Rattle.mdb_base.specs.declared.options.Options.{Options}
use Rattle.mdb_log.specs.declared.log.Entry.{Entry}
use Rattle.mdb_parts.specs.declared.line_error.LineError.{LineError}
use Rattle.mdb_parts.specs.declared.line_error.LineError.TheVariants as line_error
use Rattle.mdb_lines.specs.declared.run_error.RunError.{RunError}
use Rattle.mdb_lines.specs.declared.run_error.RunError.TheVariants as errors
use Rattle.mdb_lines.specs.Script.{Spells, lines_of, max_input}
use Rattle.mdb_lines.specs.Loops.{ReadsAll}
use Rattle.mdb_proxies.specs.declared.step.ProxyStep.{ProxyStep}
use Rattle.mdb_topology.specs.Logging.{opening_step}
use Rattle.mdb_proxy_lines.specs.ProxyLines.{SpellsShares, SpellsStep}
use Rattle.mdb_proxy_runs.specs.ProxyScripts.{whole, OpensFor, IsLater, AreLater, AreLines, IsNext, IsBadAt}
use Rattle.mdb_proxy_runs.specs.ProxyRuns.{Seen}

-- ---- parts of a run

-- what a run ends with where the line of this number is not read
abbrev pub cause_of : LineError → ℕ → RunError
cause_of line_error.Bad n = errors.Malformed n
cause_of line_error.OutOfMemory n = errors.OutOfMemory

-- what may be said against a line from the third on, which has this number
abbrev pub LineEnds : ℕ → List ℕ → ℕ → ℕ → RunError → Type 0
LineEnds number line faults new_faults errors.OutOfMemory = new_faults ≡ faults
LineEnds number line faults new_faults errors.WriteFault = Rose faults new_faults
LineEnds number line faults new_faults (errors.Malformed n) = (n ≡ number) × ((s : ProxyStep) → SpellsStep line s → ⊥) × (new_faults ≡ faults)
LineEnds number line faults new_faults _ = ⊥

-- the first of the lines from the third on that spells no step has this number
pub record IsBadLater (input : List ℕ) (number : ℕ) : Type 0 where
  pub before : List (List ℕ)
  pub line : List ℕ
  pub more : List (List ℕ)
  pub cut : lines_of input ≡ before ++ line ∷ more
  pub lines : AreLater before
  pub bad : IsLater line → ⊥
  pub at : number ≡ 3 + length before

abbrev pub LinesEnd : List ℕ → ℕ → ℕ → RunError → Type 0
LinesEnd input faults new_faults errors.OutOfMemory = new_faults ≡ faults
LinesEnd input faults new_faults errors.WriteFault = Rose faults new_faults
LinesEnd input faults new_faults (errors.Malformed n) = IsBadLater input n × (new_faults ≡ faults)
LinesEnd input faults new_faults _ = ⊥

-- what may be said against the options of a line
abbrev pub OptionsEnd : List ℕ → RunError → Type 0
OptionsEnd line errors.OutOfMemory = Unit {0}
OptionsEnd line (errors.Malformed n) = (n ≡ 2) × ((o : Options) → Spells 1 line (opening_step o) → ⊥)
OptionsEnd line _ = ⊥

-- what may be said against the second line, for these shares
abbrev pub OpeningEnds : List ℕ → List ℕ → RunError → Type 0
OpeningEnds shares line errors.OutOfMemory = Unit {0}
OpeningEnds shares line (errors.Malformed n) = (n ≡ 2) × ((o : Options) → OpensFor shares line o → ⊥)
OpeningEnds shares line _ = ⊥

abbrev pub SecondEnds : List ℕ → List ℕ → ℕ → ℕ → RunError → Type 0
SecondEnds shares line faults new_faults errors.OutOfMemory = new_faults ≡ faults
SecondEnds shares line faults new_faults errors.WriteFault = Rose faults new_faults
SecondEnds shares line faults new_faults (errors.Malformed n) = (n ≡ 2) × ((o : Options) → OpensFor shares line o → ⊥) × (new_faults ≡ faults)
SecondEnds shares line faults new_faults _ = ⊥

-- behind a first line, the first line that has no place in a proxy script has this number
pub record IsBadBehind (first input : List ℕ) (number : ℕ) : Type 0 where
  pub before : List (List ℕ)
  pub line : List ℕ
  pub more : List (List ℕ)
  pub cut : lines_of input ≡ before ++ line ∷ more
  pub lines : AreLines (first ∷ before)
  pub bad : IsNext (first ∷ before) line → ⊥
  pub at : number ≡ 2 + length before

-- the line names these shares, and no others
pub record NamesAlone (line shares : List ℕ) : Type 0 where
  pub names : SpellsShares line shares
  pub alone : (others : List ℕ) → SpellsShares line others → others ≡ shares

-- What is behind the first line ended so, whichever line named these shares.
abbrev pub SharesEnd : List ℕ → List ℕ → ℕ → ℕ → RunError → Type 0
SharesEnd shares input faults new_faults errors.OutOfMemory = new_faults ≡ faults
SharesEnd shares input faults new_faults errors.WriteFault = Rose faults new_faults
SharesEnd shares input faults new_faults (errors.Malformed n) = ((named : List ℕ) → NamesAlone named shares → IsBadBehind (whole named) input n) × (new_faults ≡ faults)
SharesEnd shares input faults new_faults _ = ⊥

-- the lines of an input ended so
abbrev pub RunEnds : List ℕ → ℕ → ℕ → RunError → Type 0
RunEnds input faults new_faults errors.OutOfMemory = new_faults ≡ faults
RunEnds input faults new_faults errors.WriteFault = Rose faults new_faults
RunEnds input faults new_faults (errors.Malformed n) = IsBadAt input n × (new_faults ≡ faults)
RunEnds input faults new_faults _ = ⊥

-- ---- whole runs

-- A run ended before its end, with this cause: for lack of memory, at a read error or of the sink, at the first line that has no place, or past the greatest length.
abbrev pub Ended : Seen → Seen → RunError → Type 0
Ended old new errors.OutOfMemory = (new.reads ≡ old.reads) × (new.writes ≡ old.writes)
Ended old new errors.ReadFault = Rose old.reads new.reads × (new.writes ≡ old.writes)
Ended old new errors.WriteFault = (input : List ℕ) × ReadsAll max_input old.left new.left old.reads new.reads input × Rose old.writes new.writes
Ended old new (errors.Malformed n) = (input : List ℕ) × ReadsAll max_input old.left new.left old.reads new.reads input × IsBadAt input n × (new.writes ≡ old.writes)
Ended old new errors.TooLong = (new.reads ≡ old.reads) × (new.writes ≡ old.writes) × ((bytes : List ℕ) × Consumes old.left new.left bytes × (max_input < length bytes))

-- The answer is this error, unless memory ran out.
abbrev pub EndsWith : RunError → Result (List Entry) RunError → Type 0
EndsWith e (Ok log) = ⊥
EndsWith e (Err f) = (f ≡ e) ⊎ (f ≡ errors.OutOfMemory)
