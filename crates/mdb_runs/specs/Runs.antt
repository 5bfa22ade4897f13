-- What a run reads, answers and writes.
use Rattle.std.specs.Prelude.{◌≡◌, ℕ, ◌+◌, ◌<◌, List, [], ◌∷◌, ◌++◌, length, map, true, All, Option, Result, Ok, Err, ◌⊎◌, ⊤}
use Rattle.std.specs.Io.KnownBytes.{Consumes}
use Rattle.mdb_base.specs.Outside.{Rose, Held, Took, IsFlushed}
use Rattle.mdb_log.specs.declared.step.Step.{Step}
use Rattle.mdb_log.specs.declared.log.Entry.{Entry}
use Rattle.mdb_lines.specs.declared.run_error.RunError.{RunError}
use Rattle.mdb_lines.specs.declared.run_error.RunError.TheVariants as errors
use Rattle.mdb_lines.specs.Spelling.{spelling}
use Rattle.mdb_lines.specs.LogText.{text_of_entry, text_of}
use Rattle.mdb_lines.specs.Script.{Spells, lines_of, line_of, AreAllowed, max_input}
use Rattle.mdb_lines.specs.Loops.{TookFront, ReadsAll}
use Rattle.mdb_driver_rules.specs.Acts.{is_driver_act}
use Rattle.mdb_topology.specs.Driving.{opens_seeds, may_come}
use Rattle.mdb_driver_rules.specs.Lines.{entry_after, log_of, steps_of}
use Rattle.mdb_log.specs.LegalLog.{IsLegalLog}
use Rattle.mdb_log.specs.History.{history_of}
use Rattle.mdb_log.specs.PlainLegal.{LegalLog}
use Rattle.mdb_topology.specs.declared.topology.TopologyCore.{TopologyCore}
use Rattle.mdb_topology.specs.Logging.{IsDriverOf, IsKept}
use Rattle.mdb_histories.specs.SoundHistory.{SoundHistory}
use Rattle.mdb_laws.specs.LogHeadline.{LogHeadline}

-- the first step opens seeds, and every later step is one that may come after it
abbrev pub IsWithin : List Step → Type 0
IsWithin [] = Unit {0}
IsWithin (first ∷ steps) = (opens_seeds first.act ≡ true) × All (λ s. is_driver_act s.act ≡ true) steps

-- The input is a script of these steps.
pub record IsScript (input : List ℕ) (steps : List Step) : Type 0 where
  pub lines : lines_of input ≡ map line_of steps
  pub allowed : AreAllowed 1 steps
  pub within : IsWithin steps

-- The first lines of the input are those of the steps.
pub record Begins (input : List ℕ) (steps : List Step) (more : List (List ℕ)) : Type 0 where
  pub cut : lines_of input ≡ map line_of steps ++ more
  pub allowed : AreAllowed 1 steps
  pub within : IsWithin steps

-- a step that may come after these steps is spelled by the line of this number
abbrev pub IsNextLine : ℕ → List Step → List ℕ → Step → Type 0
IsNextLine n steps line s = Spells n line s × (may_come steps s ≡ true)

-- no step that may come is spelled by a line, given with its newline
abbrev pub IsBad : ℕ → List Step → List ℕ → Type 0
IsBad n steps line = (s : Step) → IsNextLine n steps (spelling s) s → line ≡ line_of s → ⊥

-- What one step does to the log and the sink.
abbrev pub StepRuns : Step → List Entry → List Entry → Option Held → Option Held → ℕ → ℕ → Result (Unit {0}) RunError → Type 0
StepRuns s log new_log held new_held faults new_faults (Ok u) =
    (new_log ≡ log ++ entry_after 0 log s ∷ []) × Took held new_held (text_of_entry (entry_after 0 log s)) × (new_faults ≡ faults)
StepRuns s log new_log held new_held faults new_faults (Err errors.OutOfMemory) = Took held new_held [] × (new_faults ≡ faults)
StepRuns s log new_log held new_held faults new_faults (Err errors.WriteFault) =
    (new_log ≡ log ++ entry_after 0 log s ∷ []) × TookFront held new_held (text_of_entry (entry_after 0 log s)) × Rose faults new_faults
StepRuns s log new_log held new_held faults new_faults (Err _) = ⊥

-- What one line does to the log and the sink.
abbrev pub LineRuns : ℕ → List ℕ → List Entry → List Entry → Option Held → Option Held → ℕ → ℕ → Result (Unit {0}) RunError → Type 0
LineRuns n line log new_log held new_held faults new_faults (Ok u) =
    (s : Step) × IsNextLine n (steps_of log) line s × (new_log ≡ log ++ entry_after 0 log s ∷ []) × Took held new_held (text_of_entry (entry_after 0 log s)) × (new_faults ≡ faults)
LineRuns n line log new_log held new_held faults new_faults (Err errors.OutOfMemory) = Took held new_held [] × (new_faults ≡ faults)
LineRuns n line log new_log held new_held faults new_faults (Err errors.ReadFault) = ⊥
LineRuns n line log new_log held new_held faults new_faults (Err errors.WriteFault) =
    (s : Step) × IsNextLine n (steps_of log) line s × (new_log ≡ log ++ entry_after 0 log s ∷ []) × TookFront held new_held (text_of_entry (entry_after 0 log s)) × Rose faults new_faults
LineRuns n line log new_log held new_held faults new_faults (Err (errors.Malformed m)) =
    (m ≡ n) × ((s : Step) → IsNextLine n (steps_of log) line s → ⊥) × Took held new_held [] × (new_faults ≡ faults)
LineRuns n line log new_log held new_held faults new_faults (Err errors.TooLong) = ⊥

-- Some driver stands for the log, once it has an entry. So every law of the logs of drivers is one of this log.
abbrev pub HasDriver : List Entry → Type 0
HasDriver [] = ⊤
HasDriver (e ∷ es) = (w : TopologyCore) × IsDriverOf w (e ∷ es)

-- The lines of the input are those of the log's steps, the log is theirs and a driver's, legal, kept and sound, and the sink took its text. Of the two legalities `plain` is the one that the headline promises: it is said of any list of
-- entries. `legal` says the same in the words by which a driver is proved, and also that a refused entry has no facts.
pub record Ran (input : List ℕ) (log : List Entry) (held new_held : Option Held) (faults new_faults : ℕ) : Type 0 where
  pub begins : Begins input (steps_of log) []
  pub answers : log ≡ log_of (steps_of log)
  pub driver : HasDriver log
  pub legal : IsLegalLog log
  pub plain : LegalLog log
  pub kept : IsKept log
  pub sound : SoundHistory (history_of log)
  pub taken : Took held new_held (text_of log)
  pub same : new_faults ≡ faults

-- The log is a driver's, legal, and keeps what every log of a driver keeps.
pub record IsDriverLog (log : List Entry) : Type 0 where
  pub driver : HasDriver log
  pub legal : IsLegalLog log
  pub keeps : LogHeadline log

-- The lines ended before their end: for lack of memory, at a write error, or at a line that spells no step. The log so far keeps what every log of a driver keeps.
abbrev pub RunEnds : List ℕ → Option Held → Option Held → ℕ → ℕ → RunError → Type 0
RunEnds input held new_held faults new_faults errors.OutOfMemory =
    (steps : List Step) × (more : List (List ℕ)) × Begins input steps more × IsDriverLog (log_of steps) × Took held new_held (text_of (log_of steps)) × (new_faults ≡ faults)
RunEnds input held new_held faults new_faults errors.ReadFault = ⊥
RunEnds input held new_held faults new_faults errors.WriteFault =
    (steps : List Step) × (more : List (List ℕ)) × Begins input steps more × IsDriverLog (log_of steps) × TookFront held new_held (text_of (log_of steps)) × Rose faults new_faults
RunEnds input held new_held faults new_faults (errors.Malformed n) =
    (steps : List Step) × (bad : List ℕ) × (more : List (List ℕ)) × Begins input steps (bad ∷ more) × IsDriverLog (log_of steps) × (n ≡ 1 + length steps) × IsBad n steps bad
    × Took held new_held (text_of (log_of steps)) × (new_faults ≡ faults)
RunEnds input held new_held faults new_faults errors.TooLong = ⊥

-- What a run saw of its source and did to its sink: bytes left, reads that failed and reads that were made, bytes taken, and writes that failed.
pub record Seen : Type 0 where
  pub left : Option (List ℕ)
  pub reads : ℕ
  pub calls : Option ℕ
  pub held : Option Held
  pub writes : ℕ

-- A run ended with this log: the source was read to its end, and the sink took the log's text and flushed it.
pub record Finished (old new : Seen) (log : List Entry) : Type 0 where
  pub input : List ℕ
  pub read : ReadsAll max_input old.left new.left old.reads new.reads input
  pub ran : Ran input log old.held new.held old.writes new.writes
  pub flushed : IsFlushed new.held

-- A run ended before its end, with this cause.
abbrev pub Ended : Seen → Seen → RunError → Type 0
Ended old new errors.OutOfMemory =
    (new.reads ≡ old.reads) × (new.writes ≡ old.writes)
    × (Took old.held new.held [] ⊎ ((input : List ℕ) × ReadsAll max_input old.left new.left old.reads new.reads input × RunEnds input old.held new.held old.writes new.writes errors.OutOfMemory))
Ended old new errors.ReadFault = Rose old.reads new.reads × (new.writes ≡ old.writes) × Took old.held new.held []
Ended old new errors.WriteFault = (input : List ℕ) × ReadsAll max_input old.left new.left old.reads new.reads input × RunEnds input old.held new.held old.writes new.writes errors.WriteFault
Ended old new (errors.Malformed n) = (input : List ℕ) × ReadsAll max_input old.left new.left old.reads new.reads input × RunEnds input old.held new.held old.writes new.writes (errors.Malformed n)
Ended old new errors.TooLong =
    (new.reads ≡ old.reads) × (new.writes ≡ old.writes) × Took old.held new.held []
    × ((bytes : List ℕ) × Consumes old.left new.left bytes × (max_input < length bytes))

-- The answer is this error, unless memory ran out.
abbrev pub EndsWith : RunError → Result (List Entry) RunError → Type 0
EndsWith e (Ok log) = ⊥
EndsWith e (Err f) = (f ≡ e) ⊎ (f ≡ errors.OutOfMemory)

-- The first line of the input that spells no step that may come is the one with this number.
pub record IsBadAt (input : List ℕ) (number : ℕ) : Type 0 where
  pub steps : List Step
  pub bad : List ℕ
  pub more : List (List ℕ)
  pub begins : Begins input steps (bad ∷ more)
  pub at : number ≡ 1 + length steps
  pub never : IsBad number steps bad
