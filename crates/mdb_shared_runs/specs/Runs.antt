-- What a run of a shared script reads, answers and writes.
use Rattle.std.specs.Prelude.{◌≡◌, ℕ, ◌<◌, List, [], length, Option, Result, Ok, Err}
use Rattle.std.specs.Io.KnownBytes.{Consumes}
use Rattle.mdb_base.specs.Outside.{Rose, Held, Took, IsFlushed}
use Rattle.mdb_log.specs.declared.log.Entry.{Entry}
use Rattle.mdb_log.specs.declared.step.Step.{Step}
use Rattle.mdb_lines.specs.declared.run_error.RunError.{RunError}
use Rattle.mdb_lines.specs.declared.run_error.RunError.TheVariants as errors
use Rattle.mdb_lines.specs.LogText.{text_of}
use Rattle.mdb_lines.specs.Script.{max_input}
use Rattle.mdb_lines.specs.Loops.{TookFront, ReadsAll}
use Rattle.mdb_runs.specs.Runs.{Seen, IsScript, IsBadAt}
use Rattle.mdb_shared_runs.specs.Scripts.{Shared}

-- The input is a script, this is a log of it that k players share, and this is the text of the log.
abbrev pub IsShare : ℕ → List ℕ → List Entry → List ℕ → Type 0
IsShare k input log text = (steps : List Step) × IsScript input steps × Shared k steps log × (text ≡ text_of log)

-- A text is written, flushed; or the sink failed behind a front of it.
abbrev pub Writes : List ℕ → Option Held → Option Held → ℕ → ℕ → Result (Unit {0}) RunError → Type 0
Writes text held new_held faults new_faults (Ok u) = Took held new_held text × IsFlushed new_held × (new_faults ≡ faults)
Writes text held new_held faults new_faults (Err errors.WriteFault) = TookFront held new_held text × Rose faults new_faults
Writes text held new_held faults new_faults (Err e) = ⊥

-- A run ended with this log: the source was read to its end, its lines were shared, and the sink took the log's text and flushed it.
pub record SharedFinished (k : ℕ) (old new : Seen) (log : List Entry) : Type 0 where
  pub input : List ℕ
  pub steps : List Step
  pub read : ReadsAll max_input old.left new.left old.reads new.reads input
  pub script : IsScript input steps
  pub shared : Shared k steps log
  pub taken : Took old.held new.held (text_of log)
  pub flushed : IsFlushed new.held
  pub same : new.writes ≡ old.writes

-- The sink failed: it took a front of the text of a log of all lines.
pub record WriteFails (k : ℕ) (old new : Seen) : Type 0 where
  pub input : List ℕ
  pub steps : List Step
  pub log : List Entry
  pub read : ReadsAll max_input old.left new.left old.reads new.reads input
  pub script : IsScript input steps
  pub shared : Shared k steps log
  pub taken : TookFront old.held new.held (text_of log)
  pub rose : Rose old.writes new.writes

-- A run ended before its end, with this cause. Nothing was written, but where the sink failed.
abbrev pub SharedEnded : ℕ → Seen → Seen → RunError → Type 0
SharedEnded k old new errors.OutOfMemory = (new.reads ≡ old.reads) × (new.writes ≡ old.writes) × Took old.held new.held []
SharedEnded k old new errors.ReadFault = Rose old.reads new.reads × (new.writes ≡ old.writes) × Took old.held new.held []
SharedEnded k old new errors.WriteFault = WriteFails k old new
SharedEnded k old new (errors.Malformed n) =
    (input : List ℕ) × ReadsAll max_input old.left new.left old.reads new.reads input × IsBadAt input n × (new.writes ≡ old.writes) × Took old.held new.held []
SharedEnded k old new errors.TooLong =
    (new.reads ≡ old.reads) × (new.writes ≡ old.writes) × Took old.held new.held []
    × ((bytes : List ℕ) × Consumes old.left new.left bytes × (max_input < length bytes))
