-- What a line does is what its step does.
use Rattle.std.proofs.Common.{ℕ, List, Option, Result, Ok, Err}
use Rattle.mdb_base.specs.Outside.{Held}
use Rattle.mdb_log.specs.declared.step.Step.{Step}
use Rattle.mdb_log.specs.declared.log.Entry.{Entry}
use Rattle.mdb_lines.specs.declared.run_error.RunError.{RunError}
use Rattle.mdb_lines.specs.declared.run_error.RunError.TheVariants as errors
use Rattle.mdb_driver_rules.specs.Lines.{steps_of}
use Rattle.mdb_runs.specs.Runs.{IsNextLine, StepRuns, LineRuns}

pub line_runs : (n : ℕ) (s : Step) (line : List ℕ) (log new_log : List Entry) (held new_held : Option Held) (faults new_faults : ℕ) (r : Result (Unit {0}) RunError)
    → IsNextLine n (steps_of log) line s → StepRuns s log new_log held new_held faults new_faults r → LineRuns n line log new_log held new_held faults new_faults r
line_runs n s line log new_log held new_held faults new_faults (Ok u) next runs = (s, next, runs.0, runs.1, runs.2)
line_runs n s line log new_log held new_held faults new_faults (Err errors.OutOfMemory) next runs = runs
line_runs n s line log new_log held new_held faults new_faults (Err errors.WriteFault) next runs = (s, next, runs.0, runs.1, runs.2)
line_runs n s line log new_log held new_held faults new_faults (Err errors.ReadFault) next runs = runs
line_runs n s line log new_log held new_held faults new_faults (Err (errors.Malformed m)) next runs = absurd runs
line_runs n s line log new_log held new_held faults new_faults (Err errors.TooLong) next runs = runs
