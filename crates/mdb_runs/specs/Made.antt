-- What a run of a generated script comes to.
use Rattle.std.specs.Prelude.{◌≡◌, ℕ, List, [], ◌++◌, codes, Option, Result, Ok, Err}
use Rattle.mdb_base.specs.Outside.{Rose, Held, Took, IsFlushed}
use Rattle.mdb_lines.specs.declared.run_error.RunError.{RunError}
use Rattle.mdb_lines.specs.declared.run_error.RunError.TheVariants as errors
use Rattle.mdb_lines.specs.Loops.{TookFront}
use Rattle.mdb_generator.specs.Generated.{generated}
use Rattle.mdb_generator.specs.Summaries.{summary_of, summary_text}
use Rattle.mdb_driver_rules.specs.Lines.{log_of}

-- the summary of the log that the definitions give for the generated script of n rounds, with a newline
unfoldable pub summary_line : ℕ → List ℕ
summary_line n = summary_text (summary_of (log_of (generated n))) ++ codes "\n"

-- The sink took the summary, flushed; or memory ran out before anything was written; or the sink failed.
abbrev pub MadeRuns : ℕ → Option Held → Option Held → ℕ → ℕ → Result (Unit {0}) RunError → Type 0
MadeRuns n held new_held faults new_faults (Ok u) = Took held new_held (summary_line n) × IsFlushed new_held × (new_faults ≡ faults)
MadeRuns n held new_held faults new_faults (Err errors.OutOfMemory) = Took held new_held [] × (new_faults ≡ faults)
MadeRuns n held new_held faults new_faults (Err errors.WriteFault) = TookFront held new_held (summary_line n) × Rose faults new_faults
MadeRuns n held new_held faults new_faults (Err e) = ⊥
