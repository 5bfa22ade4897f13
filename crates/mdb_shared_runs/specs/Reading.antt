-- What the reading of a script's lines comes to, before any of them is done.
use Rattle.std.specs.Prelude.{◌≡◌, ℕ, ◌==◌, Bool, true, List, if◌then◌else◌}
use Rattle.mdb_log.specs.declared.step.Step.{Step}
use Rattle.mdb_lines.specs.declared.run_error.RunError.{RunError}
use Rattle.mdb_lines.specs.declared.run_error.RunError.TheVariants as errors
use Rattle.mdb_lines.specs.Script.{Spells}
use Rattle.mdb_topology.specs.Driving.{opens_seeds}
use Rattle.mdb_driver_rules.specs.Acts.{is_driver_act}
use Rattle.mdb_runs.specs.Runs.{IsBadAt}

-- the step may stand on the line of this number
abbrev pub may_stand : ℕ → Step → Bool
may_stand n s = if n == 1 then opens_seeds s.act else is_driver_act s.act

-- the line of this number spells the step, which may stand there
abbrev pub IsLine : ℕ → List ℕ → Step → Type 0
IsLine n line s = Spells n line s × (may_stand n s ≡ true)

-- Memory ran out, or the line of this number is none of a step that may stand there.
abbrev pub NoLine : ℕ → List ℕ → RunError → Type 0
NoLine n line errors.OutOfMemory = Unit {0}
NoLine n line (errors.Malformed m) = (m ≡ n) × ((s : Step) → IsLine n line s → ⊥)
NoLine n line _ = ⊥

-- The lines of an input are no script: memory ran out, or the line of this number is the first that spells no step.
abbrev pub NoScript : List ℕ → RunError → Type 0
NoScript input errors.OutOfMemory = Unit {0}
NoScript input (errors.Malformed n) = IsBadAt input n
NoScript input _ = ⊥
