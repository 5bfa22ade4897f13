-- What the tool answers.
use Rattle.std.specs.Prelude.{◌≡◌, ℕ, List, codes, ◌⊎◌, Ok, Err}
use Rattle.mdb_log.specs.declared.log.Entry.{Entry}
use Rattle.mdb_lines.specs.declared.run_error.RunError.{RunError}
use Rattle.mdb_lines.specs.declared.run_error.RunError.TheVariants as errors
use Rattle.mdb_lines.specs.Status.{Told, Tells, status, message}
use Rattle.mdb_generator.specs.declared.words.ToolCommand.{ToolCommand}
use Rattle.mdb_generator.specs.declared.words.ToolCommand.TheVariants as command
use Rattle.mdb_generator.specs.Words.{Says}
use Rattle.mdb_runs.specs.Runs.{Seen, Finished, Ended}
use Rattle.mdb_runs.specs.Made.{MadeRuns}

abbrev pub usage : List ℕ
usage = codes "usage: mdb_script [make N | share K]\n"

-- what a run of the tool with no words comes to, by its status
abbrev pub ToolRuns : Seen → Seen → Told → Told → ℕ → Type 0
ToolRuns old new told new_told answer =
    ((log : List Entry) × (answer ≡ 0) × Finished old new log × (new_told ≡ told))
    ⊎ ((e : RunError) × (answer ≡ status e) × Ended old new e × Tells told new_told (message e))

-- what a run of a generated script comes to: the source is left alone
abbrev pub ToolMakes : ℕ → Seen → Seen → Told → Told → ℕ → Type 0
ToolMakes n old new told new_told answer =
    (new.left ≡ old.left) × (new.reads ≡ old.reads) × (new.calls ≡ old.calls)
    × (((answer ≡ 0) × MadeRuns n old.held new.held old.writes new.writes (Ok tt) × (new_told ≡ told))
    ⊎ ((e : RunError) × (answer ≡ status e) × MadeRuns n old.held new.held old.writes new.writes (Err e) × Tells told new_told (message e)))

-- nothing is read or written, and the usage is told
abbrev pub ToolRefuses : Seen → Seen → Told → Told → ℕ → Type 0
ToolRefuses old new told new_told answer = (answer ≡ 2) × (new ≡ old) × Tells told new_told usage

abbrev pub EndsAs : ToolCommand → Seen → Seen → Told → Told → ℕ → Type 0
EndsAs command.Script old new told new_told answer = ToolRuns old new told new_told answer
EndsAs (command.Make n) old new told new_told answer = ToolMakes n old new told new_told answer
EndsAs (command.Share k) old new told new_told answer = ToolRefuses old new told new_told answer
EndsAs command.Usage old new told new_told answer = ToolRefuses old new told new_told answer

-- The tool ends as the command that the words say. It runs a script by one part: `share` is a usage here.
abbrev pub ToolEnds : List (List ℕ) → Seen → Seen → Told → Told → ℕ → Type 0
ToolEnds words old new told new_told answer = (c : ToolCommand) × Says words c × EndsAs c old new told new_told answer

-- the script ran to its end, or memory ran out
abbrev pub EndsWell : ℕ → Type 0
EndsWell answer = (answer ≡ 0) ⊎ (answer ≡ status errors.OutOfMemory)

-- this error was told, with its status, or memory ran out
abbrev pub ToolTells : RunError → Told → Told → ℕ → Type 0
ToolTells e told new_told answer = ((answer ≡ status e) × Tells told new_told (message e)) ⊎ (answer ≡ status errors.OutOfMemory)
