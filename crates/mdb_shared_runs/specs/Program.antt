-- What the program answers.
use Rattle.std.specs.Prelude.{◌≡◌, ℕ, List, [], ◌⊎◌}
use Rattle.mdb_log.specs.declared.log.Entry.{Entry}
use Rattle.mdb_lines.specs.declared.run_error.RunError.{RunError}
use Rattle.mdb_lines.specs.Status.{Told, Tells, status, message}
use Rattle.mdb_generator.specs.declared.words.ToolCommand.{ToolCommand}
use Rattle.mdb_generator.specs.declared.words.ToolCommand.TheVariants as command
use Rattle.mdb_generator.specs.Words.{Says, Names}
use Rattle.mdb_runs.specs.Headline.{Headline}
use Rattle.mdb_runs.specs.Runs.{Seen}
use Rattle.mdb_runs.specs.Tool.{ToolRuns, ToolMakes, ToolRefuses}
use Rattle.mdb_shared_runs.specs.Headline.{SharedHeadline}
use Rattle.mdb_shared_runs.specs.Runs.{SharedFinished, SharedEnded}

-- what a run by k players comes to, by its status
abbrev pub ProgramShares : ℕ → Seen → Seen → Told → Told → ℕ → Type 0
ProgramShares k old new told new_told answer =
    ((log : List Entry) × (answer ≡ 0) × SharedFinished k old new log × (new_told ≡ told))
    ⊎ ((e : RunError) × (answer ≡ status e) × SharedEnded k old new e × Tells told new_told (message e))

abbrev pub ProgramEndsAs : ToolCommand → Seen → Seen → Told → Told → ℕ → Type 0
ProgramEndsAs command.Script old new told new_told answer = ToolRuns old new told new_told answer
ProgramEndsAs (command.Make n) old new told new_told answer = ToolMakes n old new told new_told answer
ProgramEndsAs (command.Share k) old new told new_told answer = ProgramShares k old new told new_told answer
ProgramEndsAs command.Usage old new told new_told answer = ToolRefuses old new told new_told answer

-- The program ends as the command that the words say.
abbrev pub ProgramEnds : List (List ℕ) → Seen → Seen → Told → Told → ℕ → Type 0
ProgramEnds words old new told new_told answer = (c : ToolCommand) × Says words c × ProgramEndsAs c old new told new_told answer

-- The headline of what the words ask for: of the script on the source by one player, or by k.
abbrev pub ProgramHeadline : List (List ℕ) → Seen → Seen → Type 0
ProgramHeadline words old new =
    ((words ≡ []) × ((log : List Entry) × Headline old new log))
    ⊎ ((k : ℕ) × Names words (command.Share k) × ((log : List Entry) × SharedHeadline k old new log))

-- the words ask for the script on the source, by one player or by several
abbrev pub AsksScript : List (List ℕ) → Type 0
AsksScript words = (words ≡ []) ⊎ ((k : ℕ) × Names words (command.Share k))
