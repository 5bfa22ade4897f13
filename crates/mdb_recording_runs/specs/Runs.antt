-- What the tool reads, writes and answers.
use Rattle.std.specs.Prelude.{◌≡◌, ℕ, ◌<◌, List, [], ◌∷◌, length, codes, Option, Some, None, Result, Ok, Err, ◌⊎◌, if◌then◌else◌}
use Rattle.std.specs.Io.KnownBytes.{Consumes}
use Rattle.std.specs.Str.{bytes_eq}
use Rattle.mdb_base.specs.Outside.{Rose, Held, Took, IsFlushed}
use Rattle.mdb_lines.specs.declared.run_error.RunError.{RunError}
use Rattle.mdb_lines.specs.declared.run_error.RunError.TheVariants as errors
use Rattle.mdb_lines.specs.Status.{Told, Tells, status, message}
use Rattle.mdb_lines.specs.Loops.{TookFront, ReadsAll}
use Rattle.mdb_recordings.specs.declared.standard.Standard.{Standard}
use Rattle.mdb_recordings.specs.declared.standard.Standard.TheVariants.{Current, Of2021, Of2020}
use Rattle.mdb_recording_runs.specs.Report.{read_of, report, verdict_of}
use Rattle.mdb_recording_runs.specs.declared.verdict.Verdict.{Verdict}
use Rattle.mdb_recording_runs.specs.declared.verdict.Verdict.TheVariants.{Kept, Broken, NothingJudged}

-- the most bytes that a recording may have
abbrev pub max_recording : ℕ
max_recording = 1073741824

abbrev pub usage : List ℕ
usage = codes "usage: mdb_recorded [--cmap 2020|2021]\n"

-- the standard of a year
abbrev pub standard_of_year : List ℕ → Option Standard
standard_of_year year = if bytes_eq year (codes "2020") then Some Of2020 else (if bytes_eq year (codes "2021") then Some Of2021 else None)

-- The standard that the words name: the current one where there are none.
abbrev pub standard_of : List (List ℕ) → Option Standard
standard_of [] = Some Current
standard_of (flag ∷ []) = None
standard_of (flag ∷ (year ∷ [])) = if bytes_eq flag (codes "--cmap") then standard_of_year year else None
standard_of (flag ∷ (year ∷ (word ∷ words))) = None

abbrev pub verdict_status : Verdict → ℕ
verdict_status Kept = 0
verdict_status Broken = 7
verdict_status NothingJudged = 8

-- 0 where rules were asked and nothing was found
abbrev pub report_status : Standard → List ℕ → ℕ
report_status standard text = verdict_status (verdict_of (read_of standard text))

-- The sink took the text, flushed; or it failed.
abbrev pub TextWritten : List ℕ → Option Held → Option Held → ℕ → ℕ → Result (Unit {0}) RunError → Type 0
TextWritten text held new_held faults new_faults (Ok u) = Took held new_held text × IsFlushed new_held × (new_faults ≡ faults)
TextWritten text held new_held faults new_faults (Err errors.WriteFault) = TookFront held new_held text × Rose faults new_faults
TextWritten text held new_held faults new_faults (Err e) = ⊥

-- What a run saw of its source and did to its sink: bytes left, reads that failed, bytes taken, and writes that failed.
pub record Seen : Type 0 where
  pub left : Option (List ℕ)
  pub reads : ℕ
  pub held : Option Held
  pub writes : ℕ

-- A recording was judged: the source was read to its end, no call failed, and the sink took exactly the report, flushed.
pub record Judged (standard : Standard) (old new : Seen) (answer : ℕ) : Type 0 where
  pub text : List ℕ
  pub read : ReadsAll max_recording old.left new.left old.reads new.reads text
  pub taken : Took old.held new.held (report standard text)
  pub flushed : IsFlushed new.held
  pub same : new.writes ≡ old.writes
  pub right : answer ≡ report_status standard text

-- A report was not written to its end.
pub record NotWritten (standard : Standard) (old new : Seen) : Type 0 where
  pub text : List ℕ
  pub read : ReadsAll max_recording old.left new.left old.reads new.reads text
  pub taken : TookFront old.held new.held (report standard text)
  pub rose : Rose old.writes new.writes

-- A run ended before its end, with this cause. Only at a write error was anything written.
abbrev pub RunFails : Standard → Seen → Seen → RunError → Type 0
RunFails standard old new errors.OutOfMemory = (new.reads ≡ old.reads) × (new.writes ≡ old.writes) × (new.held ≡ old.held)
RunFails standard old new errors.ReadFault = Rose old.reads new.reads × (new.writes ≡ old.writes) × (new.held ≡ old.held)
RunFails standard old new errors.WriteFault = NotWritten standard old new
RunFails standard old new (errors.Malformed n) = ⊥
RunFails standard old new errors.TooLong = ((bytes : List ℕ) × Consumes old.left new.left bytes × (max_recording < length bytes)) × (new.reads ≡ old.reads) × (new.writes ≡ old.writes) × (new.held ≡ old.held)

-- what a run comes to
abbrev pub Runs : Standard → Seen → Seen → Result ℕ RunError → Type 0
Runs standard old new (Ok answer) = Judged standard old new answer
Runs standard old new (Err e) = RunFails standard old new e

-- What the tool comes to by a standard: a recording is judged, or the run ended before its end, which is told.
abbrev pub JudgeEnds : Standard → Seen → Seen → Told → Told → ℕ → Type 0
JudgeEnds standard old new told new_told answer =
    (Judged standard old new answer × (new_told ≡ told))
    ⊎ ((e : RunError) × (answer ≡ status e) × RunFails standard old new e × Tells told new_told (message e))

-- Words that name no standard are a usage, at which nothing is read or written.
abbrev pub ToolEnds : Option Standard → Seen → Seen → Told → Told → ℕ → Type 0
ToolEnds (Some standard) old new told new_told answer = JudgeEnds standard old new told new_told answer
ToolEnds None old new told new_told answer = (answer ≡ 2) × (new ≡ old) × Tells told new_told usage

-- the recording was read to its end, whatever is found of it, or memory ran out
abbrev pub EndsWell : ℕ → Type 0
EndsWell answer = ((verdict : Verdict) × (answer ≡ verdict_status verdict)) ⊎ (answer ≡ status errors.OutOfMemory)
