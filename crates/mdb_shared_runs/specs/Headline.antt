-- The headline of a shared script: what an answer Ok with a log says of a run by k players, each on a seat of its own.
use Rattle.std.specs.Prelude.{◌≡◌, ℕ, List, map}
use Rattle.mdb_base.specs.Outside.{Took, IsFlushed}
use Rattle.mdb_log.specs.declared.log.Entry.{Entry}
use Rattle.mdb_log.specs.declared.step.Step.{Step}
use Rattle.mdb_lines.specs.LogText.{text_of}
use Rattle.mdb_lines.specs.Loops.{ReadsAll}
use Rattle.mdb_lines.specs.Script.{lines_of, line_of, max_input}
use Rattle.mdb_laws.specs.LogHeadline.{LogHeadline}
use Rattle.mdb_runs.specs.Runs.{Seen}
use Rattle.mdb_shared_runs.specs.Scripts.{SharesSteps}

pub record SharedHeadline (k : ℕ) (old new : Seen) (log : List Entry) : Type 0 where
  -- the source was read to its end
  pub input : List ℕ
  pub read : ReadsAll max_input old.left new.left old.reads new.reads input
  -- the sink received exactly the log's text, flushed, and no write failed
  pub received : Took old.held new.held (text_of log)
  pub flushed : IsFlushed new.held
  pub unfailed : new.writes ≡ old.writes
  -- the log has one entry for each line: the first opens the driver, and those of each seat are its player's lines, in their order
  pub steps : List Step
  pub lines : lines_of input ≡ map line_of steps
  pub one_each : SharesSteps k steps log
  -- it keeps what every log of a driver keeps
  pub log_keeps : LogHeadline log
