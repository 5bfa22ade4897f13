-- What a run of a shared script that ended well comes to is its headline.
use Rattle.std.proofs.Common.{◌≡◌, ℕ, List, Result, Ok, Err, IfOk, inl, inr, sym, ◌∙◌}
use Rattle.mdb_log.specs.declared.log.Entry.{Entry}
use Rattle.mdb_lines.specs.declared.run_error.RunError.{RunError}
use Rattle.mdb_lines.specs.Status.{Told}
use Rattle.mdb_runs.specs.Runs.{Seen}
use Rattle.mdb_runs.proofs.Headlines.{driven-headline, error-status}
use Rattle.mdb_shared_runs.specs.Headline.{SharedHeadline}
use Rattle.mdb_shared_runs.specs.Program.{ProgramShares}
use Rattle.mdb_shared_runs.specs.Runs.{SharedFinished}

pub headline : (k : ℕ) (old new : Seen) (log : List Entry) → SharedFinished k old new log → SharedHeadline k old new log
headline k old new log f = record {
  input = f.input;
  read = f.read;
  received = f.taken;
  flushed = f.flushed;
  unfailed = f.same;
  steps = f.steps;
  lines = f.script.lines;
  one_each = f.shared.shares;
  log_keeps = driven-headline log f.shared.driver;
}

pub ok-headline : (k : ℕ) (old new : Seen) (r : Result (List Entry) RunError) → IfOk r (SharedFinished k old new) → IfOk r (SharedHeadline k old new)
ok-headline k old new (Ok log) f = headline k old new log f
ok-headline k old new (Err e) f = f

-- so does a run of the program that ended with 0
pub shares-headline : (k : ℕ) (old new : Seen) (told new_told : Told) (answer : ℕ) → ProgramShares k old new told new_told answer → answer ≡ 0 → (log : List Entry) × SharedHeadline k old new log
shares-headline k old new told new_told answer (inl (log, good, finished, quiet)) zero = (log, headline k old new log finished)
shares-headline k old new told new_told answer (inr (e, bad, ended, tells)) zero = absurd (error-status e (sym bad ∙ zero))
