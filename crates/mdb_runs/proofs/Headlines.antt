-- What a run that ended well comes to is the headline.
use Rattle.std.proofs.Common.{◌≡◌, ℕ, List, [], ◌∷◌, ◌⊎◌, inl, inr, map, Option, Result, Ok, Err, IfOk, ◌∙◌, arith}
use Rattle.std.proofs.lemmas.List.{append-nil}
use Rattle.mdb_log.specs.declared.log.Entry.{Entry}
use Rattle.mdb_generator.specs.declared.words.ToolCommand.TheVariants as command
use Rattle.mdb_generator.specs.Words.{Names}
use Rattle.mdb_lines.specs.declared.run_error.RunError.{RunError}
use Rattle.mdb_lines.specs.declared.run_error.RunError.TheVariants as errors
use Rattle.mdb_lines.specs.Script.{line_of}
use Rattle.mdb_lines.specs.Status.{status}
use Rattle.mdb_driver_rules.specs.Lines.{steps_of}
use Rattle.mdb_laws.specs.LogHeadline.{LogHeadline}
use Rattle.mdb_laws.proofs.WholeHeadline.{log-headline}
use Rattle.mdb_runs.specs.Headline.{Headline}
use Rattle.mdb_runs.specs.Runs.{HasDriver, Seen, Finished}

-- a driver's log, once it has an entry
pub driven-headline : (log : List Entry) → HasDriver log → LogHeadline log
driven-headline [] d = record { refused = tt; legal = tt; limits = tt; fresh = tt; closes = tt; must_close = tt; searches = tt; pools = tt; told_once = λ r. omega arith; late_errors = tt }
driven-headline (e ∷ es) d = log-headline d.0 (e ∷ es) d.1

pub headline : (old new : Seen) (log : List Entry) → Finished old new log → Headline old new log
headline old new log f = record {
  input = f.input;
  read = f.read;
  received = f.ran.taken;
  flushed = f.flushed;
  unfailed = f.ran.same;
  one_each = f.ran.begins.cut ∙ append-nil (map line_of (steps_of log));
  log_keeps = driven-headline log f.ran.driver;
}

pub ok-headline : (old new : Seen) (r : Result (List Entry) RunError) → IfOk r (Finished old new) → IfOk r (Headline old new)
ok-headline old new (Ok log) f = headline old new log f
ok-headline old new (Err e) f = f

-- the status of an error is not that of a good end
pub error-status : (e : RunError) → status e ≡ 0 → ⊥
error-status errors.OutOfMemory h = absurd (cc)
error-status errors.ReadFault h = absurd (cc)
error-status errors.WriteFault h = absurd (cc)
error-status (errors.Malformed n) h = absurd (cc)
error-status errors.TooLong h = absurd (cc)

-- no words are not those of a generated script
pub no-make : {A : Type 0} (f : A → List ℕ) (words : List A) (n : ℕ) → Names (map f words) (command.Make n) → words ≡ [] → ⊥
no-make f [] n (some, few, made) none = absurd (cc)
no-make f (w ∷ words) n (some, few, made) none = absurd (cc)
