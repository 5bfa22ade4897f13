use Rattle.std.proofs.Common.{◌≡◌, ℕ, List, ◌++◌, ap, ◌∙◌, Some, codes}
use Rattle.std.specs.Prelude.{string_bytes}
use Rattle.mdb_log.specs.declared.log.Entry.{Entry}
use Rattle.mdb_generator.specs.Generated.{generated, script}
use Rattle.mdb_generator.specs.Summaries.{summary_of, summary_text}
use Rattle.mdb_generator.specs.declared.summary.Summary.{Summary}
use Rattle.mdb_generator.proofs.Scripts.{script_short}
use Rattle.mdb_driver_rules.specs.Lines.{log_of}
use Rattle.mdb_runs.specs.Made.{summary_line}
use Rattle.mdb_runs.proofs.MadeRuns.{made_log, never_rose}
use Rattle.mdb_runs.proofs.Generation.{generated_script}
use Rattle.mdb_runs.proofs.made.summary_line.Goals as goal

line_is : (n : ℕ) (log : List Entry) (s : Summary) (text : List ℕ) → log ≡ log_of (generated n) → s ≡ summary_of log → text ≡ summary_text s ++ codes "\n" → text ≡ summary_line n
unfolding summary_line
line_is n log s text same made e = e ∙ ap (λ (z : Summary). summary_text z ++ codes "\n") (made ∙ ap summary_of same)

pub returns-in-Err : goal.returns-in-Err
returns-in-Err c = record {
  text = tt;
  cause = c.in-Err.ensures.complete (script c.args.n) (generated c.args.n) (c.new-source.ensures ∙ ap Some c.in_ok-script.ensures) (script_short c.args.n c.requires.few) (generated_script c.args.n c.requires.few) never_rose never_rose;
}

pub returns : goal.returns
returns c =
    let steps = c.in-Ok.ensures.complete (script c.args.n) (generated c.args.n) (c.new-source.ensures ∙ ap Some c.in_ok-script.ensures) (script_short c.args.n c.requires.few) (generated_script c.args.n c.requires.few) never_rose never_rose in
    record { text = line_is c.args.n c.in-Ok.log c.of-summary.result (string_bytes c.in_ok-format.field-0) (made_log _ _ c.in-Ok.log (generated c.args.n) c.in-Ok.ensures.finished steps) (c.of-summary.ensures ∙ ap summary_of c.entries.ensures) c.in_ok-format.ensures.ok; cause = tt }
