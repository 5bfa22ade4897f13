-- Runs of generated scripts, and what the sink then took.
use Rattle.std.proofs.Common.{◌≡◌, ℕ, List, [], length, Option, sym, ap, ◌∙◌, arith, subst}
use Rattle.std.proofs.Math.Seq.{take-length}
use Rattle.mdb_base.specs.Outside.{Rose, Held, Took}
use Rattle.mdb_log.specs.declared.step.Step.{Step}
use Rattle.mdb_log.specs.declared.log.Entry.{Entry}
use Rattle.mdb_lines.specs.Loops.{TookFront}
use Rattle.mdb_lines.proofs.Loops.{took_no_more}
use Rattle.mdb_driver_rules.specs.Lines.{log_of, steps_of}
use Rattle.mdb_runs.specs.Runs.{Seen, Finished}
use Rattle.mdb_runs.specs.Made.{summary_line}

-- the log of a finished run is that of its steps
pub made_log : (old new : Seen) (log : List Entry) (steps : List Step) → Finished old new log → steps_of log ≡ steps → log ≡ log_of steps
made_log old new log steps h same = h.ran.answers ∙ ap log_of same

pub never_rose : Rose 0 0 → ⊥
never_rose h = omega (arith, h)

-- the sink took the line, or its front
pub line_front : (a b : Option Held) (n : ℕ) (text : List ℕ) → text ≡ summary_line n → TookFront a b text → TookFront a b (summary_line n)
line_front a b n text e h = subst (TookFront a b) e h

pub line_whole : (a b c : Option Held) (n : ℕ) (text : List ℕ) → text ≡ summary_line n → Took a b text → Took b c [] → Took a c (summary_line n)
line_whole a b c n text e h k = subst (Took a c) e (took_no_more a b c text h k)

pub whole_front : (a c : Option Held) (text : List ℕ) → Took a c text → TookFront a c text
whole_front a c text h = (length text, subst (Took a c) (sym (take-length text)) h)
