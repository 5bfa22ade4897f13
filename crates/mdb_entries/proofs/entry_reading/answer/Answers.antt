use Rattle.std.proofs.Common.{map, refl}
use Rattle.mdb_parts.proofs.Wanting.{handed_on}
use Rattle.mdb_lines.specs.LogText.{reply_text}
use Rattle.mdb_entries.specs.Facts.{shown_fact}
use Rattle.mdb_entries.proofs.ReplyLemmas.{reply_no_bar}
use Rattle.mdb_entries.proofs.entry_reading.answer.Goals as goal

pub returns-in_err-word-clause-only : goal.returns-in_err-word-clause-only
returns-in_err-word-clause-only c = λ r fs own all e.
    handed_on (r, fs) c.from_residual.result c.in_err-word.field-0.0 (c.in_err-word.ensures.only (reply_text r) (map shown_fact fs) (reply_no_bar r own) e) c.from_residual.ensures.1

pub returns-in_err-facts-clause-only : goal.returns-in_err-facts-clause-only
returns-in_err-facts-clause-only c = λ r fs own all e.
    let word = c.in_ok-word.ensures.only (reply_text r) (map shown_fact fs) (reply_no_bar r own) e in
    handed_on (r, fs) c.from_residual-in_err-facts.result c.in_err-facts.field-0.0 (c.in_err-facts.ensures.only fs all word.1) c.from_residual-in_err-facts.ensures.1

pub returns-in-Ok-clause-only : goal.returns-in-Ok-clause-only
returns-in-Ok-clause-only c = λ r fs own all e.
    let word = c.in_ok-word.ensures.only (reply_text r) (map shown_fact fs) (reply_no_bar r own) e in
    rw (c.in-Ok.ensures.only r own word.0, c.in_ok-facts.ensures.only fs all word.1) refl

pub returns-in-Err-clause-only : goal.returns-in-Err-clause-only
returns-in-Err-clause-only c = λ r fs own all e.
    let word = c.in_ok-word.ensures.only (reply_text r) (map shown_fact fs) (reply_no_bar r own) e in
    c.in-Err.ensures.only r own word.0
