use Rattle.mdb_lines.proofs.OutcomeLemmas.{beaten_success, beaten_failure, beaten_cancelled}
use Rattle.mdb_lines.proofs.outcomes.beaten_outcome.Goals as goal

pub returns-in-Some : goal.returns-in-Some
returns-in-Some c = λ came types rule text.
    let a = beaten_success came c.args.text.now c.in-Some.rest.now types rule c.in-Some.ensures text in
    rw (a.is) (c.succeeded.ensures a.reply a.more a.types a.rule a.text)

pub returns-in-Some-after : goal.returns-in-Some-after
returns-in-Some-after c = λ came types rule text.
    let a = beaten_failure came c.args.text.now c.in-Some-after.rest.now types rule c.in-None.ensures c.in-Some-after.ensures text in
    rw (a.is) (c.failed.ensures a.error a.types a.rule a.text)

pub returns-in-None-after : goal.returns-in-None-after
returns-in-None-after c = λ came types rule text.
    let a = beaten_cancelled came c.args.text.now types rule c.in-None.ensures c.in-None-after.ensures text in
    rw (a.is) (c.cancelled.ensures a.error a.types a.rule a.text_is)
