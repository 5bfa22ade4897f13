use Rattle.mdb_lines.proofs.OutcomeLemmas.{hello_answered, hello_unanswered}
use Rattle.mdb_lines.proofs.outcomes.hello_outcome.Goals as goal

pub returns-in-Some : goal.returns-in-Some
returns-in-Some c = λ came types rule text.
    let a = hello_answered came c.args.text.now c.in-Some.rest.now types rule c.in-Some.ensures text in
    rw (a.is) (c.answered.ensures a.rtt a.reply a.fits a.types a.rule a.text)

pub returns-in-None : goal.returns-in-None
returns-in-None c = λ came types rule text.
    let a = hello_unanswered came c.args.text.now types rule c.in-None.ensures text in
    rw (a.is) (c.unanswered.ensures a.error a.types a.rule a.text_is)
