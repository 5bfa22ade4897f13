use Rattle.mdb_workers.proofs.Adding.{made_step, made_nothing}
use Rattle.mdb_workers.proofs.steps.add.Goals as goal

pub returns-in-Ok-clause-ok : goal.returns-in-Ok-clause-ok
returns-in-Ok-clause-ok g c = made_step g.C.Core.stands c.args.seat.now c.step.new.seat c.args.step c.in-Ok.reply c.step.ensures.same.0 c.step.ensures.same.1 c.step.ensures.busy c.in-Ok.ensures.in_time c.in-Ok.ensures.ok

pub returns-in-Err-clause-err : goal.returns-in-Err-clause-err
returns-in-Err-clause-err g c = made_nothing g.C.Core.stands c.args.seat.now c.step.new.seat c.step.ensures.same.0 c.step.ensures.same.1 c.step.ensures.busy c.in-Err.ensures.err
