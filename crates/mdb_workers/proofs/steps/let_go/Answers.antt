use Rattle.mdb_shared.specs.Checkout.{giving_up}
use Rattle.mdb_workers.proofs.Adding.{made_step, made_nothing}
use Rattle.mdb_workers.proofs.steps.let_go.Goals as goal

pub returns-in-Ok-clause-ok : goal.returns-in-Ok-clause-ok
returns-in-Ok-clause-ok g c = made_step g.C.Core.stands c.args.seat.now c.give_up.new.seat (giving_up c.args.request) c.in-Ok.reply c.give_up.ensures.same.0 c.give_up.ensures.same.1 c.give_up.ensures.busy c.in-Ok.ensures.in_time c.in-Ok.ensures.entry

pub returns-in-Err-clause-err : goal.returns-in-Err-clause-err
returns-in-Err-clause-err g c = made_nothing g.C.Core.stands c.args.seat.now c.give_up.new.seat c.give_up.ensures.same.0 c.give_up.ensures.same.1 c.give_up.ensures.busy c.in-Err.ensures.err
