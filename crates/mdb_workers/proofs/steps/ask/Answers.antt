use Rattle.mdb_shared.specs.Checkout.{collecting, told_by}
use Rattle.mdb_workers.proofs.Adding.{made_step, made_nothing}
use Rattle.mdb_workers.proofs.steps.ask.Goals as goal

pub returns-in-Ok-clause-ok : goal.returns-in-Ok-clause-ok
returns-in-Ok-clause-ok g c = made_step g.C.Core.stands c.args.seat.now c.poll_check_out.new.seat (collecting c.args.request) (told_by c.in-Ok.poll) c.poll_check_out.ensures.same.0 c.poll_check_out.ensures.same.1 c.poll_check_out.ensures.busy c.in-Ok.ensures.in_time c.in-Ok.ensures.entry

pub returns-in-Err-clause-err : goal.returns-in-Err-clause-err
returns-in-Err-clause-err g c = made_nothing g.C.Core.stands c.args.seat.now c.poll_check_out.new.seat c.poll_check_out.ensures.same.0 c.poll_check_out.ensures.same.1 c.poll_check_out.ensures.busy c.in-Err.ensures.err
