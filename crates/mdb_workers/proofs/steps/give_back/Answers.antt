use Rattle.std.proofs.Common.{refl}
use Rattle.mdb_log.specs.declared.reply.Reply.TheVariants.{Done}
use Rattle.mdb_shared.specs.Checkout.{returning}
use Rattle.mdb_workers.proofs.Adding.{made_step, stays_out}
use Rattle.mdb_workers.proofs.steps.give_back.Goals as goal

pub returns-in-Ok-clause-ok : goal.returns-in-Ok-clause-ok
returns-in-Ok-clause-ok g c = made_step g.C.Core.stands c.args.seat.now c.check_in.new.seat (returning c.args.connection c.args.used) Done c.check_in.ensures.same.0 c.check_in.ensures.same.1 c.check_in.ensures.busy refl c.in-Ok.ensures.entry

pub returns-in-Err-clause-why : goal.returns-in-Err-clause-why
returns-in-Err-clause-why g c = stays_out g.C.Core.stands c.args.seat.now c.check_in.new.seat (returning c.args.connection c.args.used) c.check_in.ensures.same.0 c.check_in.ensures.same.1 c.check_in.ensures.busy c.in-Err.back.why c.in-Err.ensures.in_time c.in-Err.ensures.why refl
