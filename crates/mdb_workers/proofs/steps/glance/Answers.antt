use Rattle.mdb_workers.proofs.Adding.{made_nothing}
use Rattle.mdb_workers.proofs.steps.glance.Goals as goal

pub returns-clause-saw : goal.returns-clause-saw
returns-clause-saw g c = made_nothing g.C.Core.stands c.args.seat.now c.look.new.seat c.look.ensures.same.0 c.look.ensures.same.1 c.look.ensures.busy c.look.ensures.saw
