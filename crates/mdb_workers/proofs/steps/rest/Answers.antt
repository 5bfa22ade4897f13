use Rattle.mdb_workers.proofs.Adding.{made_same}
use Rattle.mdb_workers.proofs.steps.rest.Goals as goal

pub returns-clause-saw : goal.returns-clause-saw
returns-clause-saw g c = made_same g.C.Core.stands c.args.seat.now c.seen_count-count.new.seat c.seen_count-count.ensures.same c.seen_count-count.ensures.seen
