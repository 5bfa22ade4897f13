use Rattle.mdb_workers.proofs.Adding.{made_none}
use Rattle.mdb_workers.proofs.Tending.{may_act, settled_if}
use Rattle.mdb_workers.proofs.persisting.try_left.Goals as goal

pub try_once-requires-clause-act : goal.try_once-requires-clause-act
try_once-requires-clause-act g c κs within = may_act c.args.pool c.args.id c.args.step.now c.in-Ok.act c.requires.act c.in-Ok.ensures

pub returns-in-Ok-clause-entry : goal.returns-in-Ok-clause-entry
returns-in-Ok-clause-entry g c = settled_if g.C.Core.stands c.args.seat.now c.try_once.new.seat c.args.pool c.args.id c.args.step.now c.in-Ok.act c.try_once.result c.in-Ok.ensures c.try_once.ensures.entry

pub returns-in-Err-clause-entry : goal.returns-in-Err-clause-entry
returns-in-Err-clause-entry g c = made_none g.C.Core.stands c.args.seat.now
