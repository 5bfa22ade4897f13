use Rattle.mdb_workers.proofs.Clocking.{due_driver}
use Rattle.mdb_workers.proofs.ticking.due.Goals as goal

pub add-requires-clause-act : goal.add-requires-clause-act
add-requires-clause-act g c κs within = due_driver c.args.act c.requires.act

pub returns-in-Ok-clause-ok : goal.returns-in-Ok-clause-ok
returns-in-Ok-clause-ok g c = let one = c.in-Ok.ensures.ok in (one.0, one.1, one.3)
