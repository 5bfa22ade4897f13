use Rattle.mdb_workers.proofs.persisting.try_once.Goals as goal

pub returns-in-Ok-clause-entry : goal.returns-in-Ok-clause-entry
returns-in-Ok-clause-entry g c = let one = c.in-Ok.ensures.ok in (one.0, one.1, one.3)
