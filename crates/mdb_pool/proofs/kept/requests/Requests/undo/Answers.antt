use Rattle.mdb_pool.proofs.kept.requests.Requests.undo.Goals as goal

pub invariant_of-self : goal.invariant_of-self
invariant_of-self c = rw (c.undo.ensures.now, c.undo.ensures.base, c.undo-2.ensures.now, c.undo-2.ensures.base, c.undo-3.ensures.now, c.undo-3.ensures.base, c.of.ensures, c.of-2.ensures) (c.self.invariant.1, c.self.invariant.1)

pub returns-clause-fits : goal.returns-clause-fits
returns-clause-fits c = (c.undo.ensures.plan.0, c.undo-2.ensures.plan.0, c.undo-3.ensures.fits, rw (c.undo.ensures.plan.1, c.undo-2.ensures.plan.1, c.undo-3.ensures.onto, c.of-all.ensures, c.of-settled.ensures) c.self.invariant.0)
