use Rattle.mdb_pool.proofs.kept.connections.Connections.undo.Goals as goal

pub invariant_of-self : goal.invariant_of-self
invariant_of-self c = rw (c.undo.ensures.now, c.undo.ensures.base, c.undo-2.ensures.created.0, c.undo-2.ensures.created.1, c.undo-2.ensures.claimed.0, c.undo-2.ensures.claimed.1, c.undo-3.ensures.cleared.0, c.undo-3.ensures.cleared.1) (c.self.invariant.1, c.self.invariant.1, c.self.invariant.3, c.self.invariant.3)

pub returns-clause-fits : goal.returns-clause-fits
returns-clause-fits c = rw (c.undo.ensures.plan.1, c.undo-2.ensures.onto, c.undo-2.ensures.onto_claimed) c.self.invariant.0

pub returns-clause-fits_clears : goal.returns-clause-fits_clears
returns-clause-fits_clears c = rw (c.undo.ensures.plan.1, c.undo-2.ensures.onto, c.undo-3.ensures.onto) c.self.invariant.2
