use Rattle.mdb_pool.proofs.kept.connections.Connections.timeouts.Goals as goal

pub returns : goal.returns
returns c = rw (c.marks.ensures, ← c.self.view_is) c.self.invariant.2.timeouts
