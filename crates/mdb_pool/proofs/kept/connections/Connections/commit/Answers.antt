use Rattle.mdb_pool.proofs.kept.connections.Connections.commit.Goals as goal

pub invariant_of-self : goal.invariant_of-self
invariant_of-self c = rw (c.commit.ensures.now, c.commit.ensures.base, c.commit-2.ensures.created.0, c.commit-2.ensures.created.1, c.commit-2.ensures.claimed.0, c.commit-2.ensures.claimed.1, c.commit-3.ensures.0, c.commit-3.ensures.1) (c.self.invariant.0, c.self.invariant.0, c.self.invariant.2, c.self.invariant.2)
