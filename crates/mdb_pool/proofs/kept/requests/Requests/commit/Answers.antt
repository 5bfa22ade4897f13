use Rattle.mdb_pool.proofs.kept.requests.Requests.commit.Goals as goal

pub invariant_of-self : goal.invariant_of-self
invariant_of-self c = rw (c.commit.ensures.now, c.commit.ensures.base, c.commit-2.ensures.now, c.commit-2.ensures.base, c.commit-3.ensures.now, c.commit-3.ensures.base, c.of.ensures, c.of-2.ensures) (c.self.invariant.0, c.self.invariant.0)
