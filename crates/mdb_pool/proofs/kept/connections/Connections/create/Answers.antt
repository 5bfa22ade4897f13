use Rattle.mdb_pool.proofs.KeptInLittle.ClaimedUpTo.{more-fit}
use Rattle.mdb_pool.proofs.KeptInLittle.CountedClears.{more-counts}
use Rattle.mdb_pool.proofs.kept.connections.Connections.create.Goals as goal

pub invariant_of-self : goal.invariant_of-self
invariant_of-self c = rw (c.in-Ok.ensures.now, c.put.ensures.base, c.create.ensures.created.0, c.create.ensures.created.1, c.create.ensures.same.0, c.create.ensures.same.1)
    (more-fit c.self.inside.claims.created.now c.self.inside.claims.now c.self.inside.live.now c.self.invariant.0 c.args.connection (rw (← c.self.view_is) at c.requires.id) c.requires.pending, c.self.invariant.1, more-counts c.self.inside.claims.created.now c.self.inside.clears.now c.self.inside.live.now c.self.invariant.2 c.args.connection (rw (← c.self.view_is) at c.requires.id), c.self.invariant.3)

pub invariant_of-self-in-Err : goal.invariant_of-self-in-Err
invariant_of-self-in-Err c = rw (c.in-Err.ensures.gone, c.put.ensures.base, c.roll_back.ensures.created.0, c.roll_back.ensures.created.1, c.roll_back.ensures.claimed.0, c.roll_back.ensures.claimed.1, c.roll_back-in-Err.ensures.0, c.roll_back-in-Err.ensures.1) (c.self.invariant.1, c.self.invariant.1, c.self.invariant.3, c.self.invariant.3)
