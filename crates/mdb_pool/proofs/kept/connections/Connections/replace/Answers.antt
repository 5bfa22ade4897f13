use Rattle.mdb_pool.proofs.KeptInLittle.ClaimedUpTo.{swap-fit}
use Rattle.mdb_pool.proofs.KeptInLittle.CountedClears.{swap-counts}
use Rattle.mdb_pool.proofs.kept.connections.Connections.replace.Goals as goal

pub invariant_of-self : goal.invariant_of-self
invariant_of-self c = rw (c.in-Ok.ensures.now, c.replace.ensures.base) (swap-fit c.self.inside.claims.created.now c.self.inside.claims.now c.self.inside.live.now c.self.invariant.0 c.args.connection c.len-count.ensures.apart (rw (← c.self.view_is) at c.requires.pending), c.self.invariant.1, swap-counts c.self.inside.claims.created.now c.self.inside.clears.now c.self.inside.live.now c.self.invariant.2 c.args.connection, c.self.invariant.3)

pub invariant_of-self-in-Err : goal.invariant_of-self-in-Err
invariant_of-self-in-Err c = rw (c.in-Err.ensures.gone, c.replace.ensures.base, c.roll_back.ensures.created.0, c.roll_back.ensures.created.1, c.roll_back.ensures.claimed.0, c.roll_back.ensures.claimed.1, c.roll_back-in-Err.ensures.0, c.roll_back-in-Err.ensures.1) (c.self.invariant.1, c.self.invariant.1, c.self.invariant.3, c.self.invariant.3)
