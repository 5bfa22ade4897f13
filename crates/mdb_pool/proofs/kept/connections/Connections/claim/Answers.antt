use Rattle.mdb_pool.proofs.KeptInLittle.ClaimedUpTo.{claim-fit}
use Rattle.mdb_pool.proofs.kept.connections.Connections.claim.Goals as goal

pub invariant_of-self : goal.invariant_of-self
invariant_of-self c = rw (c.claim.ensures.same.0, c.claim.ensures.same.1, c.claim.ensures.now)
    (claim-fit c.self.inside.claims.created.now c.self.inside.claims.now c.self.inside.live.now c.self.invariant.0 c.args.connection.now (rw (← c.self.view_is) at c.requires), c.self.invariant.1, c.self.invariant.2, c.self.invariant.3)
