use Rattle.std.proofs.Common.{not}
use Rattle.mdb_pool.specs.Kept.Places.{is_available, is_pending}
use Rattle.mdb_pool.proofs.KeptInLittle.ClaimedUpTo.{rest-fit}
use Rattle.mdb_pool.proofs.KeptInLittle.CountedClears.{filter-counts}
use Rattle.mdb_pool.proofs.kept.connections.Connections.close.Goals as goal

pub invariant_of-self : goal.invariant_of-self
invariant_of-self c = rw (c.in-Ok.ensures.now, c.let_go.ensures.base) (rest-fit c.self.inside.claims.created.now c.self.inside.claims.now c.self.inside.live.now c.self.invariant.0, c.self.invariant.1, filter-counts _ _ _ (filter-counts c.self.inside.claims.created.now c.self.inside.clears.now c.self.inside.live.now c.self.invariant.2 (λ x. not (is_available x.place))) (λ x. not (is_pending x.place)), c.self.invariant.3)

pub invariant_of-self-in-Err : goal.invariant_of-self-in-Err
invariant_of-self-in-Err c = rw (c.in-Err.ensures.gone, c.let_go.ensures.base, c.roll_back.ensures.created.0, c.roll_back.ensures.created.1, c.roll_back.ensures.claimed.0, c.roll_back.ensures.claimed.1, c.roll_back-in-Err.ensures.0, c.roll_back-in-Err.ensures.1) (c.self.invariant.1, c.self.invariant.1, c.self.invariant.3, c.self.invariant.3)
