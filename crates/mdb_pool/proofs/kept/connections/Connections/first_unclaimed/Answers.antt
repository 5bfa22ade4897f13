use Rattle.std.proofs.Common.{◌∙◌}
use Rattle.mdb_pool.proofs.KeptInLittle.ClaimedUpTo.{unclaimed-found}
use Rattle.mdb_pool.proofs.kept.connections.Connections.first_unclaimed.Goals as goal

pub returns : goal.returns
returns c = c.first_after.ensures ∙ rw (c.last.ensures, ← c.self.view_is) (unclaimed-found c.self.inside.claims.created.now c.self.inside.claims.now c.self.inside.live.now c.self.invariant.0)
