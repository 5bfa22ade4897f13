use Rattle.std.proofs.Common.{Some, ◌∙◌}
use Rattle.mdb_pool.proofs.KeptInLittle.CountedClears.{some-before}
use Rattle.mdb_pool.proofs.kept.connections.Connections.services_before.Goals as goal

pub returns-clause-members : goal.returns-clause-members
returns-clause-members c = λ t. c.in_ok-services.ensures.members t ∙ rw (c.as_slice.ensures.value, c.marks-marks.ensures, ← c.self.view_is) (some-before c.self.inside.claims.created.now c.self.inside.clears.now c.self.inside.live.now c.self.invariant.2 (Some t) c.args.id (rw (← c.self.view_is) at c.requires))
