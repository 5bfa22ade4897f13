use Rattle.std.proofs.Common.{◌∙◌}
use Rattle.mdb_pool.proofs.KeptInLittle.CountedClears.{lives-before}
use Rattle.mdb_pool.proofs.kept.connections.Connections.generation_before.Goals as goal

pub count-requires : goal.count-requires
count-requires c = rw c.marks.ensures c.self.invariant.2.all

pub returns : goal.returns
returns c = c.count.ensures ∙ rw (c.marks.ensures, ← c.self.view_is) (lives-before c.self.inside.claims.created.now c.self.inside.clears.now c.self.inside.live.now c.self.invariant.2 c.args.service c.args.id (rw (← c.self.view_is) at c.requires))
