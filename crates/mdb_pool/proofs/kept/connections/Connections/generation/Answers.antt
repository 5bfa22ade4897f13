use Rattle.std.proofs.Common.{◌∙◌}
use Rattle.mdb_pool.proofs.kept.connections.Connections.generation.Goals as goal

pub count-requires : goal.count-requires
count-requires c = rw c.marks.ensures c.self.invariant.2.all

pub returns : goal.returns
returns c = c.count.ensures ∙ rw (c.marks.ensures, ← c.self.view_is) (c.self.invariant.2.total c.args.service)
