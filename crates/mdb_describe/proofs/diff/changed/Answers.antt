use Rattle.std.proofs.Common.{arith}
use Rattle.mdb_describe.specs.Differences.{differs_from}
use Rattle.mdb_describe.proofs.Parts.{placed_on}
use Rattle.mdb_describe.proofs.diff.changed.Goals as goal

pub loop-server-preserved : goal.loop-server-preserved
loop-server-preserved c = placed_on (differs_from c.args.earlier.now) c.args.later.now c.loop-server.server-index c.server-item.result c.differs_from.result c.loop-server.found.items _ (omega arith) c.server-item.is c.differs_from.ensures c.loop-server.invariant c.in_ok-add_if.ensures
