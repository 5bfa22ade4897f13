use Rattle.std.proofs.Common.{arith}
use Rattle.mdb_describe.proofs.Timeouts.{least_on}
use Rattle.mdb_describe.proofs.session_timeout.least_so_far.Goals as goal

pub loop-server-preserved : goal.loop-server-preserved
loop-server-preserved c = least_on c.args.servers.now c.loop-server.server-index c.server-item.result c.loop-server.least c.with_one-least.result (omega arith) c.server-item.is c.loop-server.invariant c.with_one-least.ensures
