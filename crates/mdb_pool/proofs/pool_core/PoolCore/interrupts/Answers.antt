use Rattle.std.proofs.Common.{rules}
use Rattle.mdb_pool.specs.Now.{queries}
use Rattle.mdb_pool.proofs.pool_core.PoolCore.interrupts.Goals as goal

pub returns-then-connection-eq0 : goal.returns-then-connection-eq0
unfolding queries
returns-then-connection-eq0 c = search rules

pub returns-else-connection-eq0 : goal.returns-else-connection-eq0
unfolding queries
returns-else-connection-eq0 c = search rules
