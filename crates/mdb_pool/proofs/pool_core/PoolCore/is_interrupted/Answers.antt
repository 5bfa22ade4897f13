use Rattle.std.proofs.Common.{◌∙◌}
use Rattle.mdb_pool.specs.Now.{queries}
use Rattle.mdb_pool.proofs.Told.OfItems.{interrupted-now}
use Rattle.mdb_pool.proofs.pool_core.PoolCore.is_interrupted.Goals as goal

pub returns : goal.returns
unfolding queries
returns c = λ xs z. c.interrupts.ensures ∙ interrupted-now c.args.self.now xs z c.args.id
