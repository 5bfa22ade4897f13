use Rattle.std.proofs.Common.{◌∙◌}
use Rattle.mdb_pool.proofs.Told.OfItems.{carried-now}
use Rattle.mdb_pool.proofs.pool_core.PoolCore.connection_generation.Goals as goal

pub returns : goal.returns
returns c = λ xs z. c.carries.ensures ∙ carried-now c.args.self.now xs z c.args.id
