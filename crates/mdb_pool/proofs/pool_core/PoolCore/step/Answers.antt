use Rattle.mdb_pool.proofs.Answered.NewParties.{alone_tells}
use Rattle.mdb_pool.proofs.pool_core.PoolCore.step.Goals as goal

pub refuses-requires-clause-new : goal.refuses-requires-clause-new
refuses-requires-clause-new c = alone_tells c.args.self.now c.args.step.now.act c.requires.alone
