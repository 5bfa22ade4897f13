use Rattle.mdb_log.specs.State.{generation_of}
use Rattle.mdb_pool.specs.Now.{clears_now}
use Rattle.mdb_pool.proofs.Told.OfItems.{generation-now}
use Rattle.mdb_pool.proofs.Told.OfSome.{by-items}
use Rattle.mdb_driver_pools.proofs.pool_queries.generation.Goals as goal

pub returns : goal.returns
returns c = let s = c.args.pool.now in by-items s c.stands.ensures c.generation.result (clears_now s c.args.service) (λ xs. generation_of xs c.args.service) c.generation.ensures (λ xs z. generation-now s xs z c.args.service)
