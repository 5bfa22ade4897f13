use Rattle.std.proofs.Common.{Some, None, if◌then◌else◌}
use Rattle.mdb_log.specs.Connections.{is_live}
use Rattle.mdb_log.specs.State.{generation_before}
use Rattle.mdb_pool.specs.Now.{clears_before_now, is_live_now}
use Rattle.mdb_pool.proofs.Told.OfItems.{before-now}
use Rattle.mdb_pool.proofs.Told.OfSome.{by-items}
use Rattle.mdb_driver_pools.proofs.pool_queries.generation_before.Goals as goal

pub returns : goal.returns
returns c = let s = c.args.pool.now in by-items s c.stands.ensures c.generation_before.result (if is_live_now s c.args.id then Some (clears_before_now s c.args.id c.args.service) else None) (λ xs. if is_live xs c.args.id then Some (generation_before xs c.args.id c.args.service) else None) c.generation_before.ensures (λ xs z. before-now s xs z c.args.id c.args.service)
