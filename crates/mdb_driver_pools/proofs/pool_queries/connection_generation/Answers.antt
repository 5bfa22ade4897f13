use Rattle.std.proofs.Common.{Some, None, if◌then◌else◌}
use Rattle.mdb_log.specs.Connections.{is_live, known_service}
use Rattle.mdb_log.specs.Generations.{carried}
use Rattle.mdb_log.specs.State.{generation_before}
use Rattle.mdb_pool.specs.Now.{generation_now}
use Rattle.mdb_pool.proofs.Told.OfItems.{carried-now}
use Rattle.mdb_pool.proofs.Told.OfSome.{by-items}
use Rattle.mdb_driver_pools.proofs.pool_queries.connection_generation.Goals as goal

pub returns : goal.returns
returns c = let s = c.args.pool.now in by-items s c.stands.ensures c.connection_generation.result (generation_now s c.args.id) (λ xs. if is_live xs c.args.id then Some (carried s.options.load_balanced (generation_before xs c.args.id) (known_service xs c.args.id)) else None) c.connection_generation.ensures (λ xs z. carried-now s xs z c.args.id)
