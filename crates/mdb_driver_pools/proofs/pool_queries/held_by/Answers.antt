use Rattle.mdb_log.specs.Connections.{holding}
use Rattle.mdb_pool.specs.Now.{held_now}
use Rattle.mdb_pool.proofs.Told.OfItems.{held-now}
use Rattle.mdb_pool.proofs.Told.OfSome.{by-items}
use Rattle.mdb_driver_pools.proofs.pool_queries.held_by.Goals as goal

pub returns : goal.returns
returns c = let s = c.args.pool.now in by-items s c.stands.ensures c.held_by.result (held_now s c.args.party) (λ xs. holding xs c.args.party) c.held_by.ensures (λ xs z. held-now s xs z c.args.party)
