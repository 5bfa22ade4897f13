use Rattle.std.proofs.Common.{is_some}
use Rattle.mdb_log.specs.Connections.{holding}
use Rattle.mdb_pool.specs.Now.{holds_now}
use Rattle.mdb_pool.proofs.Told.OfItems.{holds-now}
use Rattle.mdb_pool.proofs.Told.OfSome.{by-items}
use Rattle.mdb_driver_pools.proofs.pool_queries.holds.Goals as goal

pub returns : goal.returns
returns c = let s = c.args.pool.now in by-items s c.stands.ensures c.holds.result (holds_now s c.args.party) (λ xs. is_some (holding xs c.args.party)) c.holds.ensures (λ xs z. holds-now s xs z c.args.party)
