use Rattle.std.proofs.Common.{◌&&◌}
use Rattle.mdb_log.specs.History.{has_asked, of_pool}
use Rattle.mdb_log.specs.Requests.{is_open}
use Rattle.mdb_pool.specs.Now.{is_open_now}
use Rattle.mdb_pool.proofs.Told.OfItems.{open-now}
use Rattle.mdb_pool.proofs.Told.OfSome.{by-history}
use Rattle.mdb_driver_pools.proofs.pool_queries.is_open.Goals as goal

pub returns : goal.returns
returns c = let s = c.args.pool.now in by-history s c.stands.ensures c.is_open.result (is_open_now s c.args.request) (λ h. has_asked (of_pool s.pool h) c.args.request && is_open h c.args.request) c.is_open.ensures (λ h z. open-now s h z c.args.request)
