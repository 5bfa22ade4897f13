use Rattle.std.proofs.Common.{None, if◌then◌else◌}
use Rattle.mdb_log.specs.Connections.{is_live, wire_of}
use Rattle.mdb_pool.specs.Now.{wire_now}
use Rattle.mdb_pool.proofs.Told.OfItems.{wire-now}
use Rattle.mdb_pool.proofs.Told.OfSome.{by-items}
use Rattle.mdb_driver_pools.proofs.pool_queries.wire_version.Goals as goal

pub returns : goal.returns
returns c = let s = c.args.pool.now in by-items s c.stands.ensures c.wire_version.result (wire_now s c.args.id) (λ xs. if is_live xs c.args.id then wire_of xs c.args.id else None) c.wire_version.ensures (λ xs z. wire-now s xs z c.args.id)
