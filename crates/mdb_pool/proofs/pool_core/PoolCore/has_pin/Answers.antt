use Rattle.std.proofs.Common.{rules, ◌≡◌, ◌∙◌, nat_lt}
use Rattle.mdb_pool.specs.Now.{queries}
use Rattle.mdb_pool.specs.Kept.Values.{connection_at, pins_at}
use Rattle.mdb_pool.proofs.Told.OfItems.{pins-now}
use Rattle.mdb_pool.proofs.pool_core.PoolCore.has_pin.Goals as goal

pub returns : goal.returns
unfolding queries
returns c =
    let kept : c.has_pin.result ≡ nat_lt 0 (pins_at (connection_at c.args.self.now c.args.id)) = search rules in
    λ xs z. kept ∙ pins-now c.args.self.now xs z c.args.id
