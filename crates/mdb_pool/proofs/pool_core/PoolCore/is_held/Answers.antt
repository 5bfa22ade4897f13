use Rattle.std.proofs.Common.{rules, ◌≡◌, ◌∙◌}
use Rattle.mdb_pool.specs.Now.{queries}
use Rattle.mdb_pool.specs.Kept.Values.{connection_at, is_held_at}
use Rattle.mdb_pool.proofs.Told.OfItems.{in-use-now}
use Rattle.mdb_pool.proofs.pool_core.PoolCore.is_held.Goals as goal

pub returns : goal.returns
unfolding queries
returns c =
    let kept : c.is_held.result ≡ is_held_at (connection_at c.args.self.now c.args.id) = search rules in
    λ xs z. kept ∙ in-use-now c.args.self.now xs z c.args.id
