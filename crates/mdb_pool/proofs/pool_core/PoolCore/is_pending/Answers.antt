use Rattle.std.proofs.Common.{rules, ◌≡◌, ◌∙◌}
use Rattle.mdb_pool.specs.Now.{queries}
use Rattle.mdb_pool.specs.Kept.Values.{connection_at, is_pending_at}
use Rattle.mdb_pool.proofs.Told.OfItems.{pending-now}
use Rattle.mdb_pool.proofs.pool_core.PoolCore.is_pending.Goals as goal

pub returns : goal.returns
unfolding queries
returns c =
    let kept : c.is_pending.result ≡ is_pending_at (connection_at c.args.self.now c.args.id) = search rules in
    λ xs z. kept ∙ pending-now c.args.self.now xs z c.args.id
