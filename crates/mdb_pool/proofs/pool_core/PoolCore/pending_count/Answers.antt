use Rattle.std.proofs.Common.{rules, ◌≡◌, ◌∙◌}
use Rattle.mdb_pool.specs.Now.{queries}
use Rattle.mdb_pool.specs.Kept.Values.{pending_count}
use Rattle.mdb_pool.proofs.Told.Counts.{pending-total}
use Rattle.mdb_pool.proofs.pool_core.PoolCore.pending_count.Goals as goal

pub returns : goal.returns
unfolding queries
returns c =
    let kept : c.pending_count.result ≡ pending_count c.args.self.now = search rules in
    λ xs z. kept ∙ pending-total c.args.self.now xs z
