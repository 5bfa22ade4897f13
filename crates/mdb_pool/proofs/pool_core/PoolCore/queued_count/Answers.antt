use Rattle.std.proofs.Common.{rules, ◌≡◌, ◌∙◌}
use Rattle.mdb_pool.specs.Now.{queries}
use Rattle.mdb_pool.specs.Kept.Values.{queued_count}
use Rattle.mdb_pool.proofs.Told.Counts.{queued-total}
use Rattle.mdb_pool.proofs.pool_core.PoolCore.queued_count.Goals as goal

pub returns : goal.returns
unfolding queries
returns c =
    let kept : c.queued_count.result ≡ queued_count c.args.self.now = search rules in
    λ xs z. kept ∙ queued-total c.args.self.now xs z
