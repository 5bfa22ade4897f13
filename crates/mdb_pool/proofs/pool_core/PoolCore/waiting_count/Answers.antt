use Rattle.std.proofs.Common.{rules, ◌≡◌, ◌∙◌}
use Rattle.mdb_pool.specs.Now.{queries}
use Rattle.mdb_pool.specs.Kept.Values.{waiting_count}
use Rattle.mdb_pool.proofs.Told.Counts.{waiting-total}
use Rattle.mdb_pool.proofs.pool_core.PoolCore.waiting_count.Goals as goal

pub returns : goal.returns
unfolding queries
returns c =
    let kept : c.waiting_count.result ≡ waiting_count c.args.self.now = search rules in
    λ xs z. kept ∙ waiting-total c.args.self.now xs z
