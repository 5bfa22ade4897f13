use Rattle.std.proofs.Common.{rules, ◌≡◌, ◌∙◌}
use Rattle.mdb_pool.specs.Now.{queries}
use Rattle.mdb_pool.specs.Kept.Values.{timer_now}
use Rattle.mdb_pool.proofs.Told.Counts.{timer}
use Rattle.mdb_pool.proofs.pool_core.PoolCore.timer_at.Goals as goal

pub returns : goal.returns
unfolding queries
returns c =
    let kept : c.timer_at.result ≡ timer_now c.args.self.now c.args.moment = search rules in
    λ xs z. kept ∙ timer c.args.self.now xs z c.args.moment
