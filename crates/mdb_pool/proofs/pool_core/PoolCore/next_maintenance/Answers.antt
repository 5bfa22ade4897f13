use Rattle.std.proofs.Common.{rules, ◌≡◌, ◌∙◌}
use Rattle.mdb_pool.specs.Now.{queries}
use Rattle.mdb_pool.specs.Kept.Values.{maintenance_now}
use Rattle.mdb_pool.proofs.Told.Counts.{maintenance}
use Rattle.mdb_pool.proofs.pool_core.PoolCore.next_maintenance.Goals as goal

pub returns : goal.returns
unfolding queries
returns c =
    let kept : c.next_maintenance.result ≡ maintenance_now c.args.self.now c.args.moment = search rules in
    λ xs z. kept ∙ maintenance c.args.self.now xs z c.args.moment
