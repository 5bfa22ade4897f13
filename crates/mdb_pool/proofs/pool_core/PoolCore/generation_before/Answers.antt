use Rattle.std.proofs.Common.{rules, ◌≡◌, Some, None, if◌then◌else◌, ◌∙◌}
use Rattle.mdb_pool.specs.Now.{clears_before_now, is_live_now, queries}
use Rattle.mdb_pool.proofs.Told.OfItems.{before-now}
use Rattle.mdb_pool.proofs.pool_core.PoolCore.generation_before.Goals as goal

pub returns : goal.returns
unfolding queries
returns c =
    let kept : c.generation_before.result ≡ (if is_live_now c.args.self.now c.args.id then Some (clears_before_now c.args.self.now c.args.id c.args.service) else None) = search rules in
    λ xs z. kept ∙ before-now c.args.self.now xs z c.args.id c.args.service
