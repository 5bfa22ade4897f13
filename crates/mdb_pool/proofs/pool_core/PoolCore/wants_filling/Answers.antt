use Rattle.std.proofs.Common.{rules, ◌≡◌, ◌∙◌}
use Rattle.mdb_pool.specs.Now.{queries}
use Rattle.mdb_pool.specs.Kept.Values.{fills_now}
use Rattle.mdb_pool.proofs.Told.Counts.{fills}
use Rattle.mdb_pool.proofs.pool_core.PoolCore.wants_filling.Goals as goal

pub returns : goal.returns
unfolding queries
returns c =
    let kept : c.wants_filling.result ≡ fills_now c.args.self.now = search rules in
    λ xs z. kept ∙ fills c.args.self.now xs z
