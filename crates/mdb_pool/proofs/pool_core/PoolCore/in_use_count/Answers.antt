use Rattle.std.proofs.Common.{rules, ◌≡◌, ◌∙◌}
use Rattle.mdb_pool.specs.Now.{queries}
use Rattle.mdb_pool.specs.Kept.Values.{in_use_count}
use Rattle.mdb_pool.proofs.Told.Counts.{in-use-count}
use Rattle.mdb_pool.proofs.pool_core.PoolCore.in_use_count.Goals as goal

pub returns : goal.returns
unfolding queries
returns c =
    let kept : c.in_use_count.result ≡ in_use_count c.args.self.now = search rules in
    λ xs z. kept ∙ in-use-count c.args.self.now xs z
