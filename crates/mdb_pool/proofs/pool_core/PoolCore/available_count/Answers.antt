use Rattle.std.proofs.Common.{rules, ◌≡◌, ◌∙◌}
use Rattle.mdb_pool.specs.Now.{queries}
use Rattle.mdb_pool.specs.Kept.Values.{available_count}
use Rattle.mdb_pool.proofs.Told.Counts.{available-count}
use Rattle.mdb_pool.proofs.pool_core.PoolCore.available_count.Goals as goal

pub returns : goal.returns
unfolding queries
returns c =
    let kept : c.available_count.result ≡ available_count c.args.self.now = search rules in
    λ xs z. kept ∙ available-count c.args.self.now xs z
