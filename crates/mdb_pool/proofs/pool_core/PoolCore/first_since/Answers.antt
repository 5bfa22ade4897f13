use Rattle.std.proofs.Common.{rules, ◌≡◌, ◌∙◌}
use Rattle.mdb_pool.specs.Now.{queries}
use Rattle.mdb_pool.specs.Kept.Values.{first_available, since_in}
use Rattle.mdb_pool.proofs.Told.Counts.{first-since}
use Rattle.mdb_pool.proofs.pool_core.PoolCore.first_since.Goals as goal

pub returns : goal.returns
unfolding queries
returns c =
    let kept : c.first_since.result ≡ since_in (first_available c.args.self.now) = search rules in
    λ xs z. kept ∙ first-since c.args.self.now xs z
