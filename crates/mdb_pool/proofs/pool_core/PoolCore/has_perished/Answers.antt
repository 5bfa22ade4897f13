use Rattle.std.proofs.Common.{rules, ◌≡◌, ◌∙◌, is_some}
use Rattle.mdb_pool.specs.Now.{queries}
use Rattle.mdb_pool.specs.Kept.Values.{first_perished}
use Rattle.mdb_pool.proofs.Told.Counts.{some-perished}
use Rattle.mdb_pool.proofs.pool_core.PoolCore.has_perished.Goals as goal

pub returns : goal.returns
unfolding queries
returns c =
    let kept : c.is_some.result ≡ is_some (first_perished c.args.self.now c.args.moment) = search rules in
    λ xs z. kept ∙ some-perished c.args.self.now xs z c.args.moment
