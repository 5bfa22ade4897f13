use Rattle.std.proofs.Common.{rules, ◌≡◌, ◌∙◌}
use Rattle.mdb_pool.specs.Now.{queries}
use Rattle.mdb_pool.specs.Kept.Values.{asked_in, first_caller}
use Rattle.mdb_pool.proofs.Told.Counts.{first-asked}
use Rattle.mdb_pool.proofs.pool_core.PoolCore.first_asked.Goals as goal

pub returns : goal.returns
unfolding queries
returns c =
    let kept : c.first_asked.result ≡ asked_in (first_caller c.args.self.now) = search rules in
    λ xs z. kept ∙ first-asked c.args.self.now xs z
