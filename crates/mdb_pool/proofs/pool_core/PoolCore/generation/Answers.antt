use Rattle.std.proofs.Common.{rules, ◌≡◌, ◌∙◌}
use Rattle.mdb_pool.specs.Now.{clears_now, queries}
use Rattle.mdb_pool.proofs.Told.OfItems.{generation-now}
use Rattle.mdb_pool.proofs.pool_core.PoolCore.generation.Goals as goal

pub returns : goal.returns
unfolding queries
returns c =
    let kept : c.generation.result ≡ clears_now c.args.self.now c.args.service = search rules in
    λ xs z. kept ∙ generation-now c.args.self.now xs z c.args.service
