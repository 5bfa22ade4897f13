use Rattle.std.proofs.Common.{rules, ◌≡◌, ◌∙◌}
use Rattle.mdb_pool.specs.Now.{wire_now, queries}
use Rattle.mdb_pool.proofs.Told.OfItems.{wire-now}
use Rattle.mdb_pool.proofs.pool_core.PoolCore.wire_version.Goals as goal

pub returns : goal.returns
unfolding queries
returns c =
    let kept : c.wire_version.result ≡ wire_now c.args.self.now c.args.id = search rules in
    λ xs z. kept ∙ wire-now c.args.self.now xs z c.args.id
