use Rattle.std.proofs.Common.{rules, ◌≡◌, ◌∙◌}
use Rattle.mdb_pool.specs.Now.{is_open_now, queries}
use Rattle.mdb_pool.proofs.Told.OfItems.{open-now}
use Rattle.mdb_pool.proofs.pool_core.PoolCore.is_open.Goals as goal

pub returns : goal.returns
unfolding queries
returns c =
    let kept : c.is_open.result ≡ is_open_now c.args.self.now c.args.request = search rules in
    λ h z. kept ∙ open-now c.args.self.now h z c.args.request
