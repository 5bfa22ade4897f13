use Rattle.std.proofs.Common.{rules, ◌≡◌, ◌∙◌}
use Rattle.mdb_pool.specs.Now.{holds_now, queries}
use Rattle.mdb_pool.proofs.Told.OfItems.{holds-now}
use Rattle.mdb_pool.proofs.pool_core.PoolCore.holds.Goals as goal

pub returns : goal.returns
unfolding queries
returns c =
    let kept : c.holds.result ≡ holds_now c.args.self.now c.args.party = search rules in
    λ xs z. kept ∙ holds-now c.args.self.now xs z c.args.party
