use Rattle.std.proofs.Common.{rules, ◌≡◌, ◌∙◌}
use Rattle.mdb_pool.specs.Now.{held_now, queries}
use Rattle.mdb_pool.proofs.Told.OfItems.{held-now}
use Rattle.mdb_pool.proofs.pool_core.PoolCore.held_by.Goals as goal

pub returns : goal.returns
unfolding queries
returns c =
    let kept : c.held_by.result ≡ held_now c.args.self.now c.args.party = search rules in
    λ xs z. kept ∙ held-now c.args.self.now xs z c.args.party
