use Rattle.std.proofs.Common.{rules, ◌≡◌, ◌∙◌}
use Rattle.mdb_pool.specs.Now.{queries}
use Rattle.mdb_pool.specs.Kept.Values.{expiry_now}
use Rattle.mdb_pool.proofs.Told.Counts.{expiry}
use Rattle.mdb_pool.proofs.pool_core.PoolCore.next_expiry.Goals as goal

pub returns : goal.returns
unfolding queries
returns c =
    let kept : c.next_expiry.result ≡ expiry_now c.args.self.now = search rules in
    λ xs z. kept ∙ expiry c.args.self.now xs z
