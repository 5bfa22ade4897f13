use Rattle.std.proofs.Common.{rules, ◌≡◌, ◌∙◌, length, sym}
use Rattle.mdb_pool.specs.Now.{queries}
use Rattle.mdb_pool.proofs.pool_core.PoolCore.live_count.Goals as goal

pub returns : goal.returns
unfolding queries
returns c =
    let kept : c.len.result ≡ length c.args.self.now.kept.connections = search rules in
    λ xs z. kept ∙ sym z.matches.counts.live_all
