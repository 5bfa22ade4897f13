use Rattle.std.proofs.Common.{rules, ◌≡◌, ◌∙◌}
use Rattle.mdb_pool.specs.Now.{queries}
use Rattle.mdb_pool.specs.Kept.Values.{due_now}
use Rattle.mdb_pool.proofs.Told.Counts.{due}
use Rattle.mdb_pool.proofs.pool_core.PoolCore.next_due.Goals as goal

pub returns : goal.returns
unfolding queries
returns c =
    let kept : c.next_due.result ≡ due_now c.args.self.now c.args.moment = search rules in
    λ xs z. kept ∙ due c.args.self.now xs z c.args.moment
