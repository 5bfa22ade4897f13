use Rattle.std.proofs.Common.{rules, ◌≡◌, ◌∙◌}
use Rattle.mdb_pool.specs.Now.{has_job_now, queries}
use Rattle.mdb_pool.proofs.Told.OfItems.{job-now}
use Rattle.mdb_pool.proofs.pool_core.PoolCore.has_job.Goals as goal

pub returns : goal.returns
unfolding queries
returns c =
    let kept : c.is_some.result ≡ has_job_now c.args.self.now = search rules in
    λ h z. kept ∙ job-now c.args.self.now h z
