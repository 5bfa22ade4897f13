use Rattle.std.proofs.Common.{not}
use Rattle.std.specs.List.{list_any}
use Rattle.mdb_log.specs.Connections.{pending_list}
use Rattle.mdb_log.specs.History.{of_pool}
use Rattle.mdb_log.specs.Requests.{is_claimed}
use Rattle.mdb_pool.specs.Now.{has_job_now}
use Rattle.mdb_pool.proofs.Told.OfItems.{job-now}
use Rattle.mdb_pool.proofs.Told.OfSome.{by-history}
use Rattle.mdb_driver_pools.proofs.pool_queries.has_job.Goals as goal

pub returns : goal.returns
returns c = let s = c.args.pool.now in by-history s c.stands.ensures c.has_job.result (has_job_now s) (λ h. list_any (λ c. not (is_claimed h s.pool c)) (pending_list (of_pool s.pool h))) c.has_job.ensures (λ h z. job-now s h z)
