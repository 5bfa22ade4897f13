use Rattle.std.proofs.Common.{◌∙◌, sym}
use Rattle.mdb_log.specs.History.{of_pool, history_of}
use Rattle.mdb_log.specs.Opening.{pool_options}
use Rattle.mdb_topology.proofs.WholeSteps.CoreOfManyPools.{if-ok}
use Rattle.mdb_driver_pools.proofs.InMemory.LivingPools.{living-there}
use Rattle.mdb_topology.proofs.OnePool.JobsAreThere.{job-known, job-unknown}
use Rattle.mdb_driver_pools.proofs.OnePool.FoundAt.{fits-at}
use Rattle.mdb_topology.proofs.topology.TopologyCore.job.Goals as goal

pub returns-in-Some : goal.returns-in-Some
returns-in-Some c =
    let w = c.args.self.now in
    let s = c.in-Some.known.now in
    if-ok c.job.result _ _ c.job.ensures
    (λ job knows log z. knows (of_pool s.pool (history_of log)) (fits-at (pool_options w.options) w.pools.cores.items (history_of log) z.stands.pools.fit c.args.pool s (living-there w.pools.cores.items c.args.pool s (sym c.in-Some.ensures)).0)
    ∙ job-known w log z c.args.pool c.args.id s (living-there w.pools.cores.items c.args.pool s (sym c.in-Some.ensures)).0)

pub returns-in-None : goal.returns-in-None
returns-in-None c = λ log z. job-unknown c.args.self.now log z c.args.pool c.args.id (sym c.in-None.ensures)
