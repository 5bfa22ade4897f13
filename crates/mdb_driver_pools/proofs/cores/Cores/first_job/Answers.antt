use Rattle.std.proofs.Common.{find, ◌∙◌, ap}
use Rattle.std.specs.Prelude.{option_map}
use Rattle.mdb_pool.specs.Now.{has_job_now}
use Rattle.mdb_driver_pools.specs.Finding.{first_job}
use Rattle.mdb_driver_pools.specs.declared.placed.Placed.{Placed}
use Rattle.mdb_driver_pools.specs.Living.{PoolList}
use Rattle.mdb_driver_pools.proofs.InMemory.LivingPools.{found-place, spent-job}
use Rattle.mdb_driver_pools.proofs.cores.Cores.first_job.Goals as goal

pub returns : goal.returns
returns c =
    c.place_of.ensures
    ∙ (ap (option_map (λ (x : Placed). x.place)) (c.first_with_job.ensures ∙ ap (find (λ (x : Placed). has_job_now x.core)) (c.as_slice.ensures.value ∙ c.self.invariant.0))
    ∙ (found-place (λ s. has_job_now s) spent-job c.self.inside.all.value
    ∙ ap (λ (v : PoolList). first_job v.items) c.self.view_is))
