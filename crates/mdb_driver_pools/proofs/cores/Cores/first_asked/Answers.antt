use Rattle.std.proofs.Common.{find, position, ◌∙◌, ap}
use Rattle.std.specs.Prelude.{option_map}
use Rattle.mdb_pool.specs.Now.{is_open_now}
use Rattle.mdb_driver_pools.specs.declared.placed.Placed.{Placed}
use Rattle.mdb_driver_pools.specs.Living.{PoolList}
use Rattle.mdb_driver_pools.proofs.InMemory.LivingPools.{found-place, spent-asked}
use Rattle.mdb_driver_pools.proofs.cores.Cores.first_asked.Goals as goal

pub returns : goal.returns
returns c =
    c.place_of.ensures
    ∙ (ap (option_map (λ (x : Placed). x.place)) (c.first_asked.ensures ∙ ap (find (λ (x : Placed). is_open_now x.core c.args.party)) (c.as_slice.ensures.value ∙ c.self.invariant.0))
    ∙ (found-place (λ s. is_open_now s c.args.party) (spent-asked c.args.party) c.self.inside.all.value
    ∙ ap (λ (v : PoolList). position (λ s. is_open_now s c.args.party) v.items) c.self.view_is))
