use Rattle.std.proofs.Common.{find, ◌∙◌, ap}
use Rattle.std.specs.Prelude.{option_map}
use Rattle.mdb_driver_pools.specs.Standing.{at_address, is_open_at}
use Rattle.mdb_driver_pools.specs.declared.placed.Placed.{Placed}
use Rattle.mdb_driver_pools.specs.Living.{PoolList}
use Rattle.mdb_driver_pools.proofs.InMemory.LivingPools.{found-place, spent-open_at}
use Rattle.mdb_driver_pools.proofs.cores.Cores.open_at.Goals as goal

pub returns : goal.returns
returns c =
    c.place_of.ensures
    ∙ (ap (option_map (λ (x : Placed). x.place)) (c.first_open.ensures ∙ ap (find (λ (x : Placed). is_open_at c.args.address.now x.core)) (c.as_slice.ensures.value ∙ c.self.invariant.0))
    ∙ (found-place (λ s. is_open_at c.args.address.now s) (spent-open_at c.args.address.now) c.self.inside.all.value
    ∙ ap (λ (v : PoolList). at_address v.items c.args.address.now) c.self.view_is))
