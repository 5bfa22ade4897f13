use Rattle.std.proofs.Common.{find, ◌∙◌, ap}
use Rattle.std.specs.Prelude.{option_map}
use Rattle.mdb_pool.specs.Now.{holds_now}
use Rattle.mdb_driver_pools.specs.Finding.{holder}
use Rattle.mdb_driver_pools.specs.declared.placed.Placed.{Placed}
use Rattle.mdb_driver_pools.specs.Living.{PoolList}
use Rattle.mdb_driver_pools.proofs.InMemory.LivingPools.{found-place, spent-holder}
use Rattle.mdb_driver_pools.proofs.cores.Cores.holder.Goals as goal

pub returns : goal.returns
returns c =
    c.place_of.ensures
    ∙ (ap (option_map (λ (x : Placed). x.place)) (c.first_held.ensures ∙ ap (find (λ (x : Placed). holds_now x.core c.args.party)) (c.as_slice.ensures.value ∙ c.self.invariant.0))
    ∙ (found-place (λ s. holds_now s c.args.party) (spent-holder c.args.party) c.self.inside.all.value
    ∙ ap (λ (v : PoolList). holder v.items c.args.party) c.self.view_is))
