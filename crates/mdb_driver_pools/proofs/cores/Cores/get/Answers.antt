use Rattle.std.proofs.Common.{◌≡◌, ◌==◌, find, Some, None, sym, ◌∙◌, ap}
use Rattle.std.specs.Prelude.{option_copied, option_map, slice_get}
use Rattle.mdb_driver_pools.specs.declared.placed.Placed.{Placed}
use Rattle.mdb_driver_pools.specs.Living.{if_at, living_at, living_from, PoolList}
use Rattle.mdb_driver_pools.proofs.InMemory.FoundLast.{guessed-pool}
use Rattle.mdb_driver_pools.proofs.InMemory.LivingPools.{living-is}
use Rattle.mdb_driver_pools.proofs.cores.Cores.get.Goals as goal

pub returns-in-Some : goal.returns-in-Some
returns-in-Some c =
    let p = c.args.place in
    let g = c.guess.result in
    let all = c.self.inside.all.value in
    let found = ap (λ ys. if_at p (slice_get ys g)) (sym c.self.invariant.0) ∙ (ap (λ ys. if_at p (slice_get ys g)) (sym c.as_slice-living.ensures.value) ∙ (sym c.guessed.ensures ∙ ap option_copied c.in-Some.is)) in
    sym (guessed-pool all p g c.in-Some.guess.now found) ∙ ap (λ (v : PoolList). living_at v.items p) c.self.view_is

pub returns-in-Some-placed_at : goal.returns-in-Some-placed_at
returns-in-Some-placed_at c =
    let found : find (λ (x : Placed). x.place == c.args.place) (living_from 0 c.self.inside.all.value) ≡ Some c.in-Some-placed_at.placed.now =
    ap (find (λ (x : Placed). x.place == c.args.place)) (sym c.self.invariant.0) ∙ (ap (find (λ (x : Placed). x.place == c.args.place)) (sym c.as_slice-living.ensures.value) ∙ (sym c.placed_at.ensures ∙ ap option_copied c.in-Some-placed_at.is)) in
    rw (← c.self.view_is) (sym (ap (option_map (λ (x : Placed). x.core)) found) ∙ living-is c.self.inside.all.value c.args.place)

pub returns-in-None : goal.returns-in-None
returns-in-None c =
    let found : find (λ (x : Placed). x.place == c.args.place) (living_from 0 c.self.inside.all.value) ≡ None =
    ap (find (λ (x : Placed). x.place == c.args.place)) (sym c.self.invariant.0) ∙ (ap (find (λ (x : Placed). x.place == c.args.place)) (sym c.as_slice-living.ensures.value) ∙ (sym c.placed_at.ensures ∙ ap option_copied c.in-None.is)) in
    rw (← c.self.view_is) (sym (ap (option_map (λ (x : Placed). x.core)) found) ∙ living-is c.self.inside.all.value c.args.place)
