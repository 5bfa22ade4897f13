use Rattle.std.proofs.Common.{◌==◌, position, sym, ◌∙◌, ap}
use Rattle.std.specs.Prelude.{option_copied, slice_get}
use Rattle.mdb_driver_pools.specs.declared.placed.Placed.{Placed}
use Rattle.mdb_driver_pools.specs.Living.{if_at, index_in, PoolList}
use Rattle.mdb_driver_pools.proofs.InMemory.FoundLast.{guessed-index}
use Rattle.mdb_driver_pools.proofs.cores.Cores.index_of.Goals as goal

pub returns-in-Some : goal.returns-in-Some
returns-in-Some c =
    let p = c.args.place in
    let g = c.guess-guess.result in
    let all = c.self.inside.all.value in
    let found = ap (λ ys. if_at p (slice_get ys g)) (sym c.self.invariant.0) ∙ (ap (λ ys. if_at p (slice_get ys g)) (sym c.as_slice-living.ensures.value) ∙ (sym c.guessed.ensures ∙ ap option_copied c.in-Some.is)) in
    sym (guessed-index all p g _ found) ∙ ap (λ (v : PoolList). index_in v.items p) c.self.view_is

pub returns-in-None : goal.returns-in-None
returns-in-None c = c.index_at.ensures ∙ (ap (position (λ (x : Placed). x.place == c.args.place)) (c.as_slice-living.ensures.value ∙ c.self.invariant.0) ∙ ap (λ (v : PoolList). index_in v.items c.args.place) c.self.view_is)
