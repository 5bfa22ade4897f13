use Rattle.std.proofs.Common.{◌≡◌, ◌+◌, ◌<◌, ◌≤◌, ◌++◌, ◌∷◌, [], length, sym, ap, arith}
use Rattle.mdb_driver_pools.specs.Living.{living_from, PoolList}
use Rattle.mdb_driver_pools.proofs.InMemory.ChangedPools.{one-at-most, opened-one}
use Rattle.mdb_driver_pools.proofs.InMemory.StillLives.{length-last}
use Rattle.mdb_driver_pools.proofs.cores.Cores.push_reserved.Goals as goal

pub keep-requires : goal.keep-requires
keep-requires c =
    let s = c.self.inside in
    let fewer : length s.all.value < s.room = rw (ap (λ (v : PoolList). v.items) c.self.view_is, ap (λ (v : PoolList). v.room) c.self.view_is) c.requires in
    omega (arith, fewer, c.self.invariant.1, c.self.invariant.3)

pub invariant_of-self : goal.invariant_of-self
invariant_of-self c =
    let s = c.self.inside in
    let fewer : length s.all.value < s.room = rw (ap (λ (v : PoolList). v.items) c.self.view_is, ap (λ (v : PoolList). v.room) c.self.view_is) c.requires in
    let more : length (s.all.value ++ c.args.core ∷ []) ≡ length s.all.value + 1 = length-last s.all.value c.args.core in
    let most : length (living_from 0 s.all.value ++ living_from (length s.all.value) (c.args.core ∷ [])) ≤ length (living_from 0 s.all.value) + 1 = one-at-most (length s.all.value) c.args.core (living_from 0 s.all.value) in
    let were : length s.living.items ≡ length (living_from 0 s.all.value) = ap length c.self.invariant.0 in
    rw (c.of-all.ensures, c.keep.ensures.items, c.keep.ensures.capacity, c.self.invariant.0, c.self.invariant.1)
    (opened-one s.all.value c.args.core, sym more, omega (arith, fewer), omega (arith, fewer, most, were, c.keep.ensures.capacity, c.self.invariant.1, c.self.invariant.3))
