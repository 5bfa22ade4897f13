-- Where the pools of a driver are those of a history, each connection has one place, and between steps nobody is left waiting.
use Rattle.std.proofs.Common.{ℕ, ◌≡◌, List, [], Option, Some, None, refl, sym, subst, arith, inl}
use Rattle.std.specs.Prelude.{slice_get}
use Rattle.mdb_log.specs.declared.options.PoolOptions.{PoolOptions}
use Rattle.mdb_log.specs.History.{Item, of_pool}
use Rattle.mdb_log.specs.Legal.{OnePlace, NoneLeftWaiting}
use Rattle.mdb_log.specs.LegalLog.{IsOrderly}
use Rattle.mdb_pool.specs.Core.{PoolCore}
use Rattle.mdb_pool.proofs.Histories.OnePlaceEach.{one-place}
use Rattle.mdb_pool_rules.proofs.NoMove.{served-settled}
use Rattle.mdb_driver_pools.specs.Standing.{PoolFits, PoolsFit, PoolsStand}

-- a pool that isn't there is in order
nothing-placed : OnePlace []
nothing-placed c = (refl, omega arith)

nothing-waits : (o : PoolOptions) → NoneLeftWaiting o []
nothing-waits o = inl refl

pub one-place-each : (o : PoolOptions) (pools : List PoolCore) (h : List Item) → PoolsFit o pools h → (p : ℕ) → OnePlace (of_pool p h)
one-place-each o pools h z p = on (slice_get pools p) refl
  where
    on : (a : Option PoolCore) → slice_get pools p ≡ a → OnePlace (of_pool p h)
    on None e = subst OnePlace (sym (z.rest p e)) nothing-placed
    on (Some s) e = let d : PoolFits o h p s = z.each p s e in one-place s (of_pool p h) d.fits

nobody-waits : (o : PoolOptions) (pools : List PoolCore) (h : List Item) → PoolsStand o pools h → (p : ℕ) → NoneLeftWaiting o (of_pool p h)
nobody-waits o pools h z p = on (slice_get pools p) refl
  where
    on : (a : Option PoolCore) → slice_get pools p ≡ a → NoneLeftWaiting o (of_pool p h)
    on None e = subst (NoneLeftWaiting o) (sym (z.fit.rest p e)) (nothing-waits o)
    on (Some s) e = served-settled o (of_pool p h) (z.served p) s.address

pub orderly : (o : PoolOptions) (pools : List PoolCore) (h : List Item) → PoolsStand o pools h → IsOrderly o h
orderly o pools h z p = (one-place-each o pools h z.fit p, nobody-waits o pools h z p)
