-- What the pools of a driver say between its steps.
use Rattle.std.proofs.Common.{ℕ, ◌≡◌, List, [], Option, Some, None, refl, sym, subst, arith}
use Rattle.std.specs.Prelude.{slice_get}
use Rattle.mdb_log.specs.declared.options.PoolOptions.{PoolOptions}
use Rattle.mdb_log.specs.History.{Item, of_pool}
use Rattle.mdb_pool.specs.Core.{PoolCore}
use Rattle.mdb_driver_pools.specs.Standing.{PoolFits, PoolsFit}
use Rattle.mdb_pool_rules.specs.Rested.{Rested}
use Rattle.mdb_pool.proofs.Histories.Resting.{rested}

-- a pool of which nothing is said
pub rested-none : Rested []
rested-none = record {
  lives = λ r c e. cc;
  unended = λ r c e. refl;
  free = λ c e. refl;
  loose = λ c e. refl;
  pending_loose = λ c e. refl;
  apart = λ c e. refl;
  background = λ c e g. refl;
  left = λ c r e g f. refl;
  waits = λ c r e g f. cc;
  known = λ c r e g. cc;
  warm = λ r c e w. cc;
  at_pin = λ c l n. absurd (omega arith);
  pinned_free = λ c e. refl;
}

-- each pool that a driver keeps, and each that it does not know
pub each-rested : (o : PoolOptions) (pools : List PoolCore) (h : List Item) → PoolsFit o pools h → (p : ℕ) → Rested (of_pool p h)
each-rested o pools h z p = on (slice_get pools p) refl
  where
    on : (x : Option PoolCore) → slice_get pools p ≡ x → Rested (of_pool p h)
    on None e = subst Rested (sym (z.rest p e)) rested-none
    on (Some s) e = let d : PoolFits o h p s = z.each p s e in rested s (of_pool p h) d.fits
