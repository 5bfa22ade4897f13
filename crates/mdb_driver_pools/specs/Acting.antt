-- An act of one pool, planned at its place.
use Rattle.std.specs.Prelude.{ℕ, ◌≡◌, List, [], ◌∷◌, ◌++◌, slice_get, Option, Some, None}
use Rattle.mdb_events.specs.declared.fact.Fact.{Fact}
use Rattle.mdb_log.specs.declared.step.Step.{Step}
use Rattle.mdb_log.specs.declared.step.Act.{Act}
use Rattle.mdb_log.specs.declared.step.Act.TheVariants.{Ready, Close}
use Rattle.mdb_pool.specs.Core.{PoolCore}
use Rattle.mdb_pool.specs.declared.planning.Answered.{Answered}
use Rattle.mdb_pool.specs.Planning.{Plan, Plans, IsPlanOf, IsDone}
use Rattle.mdb_driver_pools.specs.declared.pool_change.PoolChange.{PoolChange}
use Rattle.mdb_driver_pools.specs.declared.pool_change.PoolChange.TheVariants.{Alter}

-- the acts of the driver itself, by the number of the pool
abbrev pub readying : ℕ → Act
readying p = Ready p

abbrev pub closing : ℕ → Act
closing p = Close p

-- the step of an act at the moment, of the pool with the number
abbrev pub step_of : ℕ → (ℕ → Act) → ℕ → Step
step_of m act p = record { moment = m; act = act p }

-- The pool at the index does the act: the change stands behind the earlier ones, and its facts come after those before it.
pub record PlansOne (pools : List PoolCore) (i m : ℕ) (act : ℕ → Act) (earlier changes : List PoolChange) (before after : List Fact) : Type 0 where
  pub pool : PoolCore
  pub there : slice_get pools i ≡ Some pool
  pub plan : Plan
  pub made : IsPlanOf plan pool
  pub answered : Answered
  pub does : (t : PoolCore) → Plans plan pool t → IsDone pool t (step_of m act pool.pool) answered
  pub behind : changes ≡ earlier ++ Alter i plan ∷ []
  pub told : after ≡ before ++ answered.facts

-- the pool at this place, if there is one, does the act
abbrev pub PlansAt : List PoolCore → Option ℕ → ℕ → (ℕ → Act) → List PoolChange → List PoolChange → List Fact → List Fact → Type 0
PlansAt pools None m act earlier changes before after = (changes ≡ earlier) × (after ≡ before)
PlansAt pools (Some i) m act earlier changes before after = PlansOne pools i m act earlier changes before after
