-- A pending connection of a pool fails, after a clear of the pool where that is wanted.
use Rattle.std.specs.Prelude.{ℕ, ◌≡◌, Bool, true, false, List, [], ◌∷◌, ◌++◌, slice_get, Option, Some, None}
use Rattle.mdb_base.specs.declared.object_id.ObjectId.{ObjectId}
use Rattle.mdb_base.specs.declared.error.Error.{Error}
use Rattle.mdb_events.specs.declared.fact.Fact.{Fact}
use Rattle.mdb_log.specs.declared.step.Step.{Step}
use Rattle.mdb_log.specs.declared.step.FailedAt.{FailedAt}
use Rattle.mdb_log.specs.declared.step.Act.{Act}
use Rattle.mdb_log.specs.declared.step.Act.TheVariants.{Failed}
use Rattle.mdb_pool.specs.Core.{PoolCore}
use Rattle.mdb_pool.specs.declared.planning.Answered.{Answered}
use Rattle.mdb_pool.specs.Planning.{Plan, Plans, IsPlanOf, IsDone}
use Rattle.mdb_pool.specs.Refusing.{refusal_now}
use Rattle.mdb_driver_pools.specs.declared.pool_change.PoolChange.{PoolChange}
use Rattle.mdb_driver_pools.specs.declared.pool_change.PoolChange.TheVariants.{Alter}
use Rattle.mdb_driver_pools.specs.declared.trouble.Asked.{Asked}
use Rattle.mdb_driver_pools.specs.Acting.{step_of, PlansOne}
use Rattle.mdb_driver_pools.specs.Clearing.{asked_of, clear_act}

-- By the step a pending connection of the pool fails with the error, and the pool accepts it.
pub record IsFailing (s : PoolCore) (step : Step) (error : Error) : Type 0 where
  pub connection : ℕ
  pub at : FailedAt
  pub act_is : step.act ≡ Failed s.pool connection at error
  pub accepted : refusal_now s step ≡ None

-- it still does after the clear by the error
abbrev pub StillFails : PoolCore → Step → Option ObjectId → Error → Type 0
StillFails s step service error = (t : PoolCore) (a : Answered) → IsDone s t (step_of step.moment (clear_act service error) s.pool) a → refusal_now t step ≡ None

-- the pool does the two steps one after the other
abbrev pub DoesBoth : PoolCore → PoolCore → Step → Step → Answered → Answered → Type 0
DoesBoth s u first second a b = (t : PoolCore) × IsDone s t first a × IsDone t u second b

-- The plan of the pool does the two steps, and is the last change.
pub record PlansBoth (pool : PoolCore) (i : ℕ) (first second : Step) (a b : Answered) (earlier changes : List PoolChange) : Type 0 where
  pub plan : Plan
  pub made : IsPlanOf plan pool
  pub does : (u : PoolCore) → Plans plan pool u → DoesBoth pool u first second a b
  pub behind : changes ≡ earlier ++ Alter i plan ∷ []

-- The pool at the index does the first act and then fails: the facts of the first, of what is asked, and of the failure come after those before them.
pub record PlansTwo (pools : List PoolCore) (i : ℕ) (first : ℕ → Act) (step : Step) (asked : Asked) (earlier changes : List PoolChange) (before after : List Fact) : Type 0 where
  pub pool : PoolCore
  pub there : slice_get pools i ≡ Some pool
  pub plan : Plan
  pub made : IsPlanOf plan pool
  pub clear : Answered
  pub failure : Answered
  pub does : (u : PoolCore) → Plans plan pool u → DoesBoth pool u (step_of step.moment first pool.pool) step clear failure
  pub behind : changes ≡ earlier ++ Alter i plan ∷ []
  pub told : after ≡ ((before ++ clear.facts) ++ asked_of asked true pool.address) ++ failure.facts

-- The pool fails alone, after what is asked.
pub record PlansAlone (pools : List PoolCore) (i : ℕ) (step : Step) (asked : Asked) (earlier changes : List PoolChange) (before after : List Fact) : Type 0 where
  pub pool : PoolCore
  pub there : slice_get pools i ≡ Some pool
  pub one : PlansOne pools i step.moment (λ p. step.act) earlier changes (before ++ asked_of asked false pool.address) after

-- The failure in its pool, after a clear where that is wanted.
abbrev pub Fails : Bool → List PoolCore → ℕ → Step → Option ObjectId → Error → Asked → List PoolChange → List PoolChange → List Fact → List Fact → Type 0
Fails false pools i step service error asked earlier changes before after = PlansAlone pools i step asked earlier changes before after
Fails true pools i step service error asked earlier changes before after =
    (d : PlansTwo pools i (clear_act service error) step asked earlier changes before after) × (refusal_now d.pool (step_of step.moment (clear_act service error) d.pool.pool) ≡ None)
