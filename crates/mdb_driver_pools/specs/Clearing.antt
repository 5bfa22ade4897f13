-- The clear of a pool, and what its monitor is asked.
use Rattle.std.specs.Prelude.{ℕ, ◌≡◌, Bool, true, false, List, [], ◌∷◌, slice_get, Option, Some, None}
use Rattle.mdb_base.specs.declared.address.ServerAddress.{ServerAddress}
use Rattle.mdb_base.specs.declared.error.Error.{Error}
use Rattle.mdb_base.specs.declared.object_id.ObjectId.{ObjectId}
use Rattle.mdb_events.specs.declared.fact.Fact.{Fact}
use Rattle.mdb_events.specs.declared.fact.Fact.TheVariants.{CheckNow as CheckNowFact, Cancel}
use Rattle.mdb_log.specs.declared.step.Act.{Act}
use Rattle.mdb_log.specs.declared.step.Act.TheVariants.{Clear as ClearAct}
use Rattle.mdb_pool.specs.Core.{PoolCore}
use Rattle.mdb_pool.specs.Refusing.{refusal_now}
use Rattle.mdb_driver_pools.specs.declared.pool_change.PoolChange.{PoolChange}
use Rattle.mdb_driver_pools.specs.declared.trouble.Asked.{Asked}
use Rattle.mdb_driver_pools.specs.declared.trouble.Asked.TheVariants.{Nothing, CheckNow, CancelIfCleared}
use Rattle.mdb_driver_pools.specs.Acting.{step_of, PlansOne}

-- the act, by the number of the pool
abbrev pub clear_act : Option ObjectId → Error → ℕ → Act
clear_act service error p = ClearAct p service error

-- the pool at the index accepts the clear
abbrev pub AcceptsClear : List PoolCore → ℕ → ℕ → Option ObjectId → Error → Type 0
AcceptsClear pools i m service error = (s : PoolCore) → slice_get pools i ≡ Some s → refusal_now s (step_of m (clear_act service error) s.pool) ≡ None

-- The pool at the index is cleared, where that is wanted.
abbrev pub Clears : Bool → List PoolCore → ℕ → ℕ → Option ObjectId → Error → List PoolChange → List PoolChange → List Fact → List Fact → Type 0
Clears false pools i m service error earlier changes before after = (changes ≡ earlier) × (after ≡ before)
Clears true pools i m service error earlier changes before after =
    (d : PlansOne pools i m (clear_act service error) earlier changes before after) × (refusal_now d.pool (step_of m (clear_act service error) d.pool.pool) ≡ None)

-- what the monitor of the address is asked, by whether the pool was cleared
abbrev pub asked_of : Asked → Bool → ServerAddress → List Fact
asked_of Nothing cleared a = []
asked_of CheckNow cleared a = CheckNowFact a ∷ []
asked_of CancelIfCleared true a = Cancel a ∷ []
asked_of CancelIfCleared false a = []
