-- What one of the pools makes of a step.
use Rattle.std.specs.Prelude.{ℕ, ◌≡◌, false, List, set, slice_get, Some, None}
use Rattle.mdb_log.specs.declared.log.Entry.{Entry}
use Rattle.mdb_log.specs.declared.reply.Reply.{Reply}
use Rattle.mdb_log.specs.declared.step.Step.{Step}
use Rattle.mdb_log.specs.declared.step.Act.{Act}
use Rattle.mdb_pool.specs.Core.{PoolCore}
use Rattle.mdb_pool.specs.Now.{is_spent}
use Rattle.mdb_pool.specs.Planning.{DoesLogged}
use Rattle.mdb_pool.specs.Refusing.{refusal_now}
use Rattle.mdb_driver_pools.specs.declared.pool_decision.PoolDecision.{PoolDecision}
use Rattle.mdb_driver_pools.specs.declared.pool_decision.PoolDecision.TheVariants.{Refused, Idle, Concerns}
use Rattle.mdb_driver_pools.specs.Finding.{missing_pool}

-- The act concerns no pool: it is refused by its cause, or a claim that finds no job.
abbrev pub Lacks : List PoolCore → Act → PoolDecision → Type 0
Lacks pools act (Refused why) = missing_pool pools act ≡ Some why
Lacks pools act Idle = missing_pool pools act ≡ None
Lacks pools act (Concerns i) = ⊥

-- The pool s at the place i refuses the step, or is the one that it concerns.
abbrev pub Asked : PoolCore → ℕ → Step → PoolDecision → Type 0
Asked s i step (Refused why) = refusal_now s step ≡ Some why
Asked s i step Idle = ⊥
Asked s i step (Concerns j) = (j ≡ i) × (refusal_now s step ≡ None)

-- the pool at the place is asked, in which something lives
abbrev pub IsAsked : List PoolCore → ℕ → Step → PoolDecision → Type 0
IsAsked pools i step outcome = (s : PoolCore) × (slice_get pools i ≡ Some s) × Asked s i step outcome × (is_spent s ≡ false)

-- The pool s at the place i did the step and logged it, and all others stayed.
abbrev pub DoesAt : PoolCore → List PoolCore → ℕ → List PoolCore → List Entry → List Entry → ℕ → Step → Reply → Type 0
DoesAt s pools i later before after seat step reply = (t : PoolCore) × DoesLogged s t before after seat step reply × (later ≡ set pools i t)
