-- What becomes of a step of one pool.
use Rattle.std.specs.Prelude.{ℕ, ◌≡◌, false, List, [], ◌∷◌, ◌++◌, set, slice_get, Option, Some, None, ⊤}
use Rattle.mdb_base.specs.declared.options.Options.{Options}
use Rattle.mdb_events.specs.declared.fact.Fact.{Fact}
use Rattle.mdb_log.specs.declared.step.Step.{Step}
use Rattle.mdb_log.specs.declared.reply.Reply.{Reply}
use Rattle.mdb_log.specs.declared.reply.Reply.TheVariants.{NoJob}
use Rattle.mdb_log.specs.declared.reply.Refused.{Refused as Why}
use Rattle.mdb_log.specs.History.{Item, did, last_moment, with_answer}
use Rattle.mdb_log.specs.LegalLog.{IsFairAnswer}
use Rattle.mdb_log.specs.Own.{IsAccepted}
use Rattle.mdb_log.specs.Beside.{AllFreshGrants}
use Rattle.mdb_log.specs.Opening.{pool_options}
use Rattle.mdb_pool.specs.Core.{PoolCore}
use Rattle.mdb_pool.specs.Now.{is_spent}
use Rattle.mdb_pool.specs.Planning.{IsDone}
use Rattle.mdb_pool.specs.Refusing.{refusal_now}
use Rattle.mdb_pool.specs.declared.planning.Answered.{Answered}
use Rattle.mdb_driver_pools.specs.declared.pool_decision.PoolDecision.{PoolDecision}
use Rattle.mdb_driver_pools.specs.declared.pool_decision.PoolDecision.TheVariants.{Refused, Idle, Concerns}
use Rattle.mdb_driver_rules.specs.Answer.{answer}
use Rattle.mdb_driver_rules.specs.Refusal.{refusal}
use Rattle.mdb_driver_pools.specs.Standing.{PoolsStand}

-- An accepted act: the pool at the index i takes the state t, and all others stay.
pub record Takes (o : Options) (pools : List PoolCore) (i : ℕ) (t : PoolCore) (before after : List Fact) (step : Step) (reply : Reply) (h : List Item) : Type 0 where
  pub facts : List Fact
  pub facts_are : after ≡ before ++ facts
  pub answer_is : answer o h step ≡ record { reply = reply; facts = facts }
  pub stands : PoolsStand (pool_options o) (set pools i t) (with_answer step reply facts h)
  pub accepted : IsAccepted reply
  pub last_is : last_moment (with_answer step reply facts h) ≡ step.moment
  pub fair : IsFairAnswer h step reply facts
  pub fresh : AllFreshGrants (pool_options o) step.moment (did step reply ∷ h) facts

-- An accepted step that finds no job: all pools stay.
pub record Rests (o : Options) (pools : List PoolCore) (step : Step) (h : List Item) : Type 0 where
  pub answer_is : answer o h step ≡ record { reply = NoJob; facts = [] }
  pub stands : PoolsStand (pool_options o) pools (with_answer step NoJob [] h)
  pub fair : IsFairAnswer h step NoJob []

-- why the step is refused, where it is
abbrev pub cause_of : PoolDecision → Option Why
cause_of (Refused why) = Some why
cause_of _ = None

-- What becomes of the step after the history: it is refused by its cause, or accepted as its answer says.
abbrev pub Performs : Options → List PoolCore → Step → PoolDecision → List Item → Type 0
Performs o pools step (Refused why) h = refusal o h step ≡ Some why
Performs o pools step Idle h = Rests o pools step h
Performs o pools step (Concerns i) h = (refusal o h step ≡ None) × ((s t : PoolCore) (told : Answered) → slice_get pools i ≡ Some s → IsDone s t step told → Takes o pools i t [] told.facts step told.reply h)

-- The pool that the step concerns is there, something lives in it, and it does not refuse the step.
abbrev pub IsReady : List PoolCore → Step → PoolDecision → Type 0
IsReady pools step (Concerns i) = (s : PoolCore) × (slice_get pools i ≡ Some s) × (refusal_now s step ≡ None) × (is_spent s ≡ false)
IsReady pools step outcome = ⊤
