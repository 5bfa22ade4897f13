-- How whole acts of a pool compose in one step of a driver.
use Rattle.std.specs.Prelude.{ℕ, ◌≡◌, ◌||◌, List, ◌∷◌, ◌++◌, Option}
use Rattle.mdb_base.specs.declared.error.Error.{Error}
use Rattle.mdb_base.specs.declared.object_id.ObjectId.{ObjectId}
use Rattle.mdb_events.specs.declared.fact.Fact.{Fact}
use Rattle.mdb_log.specs.declared.reply.Reply.{Reply}
use Rattle.mdb_log.specs.declared.step.Act.TheVariants.{Clear, Failed}
use Rattle.mdb_log.specs.declared.step.FailedAt.{FailedAt}
use Rattle.mdb_log.specs.History.{PoolItem, failed, after_facts, service_in}
use Rattle.mdb_log.specs.Legal.{AllFirstCome}
use Rattle.mdb_log.specs.Limits.{WithinLimits}
use Rattle.mdb_log.specs.Own.{AllOwn, shuts}
use Rattle.mdb_pool.specs.Core.{PoolCore}
use Rattle.mdb_pool_rules.specs.Answer.{all_facts}
use Rattle.mdb_pool_rules.specs.Facts.{clear_facts}
use Rattle.mdb_pool.specs.Now.{is_closed_now}
use Rattle.mdb_pool_rules.specs.Quiet.{IsQuiet}
use Rattle.mdb_pool_rules.specs.Serving.{IsServed}
use Rattle.mdb_pool.specs.Standing.{Fits, SameHome, Accepts}

-- what the pool knows is ws: a clear made the facts of the first list and a failure those of the second, in this order, and the state fits the items behind them
pub record FailsCleared (s u : PoolCore) (m : ℕ) (before middle start after clears fails : List Fact) (ws : List PoolItem) : Type 0 where
  pub clears_are : middle ≡ before ++ clears
  pub fails_are : after ≡ start ++ fails
  pub fits : Fits u (after_facts s.pool m (clears ++ fails) ws)
  pub fair : AllFirstCome s.pool m ws (clears ++ fails)
  pub own : AllOwn s.pool m ws (clears ++ fails)
  pub served : IsServed s.options (after_facts s.pool m (clears ++ fails) ws)
  pub shut : is_closed_now u ≡ shuts (clears ++ fails) || is_closed_now s
  pub within : WithinLimits s.options ws → WithinLimits s.options (after_facts s.pool m (clears ++ fails) ws)
  pub quiet : IsQuiet s.options ws → IsQuiet s.options (after_facts s.pool m (clears ++ fails) ws)

-- A clear, and then a failure by one connection, done one after the other: with the item of the failure before the facts of the clear, the pool knows the same.
abbrev pub ClearThenFailure : Type 0
ClearThenFailure = (s t u : PoolCore) (before middle start after : List Fact) (m : ℕ) (xs : List PoolItem) (q k c : ℕ) (service : Option ObjectId) (cause error : Error) (at : FailedAt) (first second : Reply)
    → IsServed s.options xs → SameHome s t
    → Accepts s t before middle m (Clear q service cause) first xs xs
    → Accepts t u start after m (Failed k c at error) second (after_facts s.pool m (all_facts s.pool s.address s.options m xs xs (Clear q service cause)) xs) (failed c (service_in at) ∷ after_facts s.pool m (all_facts s.pool s.address s.options m xs xs (Clear q service cause)) xs)
    → FailsCleared s u m before middle start after (clear_facts s.pool s.address s.options m (failed c (service_in at) ∷ xs) service cause)
    (all_facts s.pool s.address s.options m xs (after_facts s.pool m (clear_facts s.pool s.address s.options m (failed c (service_in at) ∷ xs) service cause) (failed c (service_in at) ∷ xs)) (Failed k c at error))
    (failed c (service_in at) ∷ xs)
