-- What an accepted step makes of a driver.
use Rattle.std.specs.Prelude.{ℕ, ◌≡◌, ◌≤◌, ◌+◌, ◌^◌, ◌||◌, All, true, List, [], ◌∷◌, ◌++◌, length, Some, is_some, unwrap_or, Option, None}
use Rattle.mdb_describe.specs.declared.description.ServerDescription.{ServerDescription}
use Rattle.mdb_describe.specs.declared.topology.TopologyDescription.{TopologyDescription}
use Rattle.mdb_describe.specs.Update.{stored}
use Rattle.mdb_log.specs.declared.log.Entry.{Entry}
use Rattle.mdb_log.specs.declared.step.Step.{Step}
use Rattle.mdb_log.specs.History.{Item, did, with_answer}
use Rattle.mdb_log.specs.LegalLog.{IsFairAnswer}
use Rattle.mdb_log.specs.Beside.{AllFreshGrants}
use Rattle.mdb_log.specs.Connections.{one_if}
use Rattle.mdb_log.specs.Own.{IsAccepted}
use Rattle.mdb_log.specs.Opening.{pool_options}
use Rattle.mdb_pool.specs.Core.{PoolCore}
use Rattle.mdb_pool.specs.Now.{last_now}
use Rattle.mdb_topology.specs.declared.topology.TopologyCore.{TopologyCore}
use Rattle.mdb_topology.specs.declared.transition.Transition.{Transition}
use Rattle.mdb_topology.specs.declared.transition.Decision.{Decision}
use Rattle.mdb_topology.specs.declared.transition.Decision.TheVariants.{Refused, Accepted, Repeated}
use Rattle.mdb_driver_rules.specs.Answer.{answer}
use Rattle.mdb_driver_rules.specs.Refusal.{refusal, may_want}
use Rattle.mdb_driver_pools.specs.Planned.{LeadsAll, opened_by}
use Rattle.mdb_topology.specs.Checking.{monitors_after, numbers_after, watchers_after, IsPlaced}
use Rattle.mdb_topology.specs.Standing.{MonitorsFit, Describes, Counts, StandsFor}
use Rattle.mdb_driver_pools.specs.Standing.{PoolsStand}

-- An accepted step: its answer, and what each part of the driver then is, where its pools are those to which the changes lead.
pub record Follows (w : TopologyCore) (n : Transition) (step : Step) (h : List Item) : Type 0 where
  pub answer_is : answer w.options h step ≡ record { reply = n.reply; facts = n.facts.items }
  pub accepted : IsAccepted n.reply
  pub fair : IsFairAnswer h step n.reply n.facts.items
  pub fresh : AllFreshGrants (pool_options w.options) step.moment (did step n.reply ∷ h) n.facts.items
  pub leads : (later : List PoolCore) × LeadsAll n.changes.items w.pools.cores.items later
  pub pools : (later : List PoolCore) → LeadsAll n.changes.items w.pools.cores.items later → PoolsStand (pool_options w.options) later (with_answer step n.reply n.facts.items h)
  pub numbers : (later : List PoolCore) → LeadsAll n.changes.items w.pools.cores.items later → length later ≤ 2 ^ 32
  pub early : (later : List PoolCore) → LeadsAll n.changes.items w.pools.cores.items later → All (λ s. last_now s ≤ step.moment) later
  pub each_opened : length n.monitors.items ≡ length (opened_by n.changes.items)
  pub placed : IsPlaced n.monitoring w.monitors.kept
  pub monitors : MonitorsFit w.options (monitors_after n.monitoring w.monitors.items ++ n.monitors.items) (with_answer step n.reply n.facts.items h)
  pub described : Describes w.options (unwrap_or n.description w.description) (with_answer step n.reply n.facts.items h)
  pub counts : Counts w.options step.moment (w.published + one_if (is_some n.description)) (numbers_after n.monitoring w.fresh) (n.stops || w.stopped) (watchers_after n.monitoring w.watchers) (with_answer step n.reply n.facts.items h)

-- so it is after some history
abbrev pub FollowsSome : TopologyCore → Transition → Step → Type 0
FollowsSome w n step = (h : List Item) × StandsFor w h × Follows w n step h

-- a description takes the place of the one of its server, where there is one
abbrev pub placed : Option ServerDescription → TopologyDescription → TopologyDescription
placed None t = t
placed (Some s) t = stored t s

-- the same step, where then a description takes its place
abbrev pub with_place : Option ServerDescription → TopologyCore → Transition → Transition
with_place None w n = n
with_place (Some s) w n = record n { description = Some (stored (unwrap_or n.description w.description) s) }

-- What becomes of a step after the history.
abbrev pub BecomesOf : TopologyCore → Step → Decision → List Item → Type 0
BecomesOf w step (Refused why) h = refusal w.options h step ≡ Some why
BecomesOf w step (Accepted n) h = Follows w n step h
BecomesOf w step (Repeated n s) h = Follows w (with_place (Some s) w n) step h

-- Running out of memory may be the answer to the step after the history.
abbrev pub MayWant : TopologyCore → Step → List Item → Type 0
MayWant w step h = may_want w.options h step ≡ true

-- The log has one entry more, of the seat, with the answer to the step, and the driver stands for the longer history.
pub record Logs (w v : TopologyCore) (before after : List Entry) (seat : ℕ) (step : Step) (h : List Item) : Type 0 where
  pub entry : after ≡ before ++ record { seat = seat; step = step; reply = (answer w.options h step).reply; facts = (answer w.options h step).facts } ∷ []
  pub stands : StandsFor v (with_answer step (answer w.options h step).reply (answer w.options h step).facts h)
  pub fair : IsFairAnswer h step (answer w.options h step).reply (answer w.options h step).facts
  pub fresh : AllFreshGrants (pool_options w.options) step.moment (did step (answer w.options h step).reply ∷ h) (answer w.options h step).facts

-- the log got the entry of the step, whatever history the driver stood for
abbrev pub IsLogged : TopologyCore → TopologyCore → List Entry → List Entry → ℕ → Step → Type 0
IsLogged w v before after seat step = (h : List Item) → StandsFor w h → Logs w v before after seat step h
