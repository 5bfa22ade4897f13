-- Steps that change what is known of the topology, and do nothing in a pool by themselves.
use Rattle.std.specs.Prelude.{ℕ, ◌≡◌, ◌≤◌, ◌+◌, ◌^◌, Bool, true, false, if◌then◌else◌, nat_lt, All, map, List, [], ◌∷◌, length, Option, Some, None, is_some, ⊤}
use Rattle.mdb_base.specs.declared.address.ServerAddress.{ServerAddress}
use Rattle.mdb_base.specs.declared.options.Options.{Options}
use Rattle.mdb_describe.specs.declared.topology.TopologyDescription.{TopologyDescription}
use Rattle.mdb_describe.specs.declared.description.ServerDescription.{ServerDescription}
use Rattle.mdb_describe.specs.declared.diff.Diff.{Diff}
use Rattle.mdb_describe.specs.Differences.{difference}
use Rattle.mdb_describe.specs.Servers.{is_known, in_order}
use Rattle.mdb_monitor.specs.Standing.{StandsFor as MonitorStands}
use Rattle.mdb_log.specs.declared.reply.What.{What}
use Rattle.mdb_log.specs.declared.reply.What.TheVariants.{Servers, Pool}
use Rattle.mdb_log.specs.declared.reply.Refused.TheVariants.{Exhausted}
use Rattle.mdb_topology.specs.declared.transition.Transition.{Transition}
use Rattle.mdb_topology.specs.declared.transition.Decision.{Decision}
use Rattle.mdb_topology.specs.declared.transition.Decision.TheVariants.{Refused, Accepted, Repeated}
use Rattle.mdb_topology.specs.declared.monitors.monitoring.Monitoring.TheVariants.{Same}
use Rattle.mdb_driver_rules.specs.Monitors.{setting, hello_reply}
use Rattle.mdb_topology.specs.declared.monitors.monitoring.Monitoring.{Monitoring}
use Rattle.mdb_events.specs.declared.fact.Fact.TheVariants.{Sdam}
use Rattle.mdb_events.specs.declared.sdam.SdamEvent.{SdamEvent}
use Rattle.mdb_monitor.specs.declared.check.Report.{Report}
use Rattle.mdb_monitor.specs.declared.check.Report.TheVariants.{Update}
use Rattle.mdb_log.specs.declared.checked.BeatenResult.{BeatenResult}
use Rattle.mdb_log.specs.declared.checked.BeatenResult.TheVariants as Beaten
use Rattle.mdb_describe.specs.Descriptions.{from_reply}
use Rattle.mdb_describe.specs.Update.{updated}
use Rattle.mdb_events.specs.declared.fact.Fact.{Fact}
use Rattle.mdb_log.specs.declared.step.Step.{Step}
use Rattle.mdb_log.specs.declared.step.Act.{Act}
use Rattle.mdb_log.specs.declared.step.Act.TheVariants as Do
use Rattle.mdb_log.specs.declared.reply.Reply.{Reply}
use Rattle.mdb_log.specs.declared.reply.Reply.TheVariants.{Changed}
use Rattle.mdb_log.specs.History.{Item}
use Rattle.mdb_pool.specs.Core.{PoolCore}
use Rattle.mdb_driver_pools.specs.declared.pool_change.PoolChange.{PoolChange}
use Rattle.mdb_topology.specs.declared.topology.TopologyCore.{TopologyCore}
use Rattle.mdb_driver_rules.specs.Description.{rule_after, description_of, is_stop, known_after}
use Rattle.mdb_driver_rules.specs.Facts.{trouble}
use Rattle.mdb_driver_rules.specs.Publishing.{told_by, publication}
use Rattle.mdb_driver_rules.specs.Limits.{past_last}
use Rattle.mdb_driver_rules.specs.Refusal.{first_refusal}
use Rattle.mdb_driver_rules.specs.Answer.{reply_to}
use Rattle.mdb_driver_pools.specs.Planned.{IsPlanned, LeadsAll, CanTake, opened_by}
use Rattle.mdb_log.specs.Opening.{pool_options}
use Rattle.mdb_driver_pools.specs.Standing.{at_address, PoolsStand}
use Rattle.mdb_topology.specs.Stepping.{with_place}

-- an act of the topology alone: no pool, monitor or watcher is concerned by itself
abbrev pub IsTelling : Act → Type 0
IsTelling (Do.Hello a p came) = ⊤
IsTelling (Do.Error r error) = ⊤
IsTelling (Do.Hosts hosts) = ⊤
IsTelling (Do.ClusterTime time) = ⊤
IsTelling Do.Stop = ⊤
IsTelling _ = ⊥

-- The step is accepted but for its numbers, and tells these parts; next is what is known after it, where it applies a rule.
pub record IsChanging (o : Options) (h : List Item) (t : TopologyDescription) (next : Option TopologyDescription) (step : Step) (reply : Reply) (stops : Bool) (parts : List (List Item → List Fact)) : Type 0 where
  pub act : IsTelling step.act
  pub calm : trouble o h step ≡ None
  pub passes : first_refusal o h step ≡ None
  pub known : known_after (rule_after o h step) t ≡ next
  pub tells : told_by o step.moment (rule_after o h step) (description_of o h) ≡ parts
  pub replies : (z : List Item) → reply_to o h step z step.act ≡ reply
  pub stop : is_stop step.act ≡ stops

-- The parts are planned on the pools as they stand: which addresses they touch is left open, and a pool is open for each server that is known then.
pub record IsTold (o : Options) (m : ℕ) (pools : List PoolCore) (n : ℕ) (u : TopologyDescription) (parts : List (List Item → List Fact)) (changes : List PoolChange) (facts : List Fact) : Type 0 where
  pub touched : ServerAddress → Bool
  pub planned : IsPlanned o m pools n touched parts changes [] facts
  pub few : n + length (opened_by changes) ≤ 2 ^ 32
  pub open_for : (later : List PoolCore) (k : List Item) → CanTake m pools pools n touched → LeadsAll changes pools later → PoolsStand (pool_options o) pools k → (a : ServerAddress) → is_some (at_address later a) ≡ is_known a u.servers

-- The step makes u known, and tells what differs.
abbrev pub IsUpdating : TopologyCore → List Item → Step → TopologyDescription → Type 0
IsUpdating w h step u =
    IsChanging w.options h w.description (Some u) step (Changed (is_some (difference w.description.servers u.servers))) false (publication w.options step.moment w.description u)

-- some pool that would come has a number past the limit
abbrev pub passes_limit : TopologyCore → Option Diff → Bool
passes_limit w None = false
passes_limit w (Some d) = is_some (past_last w.options (length w.pools.cores.items) d.added)

-- the numbers of the pools that would come are of 32 bits
abbrev pub AreFew : TopologyCore → Option Diff → Type 0
AreFew w None = ⊤
AreFew w (Some d) = length w.pools.cores.items + length d.added ≤ 2 ^ 32

-- The limit that a change to u would pass: more than 128 servers, or a pool's number.
abbrev pub change_past : TopologyCore → TopologyDescription → Option What
change_past w u =
    if nat_lt 128 (length u.servers) then Some Servers
    else if passes_limit w (difference w.description.servers u.servers) then Some Pool
    else None

-- What a change to u at the moment m comes to, but for what the step does at the monitors.
pub record IsChanged (w : TopologyCore) (m : ℕ) (u : TopologyDescription) (n : Transition) : Type 0 where
  pub past : change_past w u ≡ None
  pub ordered : in_order u.servers ≡ true
  pub reply : n.reply ≡ Changed (is_some (difference w.description.servers u.servers))
  pub known : n.description ≡ Some u
  pub goes_on : n.stops ≡ false
  pub nothing : n.monitoring ≡ Same
  pub told : IsTold w.options m w.pools.cores.items (length w.pools.cores.items) u (publication w.options m w.description u) n.changes.items n.facts.items
  pub settings : map (λ x. x.setting) n.monitors.items ≡ map (λ x. setting w.options x.address) (opened_by n.changes.items)
  pub new : All (λ x. MonitorStands x []) n.monitors.items

-- It is refused by the limit that it would pass, or comes to what is told.
abbrev pub ChangesTo : TopologyCore → ℕ → TopologyDescription → Decision → Type 0
ChangesTo w m u (Refused why) = (what : What) × (why ≡ Exhausted what) × (change_past w u ≡ Some what)
ChangesTo w m u (Accepted n) = IsChanged w m u n
ChangesTo w m u (Repeated n s) = IsChanged w m u (with_place (Some s) w n)

-- A step is another one with what it does at the monitors, and the event of its check before its facts.
pub record IsWithCheck (y n : Transition) (monitoring : Monitoring) (event : SdamEvent) : Type 0 where
  pub others : n ≡ record y { facts = n.facts; monitoring = monitoring }
  pub facts : n.facts.items ≡ Sdam event ∷ y.facts.items

-- nothing changes
pub record IsUnchanged (n : Transition) : Type 0 where
  pub reply : n.reply ≡ Changed false
  pub facts : n.facts.items ≡ []
  pub changes : n.changes.items ≡ []
  pub known : n.description ≡ None
  pub monitors : n.monitors.items ≡ []
  pub goes_on : n.stops ≡ false

-- A change, or none.
abbrev pub ChangesIf : TopologyCore → ℕ → Option TopologyDescription → Decision → Type 0
ChangesIf w m (Some u) stepped = ChangesTo w m u stepped
ChangesIf w m None (Refused why) = ⊥
ChangesIf w m None (Accepted n) = IsUnchanged n
ChangesIf w m None (Repeated n s) = ⊥

-- a check that did not fail tells of no trouble
abbrev pub IsUntroubled : BeatenResult → Type 0
IsUntroubled (Beaten.Ok r more) = ⊤
IsUntroubled (Beaten.Err error) = ⊥
IsUntroubled (Beaten.Cancelled error) = ⊤

-- What is known with a description of a server, and nothing new where there is none.
abbrev pub known_with : TopologyCore → Option ServerDescription → Option TopologyDescription
known_with w None = None
known_with w (Some s) = Some (updated w.description s)

-- What the reply of a check makes known, where it has one and the driver was not stopped.
abbrev pub reply_known : TopologyCore → ServerAddress → ℕ → BeatenResult → Report → Option TopologyDescription
reply_known w a m (Beaten.Ok r more) (Update v average) = if w.stopped then None else Some (updated w.description (from_reply a (hello_reply a r) average m))
reply_known w a m came report = None

-- What a check that ended comes to, by what is known after it.
abbrev pub ConcludesAs : TopologyCore → ℕ → Monitoring → SdamEvent → Option TopologyDescription → Decision → Type 0
ConcludesAs w m monitoring event None (Refused why) = ⊥
ConcludesAs w m monitoring event None (Accepted n) = (y : Transition) × IsUnchanged y × IsWithCheck y n monitoring event
ConcludesAs w m monitoring event None (Repeated n s) = ⊥
ConcludesAs w m monitoring event (Some u) (Refused why) = ChangesTo w m u (Refused why)
ConcludesAs w m monitoring event (Some u) (Accepted n) = (y : Transition) × IsChanged w m u y × IsWithCheck y n monitoring event
ConcludesAs w m monitoring event (Some u) (Repeated n s) = (y : Transition) × IsChanged w m u y × IsWithCheck y (with_place (Some s) w n) monitoring event
