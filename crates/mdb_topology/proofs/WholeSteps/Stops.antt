-- The step that stops a driver.
use Rattle.std.proofs.Common.{◌≡◌, ◌≤◌, Bool, true, false, List, [], ◌∷◌, ◌++◌, map, length, Option, Some, None, refl, sym, ◌∙◌, ap, subst, arith}
use Rattle.std.specs.Prelude.{unwrap_or, All}
use Rattle.mdb_base.specs.declared.options.Options.{Options}
use Rattle.mdb_describe.specs.declared.topology.TopologyDescription.{TopologyDescription}
use Rattle.mdb_describe.specs.declared.diff.Diff.{Diff}
use Rattle.mdb_describe.specs.Differences.{difference, missing}
use Rattle.mdb_describe.specs.Topology.{stopped}
use Rattle.mdb_describe.specs.Servers.{in_order}
use Rattle.mdb_events.specs.declared.fact.Fact.{Fact}
use Rattle.mdb_monitor.specs.Standing.{StandsFor as MonitorStands}
use Rattle.mdb_log.specs.declared.step.Step.{Step}
use Rattle.mdb_log.specs.declared.reply.Reply.{Reply}
use Rattle.mdb_log.specs.declared.reply.Reply.TheVariants.{Done}
use Rattle.mdb_log.specs.declared.step.Act.TheVariants.{Stop}
use Rattle.mdb_log.specs.History.{Item}
use Rattle.mdb_log.specs.Homes.{homes}
use Rattle.mdb_topology.specs.declared.topology.TopologyCore.{TopologyCore}
use Rattle.mdb_driver_pools.specs.declared.pool_change.PoolChange.{PoolChange}
use Rattle.mdb_topology.specs.declared.transition.Transition.{Transition}
use Rattle.mdb_topology.specs.declared.monitors.monitoring.Monitoring.TheVariants.{Same}
use Rattle.mdb_driver_rules.specs.Homes.{begun}
use Rattle.mdb_driver_rules.specs.Limits.{past_last}
use Rattle.mdb_driver_rules.specs.Monitors.{setting}
use Rattle.mdb_driver_pools.specs.Planned.{opened_by}
use Rattle.mdb_driver_rules.specs.Publishing.{telling, publication, topology_closed, topology_closed_fact}
use Rattle.mdb_driver_rules.specs.Refusal.{first_past, sooner}
use Rattle.mdb_driver_rules.specs.Turns.{in_turn}
use Rattle.mdb_topology.specs.Standing.{StandsFor}
use Rattle.mdb_topology.specs.Stepping.{Follows}
use Rattle.mdb_topology.specs.Changing.{IsChanging, IsTold}
use Rattle.mdb_topology.proofs.WholeSteps.TopologyStep.{follows}
use Rattle.mdb_topology.proofs.Publications.OfDifference.{closed-told}
use Rattle.mdb_driver_rules.proofs.LeavesAsItIs.{turn-append}
use Rattle.mdb_driver_rules.proofs.FactsPastLimits.{past-append}
use Rattle.mdb_driver_rules.proofs.PoolsPastLimits.{telling-past}
use Rattle.mdb_driver_rules.proofs.ServersThen.{of-difference}
use Rattle.mdb_topology.proofs.Publications.WhichSteps.{stop-changing}
use Rattle.mdb_driver_rules.proofs.SameHistories.{IsPlain}

-- the same change with an equal next
pub as-next : {o : Options} {h : List Item} {t : TopologyDescription} {next later : Option TopologyDescription} {step : Step} {reply told : Reply} {stops ends : Bool} {parts : List (List Item → List Fact)}
    → IsChanging o h t next step reply stops parts → later ≡ next → told ≡ reply → ends ≡ stops → IsChanging o h t later step told ends parts
as-next c e f g = record { act = c.act; calm = c.calm; passes = c.passes; known = c.known ∙ sym e; tells = c.tells; replies = λ z. c.replies z ∙ sym f; stop = c.stop ∙ sym g }

-- The stop: everything that was known goes, and at last the topology is closed.
module _ (w : TopologyCore) (h : List Item) (z : StandsFor w h) (step : Step) (l : w.pools.last ≤ step.moment) (act : step.act ≡ Stop) (goes_on : w.stopped ≡ false)
    (u : TopologyDescription) (is_u : u ≡ stopped w.description) (d : Option Diff) (differs : difference w.description.servers u.servers ≡ d) where
  abbrev parts-of : List (List Item → List Fact)
  parts-of = telling w.options step.moment w.description u d

  stopping : IsChanging w.options h w.description (Some u) step Done true (parts-of ++ topology_closed w.options ∷ [])
  stopping =
      subst (λ v. IsChanging w.options h w.description (Some u) step Done true (telling w.options step.moment w.description u v ++ topology_closed w.options ∷ [])) differs
      (subst (λ v. IsChanging w.options h w.description (Some v) step Done true (publication w.options step.moment w.description v ++ topology_closed w.options ∷ [])) (sym is_u)
      (subst (λ a. IsChanging w.options h w.description (Some (stopped w.description)) (record { moment = step.moment; act = a }) Done true (publication w.options step.moment w.description (stopped w.description) ++ topology_closed w.options ∷ [])) (sym act)
      (stop-changing w h z step.moment l goes_on)))

  none-added : (x : Option Diff) → difference w.description.servers u.servers ≡ x → first_past w.options step.moment (begun h step) (in_turn step.moment (telling w.options step.moment w.description u x) (begun h step)) ≡ None
  none-added None e = refl
  none-added (Some x) e =
      let gone : missing u.servers w.description.servers ≡ [] = ap (λ (v : TopologyDescription). missing v.servers w.description.servers) is_u in
      let added : x.added ≡ [] = ap (λ (y : Diff). y.added) (sym (of-difference _ x e)) ∙ gone in
      telling-past w.options step.moment w.description u x (begun h step) ∙ ap (past_last w.options (length (homes (begun h step)))) added

  spare-all : first_past w.options step.moment (begun h step) (in_turn step.moment (parts-of ++ topology_closed w.options ∷ []) (begun h step)) ≡ None
  spare-all =
      let k : List Item = begun h step in
      let first : List Fact = in_turn step.moment parts-of k in
      ap (first_past w.options step.moment k) (turn-append step.moment parts-of (topology_closed w.options ∷ []) k)
      ∙ (past-append w.options step.moment k first _ ∙ ap (λ x. sooner x None) (none-added d differs))

  pub stops-next : (changes : List PoolChange) (facts : List Fact) → IsTold w.options step.moment w.pools.cores.items (length w.pools.cores.items) u parts-of changes facts
      → (next : Transition) → next.reply ≡ Done → next.description ≡ Some u → next.stops ≡ true → next.changes.items ≡ changes → next.facts.items ≡ facts ++ topology_closed_fact w.options ∷ [] → in_order u.servers ≡ true
      → map (λ x. x.setting) next.monitors.items ≡ map (λ x. setting w.options x.address) (opened_by next.changes.items) → All (λ x. MonitorStands x []) next.monitors.items → next.monitoring ≡ Same → Follows w next step h
  stops-next changes facts told next reply described ends cs fs ordered settings new nothing =
      let v : unwrap_or next.description w.description ≡ u = ap (λ x. unwrap_or x w.description) described in
      let few : length u.servers ≤ 128 = subst (λ x. length x.servers ≤ 128) (sym is_u) (omega arith) in
      follows w h z step l next (subst IsPlain (sym reply) tt) (parts-of ++ topology_closed w.options ∷ []) (as-next stopping described reply ends)
      (rw (v, cs, fs) (closed-told w (h, z) step.moment u parts-of changes facts told))
      (subst (λ x. in_order x.servers ≡ true) (sym v) ordered) (subst (λ x. length x.servers ≤ 128) (sym v) few) settings new nothing spare-all
