-- A step at the monitors, or of a watcher, that changes no pool and makes nothing known.
use Rattle.std.proofs.Common.{ℕ, ◌≡◌, ◌≤◌, ◌+◌, ◌||◌, true, false, List, [], ◌∷◌, ◌++◌, map, length, Some, None, is_some, refl, sym, ◌∙◌, ap, subst, append-nil}
use Rattle.std.specs.Prelude.{slice_get, unwrap_or, All}
use Rattle.std.proofs.lemmas.List.Elements.{All-nil}
use Rattle.mdb_base.specs.declared.options.Options.{Options}
use Rattle.mdb_describe.specs.Servers.{in_order}
use Rattle.mdb_events.specs.declared.fact.Fact.{Fact}
use Rattle.mdb_monitor.specs.declared.monitor.MonitorCore.{MonitorCore}
use Rattle.mdb_monitor.specs.Items.{MonitorItem}
use Rattle.mdb_monitor.specs.Standing.{StandsFor as MonitorStands}
use Rattle.mdb_log.specs.declared.step.Step.{Step}
use Rattle.mdb_log.specs.Connections.{one_if}
use Rattle.mdb_log.specs.History.{Item, did, with_facts}
use Rattle.mdb_log.specs.Homes.{homes}
use Rattle.mdb_pool.specs.Core.{PoolCore}
use Rattle.mdb_topology.specs.declared.topology.TopologyCore.{TopologyCore}
use Rattle.mdb_topology.specs.declared.transition.Transition.{Transition}
use Rattle.mdb_driver_rules.specs.Homes.{begun}
use Rattle.mdb_driver_rules.specs.Monitors.{setting, heartbeat, is_of, fresh_for, with_check, monitor_items, connects, asking}
use Rattle.mdb_driver_rules.specs.Description.{rule_after, description_of, change_by, is_stop, known_after}
use Rattle.mdb_driver_rules.specs.Facts.{trouble}
use Rattle.mdb_topology.specs.Marking.{spoken}
use Rattle.mdb_driver_rules.specs.Refusal.{first_refusal, first_past}
use Rattle.mdb_driver_rules.specs.Answer.{reply_to}
use Rattle.mdb_driver_rules.specs.Turns.{in_turn}
use Rattle.mdb_driver_pools.specs.Planned.{opened_by}
use Rattle.mdb_topology.specs.Checking.{monitors_after, numbers_after, watchers_after, IsPlaced}
use Rattle.mdb_topology.specs.Standing.{MonitorsFit, Counts, StandsFor}
use Rattle.mdb_topology.specs.Stepping.{Follows}
use Rattle.mdb_topology.specs.Changing.{IsTold}
use Rattle.mdb_topology.proofs.Marks.WhichSteps.{all_parts}
use Rattle.mdb_topology.proofs.WholeSteps.TopologyStep.{follows-said}
use Rattle.mdb_topology.proofs.WholeSteps.QuietStep.{told-nothing}
use Rattle.mdb_topology.proofs.OfMonitors.FactsOfCheck.{heartbeat-calm, told-front, told-as}
use Rattle.mdb_driver_rules.proofs.LeavesAsItIs.{monitor-facts}
use Rattle.mdb_driver_rules.proofs.SameHistories.{IsOutside, IsPlain}
use Rattle.mdb_topology.proofs.WholeSteps.CheckThenRule.{said}
use Rattle.mdb_topology.proofs.OfMonitors.LeftAlone.{counts-then, monitors-then}

-- a step without rule or trouble tells nothing
pub silent-calm : (o : Options) (h : List Item) (step : Step) → trouble o h step ≡ None → rule_after o h step ≡ None → (k : List Item) → in_turn step.moment (spoken o h step) k ≡ []
silent-calm o h step calm ruled k =
    ap (λ r. in_turn step.moment (all_parts o step.moment r (description_of o h) (trouble o h step) (is_some (change_by r (description_of o h)))) k) ruled
    ∙ ap (λ x. in_turn step.moment (all_parts o step.moment None (description_of o h) x false) k) calm

-- what was done at the monitor of a pool, with an act
abbrev pub items_with : List Item → Step → ℕ → List MonitorItem
items_with h step p = with_check (is_of h p) (fresh_for h p) step.act (monitor_items h p)

-- What the step does at the monitors is what the act says.
pub record Watches (w : TopologyCore) (h : List Item) (step : Step) (n : Transition) : Type 0 where
  pub placed : IsPlaced n.monitoring w.monitors.kept
  pub numbers : numbers_after n.monitoring w.fresh ≡ w.fresh + one_if (connects h step.act)
  pub watchers : watchers_after n.monitoring w.watchers ≡ asking step.act w.watchers
  pub settings : map (λ x. x.setting) (monitors_after n.monitoring w.monitors.items) ≡ map (λ x. x.setting) w.monitors.items
  pub each : (p : ℕ) (x : MonitorCore) → slice_get (monitors_after n.monitoring w.monitors.items) p ≡ Some x → MonitorStands x (items_with h step p)
  pub rest : (p : ℕ) → slice_get (monitors_after n.monitoring w.monitors.items) p ≡ None → items_with h step p ≡ []

module _ (w : TopologyCore) (h : List Item) (z : StandsFor w h) (step : Step) (n : Transition) (v : Watches w h step n) where
  abbrev k : List Item
  k = with_facts step.moment n.facts.items (did step n.reply ∷ h)

  items-are : (p : ℕ) → monitor_items k p ≡ items_with h step p
  items-are p = monitor-facts w.options step.moment p n.facts.items (did step n.reply ∷ h)

  pub watched-fit : map (λ x. x.setting) n.monitors.items ≡ map (λ x. setting w.options x.address) (opened_by n.changes.items) → All (λ x. MonitorStands x []) n.monitors.items
      → homes k ≡ homes h ++ opened_by n.changes.items → MonitorsFit w.options (monitors_after n.monitoring w.monitors.items ++ n.monitors.items) k
  watched-fit settings new homes_are =
      monitors-then w.options h k (monitors_after n.monitoring w.monitors.items) n.monitors.items (opened_by n.changes.items) (v.settings ∙ z.monitors.settings)
      (λ p x at. subst (MonitorStands x) (sym (items-are p)) (v.each p x at)) (λ p e. items-are p ∙ v.rest p e) homes_are settings new

  pub watched-counts : n.stops ≡ is_stop step.act → Counts w.options step.moment (w.published + one_if (is_some (rule_after w.options h step))) (numbers_after n.monitoring w.fresh) (n.stops || w.stopped) (watchers_after n.monitoring w.watchers) k
  watched-counts ends = rw (v.numbers, v.watchers, ends) (counts-then w.options h step.moment step.act n.reply n.facts.items w.pools.last w.published w.fresh w.stopped w.watchers z.counts)

module _ (w : TopologyCore) (h : List Item) (z : StandsFor w h) (step : Step) (l : w.pools.last ≤ step.moment) (n : Transition) (plain : IsPlain n.reply) where
  abbrev o : Options
  o = w.options

  abbrev m : ℕ
  m = step.moment

  abbrev pools : List PoolCore
  pools = w.pools.cores.items

  abbrev beats : List Fact
  beats = heartbeat o h step.act

  module _ (changes : n.changes.items ≡ []) (none : n.monitors.items ≡ []) (known : n.description ≡ None) (goes_on : n.stops ≡ is_stop step.act) (facts : n.facts.items ≡ heartbeat o h step.act)
      (out : IsOutside step.act) (silent : (k : List Item) → in_turn m (spoken o h step) k ≡ []) (passes : first_refusal o h step ≡ None) (ruled : rule_after o h step ≡ None)
      (replies : (fs : List Fact) → reply_to o h step (with_facts m fs (begun h step)) step.act ≡ n.reply) (spare : first_past o m (begun h step) (heartbeat o h step.act) ≡ None) (v : Watches w h step n) where
    same-known : unwrap_or n.description w.description ≡ w.description
    same-known = ap (λ x. unwrap_or x w.description) known

    said-beats : (j : List Item) → in_turn m (said o h m step.act) j ≡ in_turn m ((λ k. beats) ∷ []) j
    said-beats j = ap (λ fs. beats ++ fs) (silent (with_facts m beats j))

    told-beats : IsTold o m pools (length pools) (unwrap_or n.description w.description) ((λ k. beats) ∷ []) [] beats
    told-beats =
        subst (IsTold o m pools (length pools) (unwrap_or n.description w.description) ((λ k. beats) ∷ []) []) (append-nil beats)
        (told-front o m beats (heartbeat-calm o h step.act) pools (length pools) (unwrap_or n.description w.description) [] [] [] (told-nothing w h z m (unwrap_or n.description w.description) (ap (λ t. t.servers) same-known)))

    told : IsTold o m pools (length pools) (unwrap_or n.description w.description) (said o h m step.act) n.changes.items n.facts.items
    told =
        told-as o m pools (length pools) (unwrap_or n.description w.description) ((λ k. beats) ∷ []) (said o h m step.act) n.changes.items n.facts.items said-beats
        (subst (λ cs. IsTold o m pools (length pools) (unwrap_or n.description w.description) ((λ k. beats) ∷ []) cs n.facts.items) (sym changes)
        (subst (IsTold o m pools (length pools) (unwrap_or n.description w.description) ((λ k. beats) ∷ []) []) (sym facts) told-beats))

    spare-all : first_past o m (begun h step) (in_turn m (said o h m step.act) (begun h step)) ≡ None
    spare-all = ap (first_past o m (begun h step)) (said-beats (begun h step) ∙ append-nil beats) ∙ spare

    pub follows-watch : Follows w n step h
    follows-watch =
        follows-said w h z step l n plain out passes (ap (λ r. known_after r w.description) ruled ∙ sym known) replies told
        (subst (λ t. in_order t.servers ≡ true) (sym same-known) z.described.ordered) (subst (λ t. length t.servers ≤ 128) (sym same-known) z.described.few)
        (rw (none, changes) refl) v.placed
        (watched-fit w h z step n v (rw (none, changes) refl) (subst (All (λ x. MonitorStands x [])) (sym none) (All-nil (λ x. MonitorStands x []))))
        (watched-counts w h z step n v goes_on) spare-all
