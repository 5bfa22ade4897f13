-- A watcher asks for a check, or no longer does.
use Rattle.std.proofs.Common.{ℕ, ◌≡◌, ◌≤◌, List, [], length, None, false, refl, sym, ◌∙◌, ap, subst}
use Rattle.mdb_monitor.specs.Asking.{wanted, unwanted}
use Rattle.mdb_log.specs.declared.step.Step.{Step}
use Rattle.mdb_log.specs.declared.step.Act.{Act}
use Rattle.mdb_log.specs.declared.step.Act.TheVariants.{Want, Unwant}
use Rattle.mdb_log.specs.declared.reply.Reply.TheVariants.{Count}
use Rattle.mdb_log.specs.History.{Item, with_facts}
use Rattle.mdb_events.specs.declared.fact.Fact.{Fact}
use Rattle.mdb_topology.specs.declared.topology.TopologyCore.{TopologyCore}
use Rattle.mdb_topology.specs.declared.transition.Transition.{Transition}
use Rattle.mdb_topology.specs.declared.monitors.monitoring.Monitoring.TheVariants.{Asked}
use Rattle.mdb_driver_rules.specs.Homes.{begun}
use Rattle.mdb_driver_rules.specs.Monitors.{asking, check_count}
use Rattle.mdb_topology.specs.Standing.{StandsFor}
use Rattle.mdb_topology.specs.Stepping.{Follows}
use Rattle.mdb_topology.proofs.OfMonitors.StepAtMonitor.{asked-watches}
use Rattle.mdb_driver_rules.proofs.LeavesAsItIs.{watchers-facts}
use Rattle.mdb_driver_rules.proofs.SameHistories.{IsPlain}
use Rattle.mdb_topology.proofs.Publications.WhichSteps.{passes-time, unruled}
use Rattle.mdb_topology.proofs.OfMonitors.ChangesNoPool.{silent-calm, follows-watch}

module _ (w : TopologyCore) (h : List Item) (z : StandsFor w h) (m : ℕ) (l : w.pools.last ≤ m) (x : ℕ)
    (n : Transition) (changes : n.changes.items ≡ []) (none : n.monitors.items ≡ []) (known : n.description ≡ None) (goes_on : n.stops ≡ false) (facts : n.facts.items ≡ []) where
  abbrev at_m : Act → Step
  at_m act = record { moment = m; act = act }

  -- the watchers after it are counted
  counts-asking : (act : Act) (fs : List Fact) → Count (check_count (with_facts m fs (begun h (at_m act)))) ≡ Count (length (asking act w.watchers))
  counts-asking act fs = ap (λ ws. Count (length ws)) (watchers-facts w.options m fs (begun h (at_m act)) ∙ ap (asking act) z.counts.watchers_are)

  pub follows-want : n.monitoring ≡ Asked (wanted x w.watchers) → n.reply ≡ Count (length (wanted x w.watchers)) → Follows w n (at_m (Want x)) h
  follows-want e r =
      follows-watch w h z (at_m (Want x)) l n (subst IsPlain (sym r) tt) changes none known goes_on facts tt (silent-calm w.options h (at_m (Want x)) refl (unruled w h z m l (Want x) refl)) (passes-time w h z m l (Want x) refl) (unruled w h z m l (Want x) refl)
      (λ fs. counts-asking (Want x) fs ∙ sym r) refl (asked-watches w h z (at_m (Want x)) n (wanted x w.watchers) e refl refl (λ p. refl))

  pub follows-unwant : n.monitoring ≡ Asked (unwanted x w.watchers) → n.reply ≡ Count (length (unwanted x w.watchers)) → Follows w n (at_m (Unwant x)) h
  follows-unwant e r =
      follows-watch w h z (at_m (Unwant x)) l n (subst IsPlain (sym r) tt) changes none known goes_on facts tt (silent-calm w.options h (at_m (Unwant x)) refl (unruled w h z m l (Unwant x) refl)) (passes-time w h z m l (Unwant x) refl) (unruled w h z m l (Unwant x) refl)
      (λ fs. counts-asking (Unwant x) fs ∙ sym r) refl (asked-watches w h z (at_m (Unwant x)) n (unwanted x w.watchers) e refl refl (λ p. refl))
