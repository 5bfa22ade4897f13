-- A round trip that was measured beside the checks.
use Rattle.std.proofs.Common.{ℕ, ◌≡◌, ◌≤◌, ◌+◌, true, false, List, [], ◌∷◌, Some, None, refl, sym, ◌∙◌, ap, subst, arith}
use Rattle.std.specs.Prelude.{slice_get}
use Rattle.mdb_base.specs.declared.address.ServerAddress.{ServerAddress}
use Rattle.mdb_base.specs.declared.options.Options.{Options}
use Rattle.mdb_events.specs.declared.fact.Fact.{Fact}
use Rattle.mdb_monitor.specs.declared.monitor.MonitorCore.{MonitorCore}
use Rattle.mdb_monitor.specs.Average.{mean}
use Rattle.mdb_monitor.specs.Items.{measured, since, samples}
use Rattle.mdb_monitor.specs.Standing.{StandsFor as MonitorStands}
use Rattle.mdb_log.specs.declared.step.Step.{Step}
use Rattle.mdb_log.specs.declared.step.Act.TheVariants.{Rtt}
use Rattle.mdb_log.specs.declared.reply.Reply.TheVariants.{Count, Changed, Done}
use Rattle.mdb_log.specs.declared.reply.Refused.TheVariants.{WrongMode}
use Rattle.mdb_log.specs.History.{Item, is_number, with_facts}
use Rattle.mdb_topology.specs.declared.topology.TopologyCore.{TopologyCore}
use Rattle.mdb_topology.specs.declared.transition.Transition.{Transition}
use Rattle.mdb_topology.specs.declared.monitors.monitoring.Monitoring.TheVariants.{Same, Checked}
use Rattle.mdb_driver_rules.specs.Homes.{is_here, begun}
use Rattle.mdb_driver_rules.specs.Monitors.{streams, monitor_items}
use Rattle.mdb_topology.specs.Checking.{Measures}
use Rattle.mdb_driver_rules.specs.Refusal.{refusal}
use Rattle.mdb_driver_rules.specs.Answer.{reply_to}
use Rattle.mdb_topology.specs.Standing.{StandsFor}
use Rattle.mdb_topology.specs.Stepping.{Follows}
use Rattle.mdb_driver_pools.specs.Standing.{is_here_among}
use Rattle.mdb_topology.proofs.OfMonitors.StepAtMonitor.{same-watches, checked-watches, monitor-kept, monitor-setting}
use Rattle.mdb_driver_rules.proofs.WhatItAdds.{rtt-items, rtt-others}
use Rattle.mdb_driver_rules.proofs.LeavesAsItIs.{monitor-facts}
use Rattle.mdb_driver_rules.proofs.SameHistories.{IsPlain}
use Rattle.mdb_topology.proofs.Publications.WhichSteps.{in-time, passes-time, unruled}
use Rattle.mdb_topology.proofs.OfMonitors.ChangesNoPool.{silent-calm, follows-watch}

module _ (w : TopologyCore) (h : List Item) (z : StandsFor w h) (m : ℕ) (l : w.pools.last ≤ m) (a : ServerAddress) (p d : ℕ) where
  abbrev o : Options
  o = w.options

  abbrev step : Step
  step = record { moment = m; act = Rtt a p d }

  here-is : is_here h a p ≡ is_here_among w.pools.cores.items a p
  here-is = ap (λ x. is_number x p) (z.pools.fit.open_are a)

  pub rtt-mode : o.load_balanced ≡ true → refusal o h step ≡ Some WrongMode
  rtt-mode e = rw (in-time w h z m l, e) refl

  module _ (mode : o.load_balanced ≡ false) (n : Transition) (changes : n.changes.items ≡ []) (none : n.monitors.items ≡ []) (known : n.description ≡ None) (goes_on : n.stops ≡ false) (facts : n.facts.items ≡ []) where
    -- the pool is not the open one of the address
    pub follows-away : is_here_among w.pools.cores.items a p ≡ false → n.monitoring ≡ Same → n.reply ≡ Changed false → Follows w n step h
    follows-away away e r =
        let gone : is_here h a p ≡ false = here-is ∙ away in
        follows-watch w h z step l n (subst IsPlain (sym r) tt) changes none known goes_on facts tt (silent-calm o h step refl (unruled w h z m l (Rtt a p d) refl)) (passes-time w h z m l (Rtt a p d) (rw mode refl)) (unruled w h z m l (Rtt a p d) refl)
        (λ fs. rw gone (sym r)) refl (same-watches w h z step n e refl refl (λ q. rw gone refl))

    pub follows-sample : is_here_among w.pools.cores.items a p ≡ true → (x y : MonitorCore) → slice_get w.monitors.items p ≡ Some x → (mine : ℕ) → Measures x y d mine
        → n.monitoring ≡ Checked p y w.fresh → n.reply ≡ Count mine → Follows w n step h
    follows-sample there x y at_p mine v e r =
        let here : is_here h a p ≡ true = here-is ∙ there in
        let own : MonitorStands x (monitor_items h p) = z.monitors.each p x at_p in
        let replied : (fs : List Fact) → reply_to o h step (with_facts m fs (begun h step)) (Rtt a p d) ≡ n.reply = λ fs.
        rw here (ap Count
        (ap (λ xs. mean (samples (streams o) (since xs))) (monitor-facts o m p fs (begun h step) ∙ rtt-items h a p m Done here d)
        ∙ (ap (λ s. mean (samples s.allow_streaming (measured d ∷ since (monitor_items h p)))) (sym (monitor-setting w h z a p here x at_p))
        ∙ sym (v.mean_is (monitor_items h p) own))) ∙ sym r) in
        follows-watch w h z step l n (subst IsPlain (sym r) tt) changes none known goes_on facts tt (silent-calm o h step refl (unruled w h z m l (Rtt a p d) refl)) (passes-time w h z m l (Rtt a p d) (rw mode refl)) (unruled w h z m l (Rtt a p d) refl)
        replied refl
        (checked-watches w h z step n p w.fresh x y at_p v.setting (monitor-kept w h z a p here) e (let f : w.fresh ≡ w.fresh + 0 = omega arith in f) refl
        (subst (MonitorStands y) (sym (rtt-items h a p m Done here d)) (v.stands (monitor_items h p) own)) (λ q ne. rtt-others h a p m Done here d q ne))
