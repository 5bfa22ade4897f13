-- A check that ends by a reply, or is cancelled.
use Rattle.std.proofs.Common.{ℕ, ◌≡◌, ◌≤◌, ◌+◌, ◌||◌, Bool, true, false, if◌then◌else◌, List, [], ◌∷◌, ◌++◌, Option, Some, None, is_some, refl, sym, ◌∙◌, ap, subst, arith}
use Rattle.std.specs.Prelude.{slice_get}
use Rattle.std.proofs.lemmas.Option.{same_Some}
use Rattle.mdb_base.specs.declared.address.ServerAddress.{ServerAddress}
use Rattle.mdb_base.specs.declared.options.Options.{Options}
use Rattle.mdb_describe.specs.declared.topology.TopologyDescription.{TopologyDescription}
use Rattle.mdb_describe.specs.Descriptions.{from_reply}
use Rattle.mdb_describe.specs.Differences.{difference}
use Rattle.mdb_describe.specs.Update.{updated}
use Rattle.mdb_events.specs.declared.fact.Fact.TheVariants.{Sdam}
use Rattle.mdb_hello.specs.declared.response.HelloCommandResponse.{HelloCommandResponse}
use Rattle.mdb_monitor.specs.declared.monitor.MonitorCore.{MonitorCore}
use Rattle.mdb_monitor.specs.declared.check.CheckResult.TheVariants as Check
use Rattle.mdb_monitor.specs.declared.check.Finish.{Finish}
use Rattle.mdb_monitor.specs.Average.{mean}
use Rattle.mdb_monitor.specs.Endings.{finish_row, report_of}
use Rattle.mdb_monitor.specs.declared.check.Report.{Report}
use Rattle.mdb_describe.specs.declared.description.ServerDescription.{ServerDescription}
use Rattle.mdb_topology.specs.declared.transition.Decision.{Decision}
use Rattle.mdb_topology.specs.declared.transition.Decision.TheVariants.{Refused, Accepted, Repeated}
use Rattle.mdb_monitor.specs.Items.{ended, samples}
use Rattle.mdb_monitor.specs.Standing.{StandsFor as MonitorStands}
use Rattle.mdb_log.specs.declared.checked.BeatenResult.{BeatenResult}
use Rattle.mdb_log.specs.declared.checked.BeatenResult.TheVariants.{Ok, Err, Cancelled}
use Rattle.mdb_log.specs.declared.step.Step.{Step}
use Rattle.mdb_log.specs.declared.step.Act.{Act}
use Rattle.mdb_log.specs.declared.step.Act.TheVariants.{Beaten}
use Rattle.mdb_log.specs.declared.reply.Reply.TheVariants.{Changed, Done}
use Rattle.mdb_log.specs.declared.reply.Refused.TheVariants.{NotChecking, WrongMode, Exhausted}
use Rattle.mdb_log.specs.declared.reply.What.{What}
use Rattle.mdb_log.specs.History.{Item, is_number}
use Rattle.mdb_topology.specs.declared.topology.TopologyCore.{TopologyCore}
use Rattle.mdb_topology.specs.declared.transition.Transition.{Transition}
use Rattle.mdb_topology.specs.declared.monitors.monitoring.Monitoring.{Monitoring}
use Rattle.mdb_topology.specs.declared.monitors.monitoring.Monitoring.TheVariants.{Same, Checked}
use Rattle.mdb_events.specs.declared.sdam.SdamEvent.{SdamEvent}
use Rattle.mdb_driver_rules.specs.Homes.{is_here, begun}
use Rattle.mdb_driver_rules.specs.Monitors.{hello_reply, check_result, setting, streams, recent, average, runs, heartbeat, end_event, monitor_items}
use Rattle.mdb_driver_rules.specs.Description.{updates, replied_rule, rule_after, description_of, change_by, changed, known_after}
use Rattle.mdb_driver_rules.specs.Facts.{trouble, clear_of, is_clear}
use Rattle.mdb_driver_rules.specs.Publishing.{told_by, publication}
use Rattle.mdb_driver_rules.specs.Refusal.{first_refusal, refusal, may_want}
use Rattle.mdb_topology.specs.Checking.{Ends}
use Rattle.mdb_topology.specs.Changing.{IsChanged, change_past, reply_known, ChangesIf, ConcludesAs, IsWithCheck, IsUntroubled}
use Rattle.mdb_topology.specs.Standing.{StandsFor}
use Rattle.mdb_topology.specs.Stepping.{with_place, Follows, BecomesOf}
use Rattle.mdb_driver_pools.specs.Standing.{is_here_among}
use Rattle.mdb_topology.proofs.OfMonitors.StepAtMonitor.{same-watches, checked-watches, monitor-kept, monitor-setting}
use Rattle.mdb_driver_rules.proofs.WhatItAdds.{beaten-items, beaten-others, reply-average}
use Rattle.mdb_driver_rules.proofs.NumbersWithinLimits.{take_numbers, first-free}
use Rattle.mdb_topology.proofs.Publications.BecomesKnown.{MakesKnown, refused-change, follows-change}
use Rattle.mdb_driver_rules.proofs.SameHistories.{IsPlain}
use Rattle.mdb_topology.proofs.Publications.WhichSteps.{in-time, passes-time, unruled, unchanged, rule-stopped, rule-unstopped}
use Rattle.mdb_topology.proofs.WholeSteps.ComesBeforeMemory.{untroubled-wants}
use Rattle.mdb_topology.proofs.OfMonitors.ChangesNoPool.{Watches, silent-calm, follows-watch}

some-none : {T : Type 0} {C : Type 0} {x : T} → Some x ≡ None → C
some-none e = cc

or-none : (b : Bool) → b || false ≡ b
or-none true = refl
or-none false = refl

-- a change, or none, with what is done at the monitors
pub with-check-concludes : (w : TopologyCore) (m : ℕ) (monitoring : Monitoring) (event : SdamEvent) (later : Option TopologyDescription) (y n : Transition) → ChangesIf w m later (Accepted y) → IsWithCheck y n monitoring event → ConcludesAs w m monitoring event later (Accepted n)
with-check-concludes w m monitoring event None y n r e = (y, r, e)
with-check-concludes w m monitoring event (Some u) y n r e = (y, r, e)

pub with-check-repeats : (w : TopologyCore) (m : ℕ) (monitoring : Monitoring) (event : SdamEvent) (later : Option TopologyDescription) (y n : Transition) (s : ServerDescription) → ChangesIf w m later (Repeated y s) → IsWithCheck y n monitoring event → ConcludesAs w m monitoring event later (Repeated n s)
with-check-repeats w m monitoring event None y n s r e = absurd r
with-check-repeats w m monitoring event (Some u) y n s r e = (with_place (Some s) w y, r, record { others = ap (with_place (Some s) w) e.others; facts = e.facts })

module _ (w : TopologyCore) (h : List Item) (z : StandsFor w h) (m : ℕ) (l : w.pools.last ≤ m) (a : ServerAddress) (p d : ℕ) where
  abbrev o : Options
  o = w.options

  abbrev act-of : BeatenResult → Act
  act-of came = Beaten a p d came

  abbrev step-of : BeatenResult → Step
  step-of came = record { moment = m; act = Beaten a p d came }

  here-is : is_here h a p ≡ is_here_among w.pools.cores.items a p
  here-is = ap (λ x. is_number x p) (z.pools.fit.open_are a)

  calm : (came : BeatenResult) → IsUntroubled came → trouble o h (step-of came) ≡ None
  calm (Ok r more) c = refl
  calm (Err error) c = absurd c
  calm (Cancelled error) c = refl

  -- The pool is not the open one of the address.
  module _ (came : BeatenResult) (away : is_here_among w.pools.cores.items a p ≡ false) where
    gone : is_here h a p ≡ false
    gone = here-is ∙ away

    pub beaten-away-mode : o.load_balanced ≡ true → refusal o h (step-of came) ≡ Some WrongMode
    beaten-away-mode e = rw (in-time w h z m l, gone, e) refl

    calm-away : (came : BeatenResult) → trouble o h (step-of came) ≡ None
    calm-away (Ok r more) = refl
    calm-away (Err error) = rw gone refl
    calm-away (Cancelled error) = refl

    ruled-away : (came : BeatenResult) → rule_after o h (step-of came) ≡ None
    ruled-away (Ok r more) = unruled w h z m l (act-of (Ok r more)) (rw gone refl)
    ruled-away (Err error) = unruled w h z m l (act-of (Err error)) (rw gone refl)
    ruled-away (Cancelled error) = unruled w h z m l (act-of (Cancelled error)) refl

    pub follows-beaten-away : o.load_balanced ≡ false → (n : Transition) → n.changes.items ≡ [] → n.monitors.items ≡ [] → n.description ≡ None → n.stops ≡ false → n.facts.items ≡ [] → n.monitoring ≡ Same → n.reply ≡ Changed false
        → Follows w n (step-of came) h
    follows-beaten-away mode n changes none known goes_on facts e r =
        let quiet : heartbeat o h (act-of came) ≡ [] = rw gone refl in
        let ruled : rule_after o h (step-of came) ≡ None = ruled-away came in
        follows-watch w h z (step-of came) l n (subst IsPlain (sym r) tt) changes none known goes_on (facts ∙ sym quiet) tt (silent-calm o h (step-of came) (calm-away came) ruled) (passes-time w h z m l (act-of came) (rw (gone, mode) refl)) ruled
        (λ fs. unchanged w h z m l (act-of came) (calm-away came) ruled ∙ sym r) (rw gone refl) (same-watches w h z (step-of came) n e refl refl (λ q. rw gone refl))

  -- The pool is the open one of the address.
  module _ (there : is_here_among w.pools.cores.items a p ≡ true) (came : BeatenResult) where
    here : is_here h a p ≡ true
    here = here-is ∙ there

    pub beaten-idle : runs h p ≡ false → refusal o h (step-of came) ≡ Some NotChecking
    beaten-idle e = rw (in-time w h z m l, here, e) refl

    module _ (running : runs h p ≡ true) where
      pub beaten-mode : o.load_balanced ≡ true → refusal o h (step-of came) ≡ Some WrongMode
      beaten-mode e = rw (in-time w h z m l, here, running, e) refl

      pub passes : o.load_balanced ≡ false → first_refusal o h (step-of came) ≡ None
      passes mode = passes-time w h z m l (act-of came) (rw (here, running, mode) refl)

      -- its event takes no number
      ends-free : (r : BeatenResult) → take_numbers (heartbeat o h (act-of r)) ≡ false
      ends-free r = rw here (on r)
        where
          on : (r : BeatenResult) → take_numbers (Sdam (end_event o (recent h p) a d r) ∷ []) ≡ false
          on (Ok r more) = refl
          on (Err error) = refl
          on (Cancelled error) = refl

      pub free : take_numbers (heartbeat o h (act-of came)) ≡ false
      free = ends-free came

      -- a check that did not fail clears nothing
      pub ended-wants : o.load_balanced ≡ false → IsUntroubled came → may_want o h (step-of came) ≡ true
      ended-wants mode untroubled = untroubled-wants w h z (act-of came) m tt (calm came untroubled) (passes mode) free refl

      module _ (mode : o.load_balanced ≡ false) (x y : MonitorCore) (f : Finish) (at_p : slice_get w.monitors.items p ≡ Some x) (ends : Ends x y d (check_result a came) f) where
        finish-is : f ≡ finish_row (setting o a) (recent h p) d (check_result a came) false
        finish-is = ends.finish (monitor_items h p) (z.monitors.each p x at_p) ∙ ap (λ s. finish_row s (recent h p) d (check_result a came) false) (monitor-setting w h z a p here x at_p)

        pub beats-are : heartbeat o h (act-of came) ≡ Sdam f.event ∷ []
        beats-are = rw here (ap (λ v. Sdam v.event ∷ []) (sym finish-is))

        pub watches : (n : Transition) → n.monitoring ≡ Checked p y w.fresh → Watches w h (step-of came) n
        watches n e =
            checked-watches w h z (step-of came) n p w.fresh x y at_p ends.setting (monitor-kept w h z a p here) e (let s : w.fresh ≡ w.fresh + 0 = omega arith in s) refl
            (subst (MonitorStands y) (sym (beaten-items h a p m Done here d came)) (ends.stands (monitor_items h p) (z.monitors.each p x at_p))) (λ q ne. beaten-others h a p m Done here d came q ne)

        -- nothing is made known
        pub follows-ended : IsUntroubled came → rule_after o h (step-of came) ≡ None → (n : Transition) → n.changes.items ≡ [] → n.monitors.items ≡ [] → n.description ≡ None → n.stops ≡ false → n.facts.items ≡ Sdam f.event ∷ []
            → n.monitoring ≡ Checked p y w.fresh → n.reply ≡ Changed false → Follows w n (step-of came) h
        follows-ended untroubled ruled n changes none known goes_on facts e r =
            follows-watch w h z (step-of came) l n (subst IsPlain (sym r) tt) changes none known goes_on (facts ∙ sym beats-are) tt (silent-calm o h (step-of came) (calm came untroubled) ruled) (passes mode) ruled
            (λ fs. unchanged w h z m l (act-of came) (calm came untroubled) ruled ∙ sym r) (first-free o m (begun h (step-of came)) (heartbeat o h (act-of came)) free) (watches n e)

        -- the reply makes u known
        module _ (u : TopologyDescription) (c : MakesKnown w h (step-of came) u) where
          pub refused-replied : (what : What) → change_past w u ≡ Some what → refusal o h (step-of came) ≡ Some (Exhausted what)
          refused-replied what e = refused-change w h z (step-of came) u c what e

          pub follows-replied : (y0 n : Transition) → IsChanged w m u y0 → n.reply ≡ y0.reply → n.changes ≡ y0.changes → n.description ≡ y0.description → n.monitors ≡ y0.monitors → n.stops ≡ y0.stops
              → n.facts.items ≡ Sdam f.event ∷ y0.facts.items → n.monitoring ≡ Checked p y w.fresh → Follows w n (step-of came) h
          follows-replied y0 n r reply changes known monitors stops facts e =
              follows-change w h z (step-of came) u c l y0 n r reply changes known monitors stops (facts ∙ ap (λ fs. fs ++ y0.facts.items) (sym beats-are)) (watches n e)

        -- what it makes known
        abbrev reported : BeatenResult → Report
        reported r = report_of (mean (samples (streams o) (ended d (check_result a r) ∷ recent h p))) (check_result a r)

        report-is : f.report ≡ reported came
        report-is = ap (λ v. v.report) finish-is

        -- the server as the reply describes it
        abbrev server-of : HelloCommandResponse → Bool → ServerDescription
        server-of r more = from_reply a (hello_reply a r) (mean (samples (streams o) (ended d (Check.Ok (hello_reply a r) more) ∷ recent h p))) m

        ruled-none : (r : BeatenResult) → IsUntroubled r → reply_known w a m r (reported r) ≡ None → rule_after o h (step-of r) ≡ None
        ruled-none (Ok r more) c e = on w.stopped refl
          where
            on : (b : Bool) → w.stopped ≡ b → rule_after o h (step-of (Ok r more)) ≡ None
            on true f = rule-stopped w h z m l (act-of (Ok r more)) f
            on false f = some-none (sym (ap (λ b. if b then None else Some (updated w.description (server-of r more))) f) ∙ e)
        ruled-none (Err error) c e = absurd c
        ruled-none (Cancelled error) c e = unruled w h z m l (act-of (Cancelled error)) refl

        ruled-some : (r : BeatenResult) → IsUntroubled r → first_refusal o h (step-of r) ≡ None → (u : TopologyDescription) → reply_known w a m r (reported r) ≡ Some u → MakesKnown w h (step-of r) u
        ruled-some (Ok r more) c pass u e = on w.stopped refl
          where
            on : (b : Bool) → w.stopped ≡ b → MakesKnown w h (step-of (Ok r more)) u
            on true f = some-none (sym e ∙ ap (λ b. if b then None else Some (updated w.description (server-of r more))) f)
            on false f =
                let known : Some (updated w.description (server-of r more)) ≡ Some u = sym (ap (λ b. if b then None else Some (updated w.description (server-of r more))) f) ∙ e in
                let is_u : updated w.description (server-of r more) ≡ u = same_Some (updated w.description (server-of r more)) u known in
                let own : average o (begun h (step-of (Ok r more))) p ≡ mean (samples (streams o) (ended d (Check.Ok (hello_reply a r) more) ∷ recent h p)) = reply-average h a p m Done here o d r more in
                let at_own : replied_rule (begun h (step-of (Ok r more))) a p (from_reply a (hello_reply a r) (average o (begun h (step-of (Ok r more))) p) m) ≡ Some (updates (server-of r more)) =
                ap (λ v. replied_rule (begun h (step-of (Ok r more))) a p (from_reply a (hello_reply a r) v m)) own ∙ ap (λ b. if b then Some (updates (server-of r more)) else None) here in
                let ruled : rule_after o h (step-of (Ok r more)) ≡ Some (updates (server-of r more)) = rule-unstopped w h z m l (act-of (Ok r more)) f ∙ at_own in
                let differs : changed o h (step-of (Ok r more)) ≡ is_some (difference w.description.servers u.servers) =
                ap (λ v. is_some (change_by v (description_of o h))) ruled ∙ (ap (λ t. is_some (change_by (Some (updates (server-of r more))) t)) z.described.known ∙ ap (λ (v : TopologyDescription). is_some (difference w.description.servers v.servers)) is_u) in
                let unclear : is_clear (clear_of o h (step-of (Ok r more))) ≡ false = refl in
                record {
                  out = tt;
                  calm = calm (Ok r more) c;
                  passes = pass;
                  known = ap (λ v. known_after v w.description) ruled ∙ known;
                  tells = ap (λ v. told_by o m v (description_of o h)) ruled ∙ (ap (told_by o m (Some (updates (server-of r more)))) z.described.known ∙ ap (publication o m w.description) is_u);
                  replies = λ fs. ap (λ b. Changed (changed o h (step-of (Ok r more)) || b)) unclear ∙ (ap Changed (or-none (changed o h (step-of (Ok r more)))) ∙ ap Changed differs);
                  goes_on = refl;
                  free = ends-free (Ok r more);
                }
        ruled-some (Err error) c pass u e = absurd c
        ruled-some (Cancelled error) c pass u e = some-none (sym e)

        replied-follows : IsUntroubled came → (u : TopologyDescription) → Some u ≡ reply_known w a m came f.report → (n y0 : Transition) → IsChanged w m u y0 → IsWithCheck y0 n (Checked p y w.fresh) f.event → Follows w n (step-of came) h
        replied-follows untroubled u e n y0 r k =
            let some : reply_known w a m came (reported came) ≡ Some u = ap (reply_known w a m came) (sym report-is) ∙ sym e in
            let v = k.others in
            follows-replied u (ruled-some came untroubled (passes mode) u some) y0 n r (ap (λ x. x.reply) v) (ap (λ x. x.changes) v) (ap (λ x. x.description) v) (ap (λ x. x.monitors) v) (ap (λ x. x.stops) v) k.facts (ap (λ x. x.monitoring) v)

        -- what becomes of it
        pub concluded : IsUntroubled came → (later : Option TopologyDescription) → later ≡ reply_known w a m came f.report → (stepped : Decision) → ConcludesAs w m (Checked p y w.fresh) f.event later stepped → BecomesOf w (step-of came) stepped h
        concluded untroubled None e (Refused why) r = absurd r
        concluded untroubled None e (Accepted n) r =
            let none : reply_known w a m came (reported came) ≡ None = ap (reply_known w a m came) (sym report-is) ∙ sym e in
            let v = r.2.others in
            follows-ended untroubled (ruled-none came untroubled none) n (ap (λ x. x.changes.items) v ∙ r.1.changes) (ap (λ x. x.monitors.items) v ∙ r.1.monitors) (ap (λ x. x.description) v ∙ r.1.known) (ap (λ x. x.stops) v ∙ r.1.goes_on)
            (r.2.facts ∙ ap (λ fs. Sdam f.event ∷ fs) r.1.facts) (ap (λ x. x.monitoring) v) (ap (λ x. x.reply) v ∙ r.1.reply)
        concluded untroubled (Some u) e (Refused why) r =
            let some : reply_known w a m came (reported came) ≡ Some u = ap (reply_known w a m came) (sym report-is) ∙ sym e in
            refused-replied u (ruled-some came untroubled (passes mode) u some) r.0 r.2 ∙ ap (λ x. Some x) (sym r.1)
        concluded untroubled (Some u) e (Accepted n) r = replied-follows untroubled u e n r.0 r.1 r.2
        concluded untroubled None e (Repeated n s) r = absurd r
        concluded untroubled (Some u) e (Repeated n s) r = replied-follows untroubled u e (with_place (Some s) w n) r.0 r.1 r.2
