use Rattle.std.proofs.Common.{◌≡◌, ◌∙◌, ◌+◌, not, nat_lt, slice_get, true, false, Some, sym, ap, subst}
use Rattle.mdb_log.specs.declared.reply.Refused.TheVariants.{Exhausted}
use Rattle.mdb_log.specs.declared.reply.What.TheVariants.{Monitor}
use Rattle.mdb_log.specs.Connections.{one_if}
use Rattle.mdb_monitor.specs.Standing.{runs}
use Rattle.mdb_topology.specs.declared.transition.Transition.{Transition}
use Rattle.mdb_topology.specs.declared.monitors.monitoring.Monitoring.TheVariants.{Checked}
use Rattle.mdb_topology.specs.Checking.{Begins, number_limit}
use Rattle.mdb_driver_rules.specs.Monitors.{runs as runs_at, fresh_for, is_connected, monitor_items}
use Rattle.mdb_driver_rules.specs.Refusal.{may_want, refusal}
use Rattle.mdb_topology.specs.Stepping.{Follows}
use Rattle.mdb_topology.proofs.OfMonitors.CheckBegins.{beat-fresh, beat-past, beat-wants, follows-beat}
use Rattle.mdb_driver_rules.proofs.General.OnePosition.{some-same}
use Rattle.mdb_topology.proofs.Marks.AtItsLimit.{wants-after}
use Rattle.mdb_topology.proofs.topology.TopologyCore.beat.Goals as goal

pub returns-then-is_past_limit-clause-becomes : goal.returns-then-is_past_limit-clause-becomes
returns-then-is_past_limit-clause-becomes c h z =
    let w = c.args.self.now in
    let m = c.args.step.now.moment in
    let a = c.args.address.now in
    let p = c.args.pool in
    let ms = w.monitors.items in
    let x = c.at.result.now in
    let own : c.in-Some.index ≡ p = c.in-Some.ensures.index in
    let at_p : slice_get ms p ≡ Some x = subst (λ q. slice_get ms q ≡ Some x) own (c.at.ensures) in
    let idle : runs_at h p ≡ false = sym (c.if-running.ensures.items (monitor_items h p) (z.monitors.each p x at_p)) in
    let numbered : c.number_for-number.result ≡ fresh_for h p = c.number_for-number.ensures h z ∙ ap (fresh_for h) own in
    let past : nat_lt (number_limit w.options) (fresh_for h p) ≡ true = ap (nat_lt (number_limit w.options)) (sym numbered) ∙ sym c.if-is_past_limit.ensures.past in
    subst (λ v. refusal w.options h (record { moment = m; act = v }) ≡ Some (Exhausted Monitor)) (sym c.requires.act)
    (beat-fresh w h z m c.requires.in_time a p (sym c.in-Some.ensures.here) idle c.if-self.false past)

pub with_check-requires-clause-idle : goal.with_check-requires-clause-idle
with_check-requires-clause-idle c x at_i =
    let ms = c.args.self.now.monitors.items in
    let s = c.at.result.now in
    let here : slice_get ms c.in-Some.index ≡ Some s = c.at.ensures in
    subst (λ v. runs v ≡ false) (some-same s x (slice_get ms c.in-Some.index) here at_i) (sym c.if-running.ensures.machine)

pub returns-then-is_past_limit-2-clause-becomes : goal.returns-then-is_past_limit-2-clause-becomes
returns-then-is_past_limit-2-clause-becomes c h z =
    let w = c.args.self.now in
    let m = c.args.step.now.moment in
    let a = c.args.address.now in
    let p = c.args.pool in
    let ms = w.monitors.items in
    let x = c.at.result.now in
    let own : c.in-Some.index ≡ p = c.in-Some.ensures.index in
    let at_i : slice_get ms c.in-Some.index ≡ Some x = c.at.ensures in
    let at_p : slice_get ms p ≡ Some x = subst (λ q. slice_get ms q ≡ Some x) own at_i in
    let idle : runs_at h p ≡ false = sym (c.if-running.ensures.items (monitor_items h p) (z.monitors.each p x at_p)) in
    let numbered : c.number_for-number.result ≡ fresh_for h p = c.number_for-number.ensures h z ∙ ap (fresh_for h) own in
    let begins : Begins x c.in_ok-monitor.monitor (fresh_for h p) c.in_ok-monitor.begin = subst (λ q. Begins x c.in_ok-monitor.monitor q c.in_ok-monitor.begin) numbered (c.in_ok-monitor.ensures x at_i) in
    subst (λ v. refusal w.options h (record { moment = m; act = v }) ≡ Some (Exhausted Monitor)) (sym c.requires.act)
    (beat-past w h z m c.requires.in_time a p (sym c.in-Some.ensures.here) idle c.if-self.false x c.in_ok-monitor.monitor c.in_ok-monitor.begin at_p begins (sym c.if-is_past_limit-2.ensures.past))

pub returns-in-Ok-clause-becomes : goal.returns-in-Ok-clause-becomes
returns-in-Ok-clause-becomes c h z =
    let w = c.args.self.now in
    let m = c.args.step.now.moment in
    let a = c.args.address.now in
    let p = c.args.pool in
    let ms = w.monitors.items in
    let x = c.at.result.now in
    let y = c.in_ok-monitor.monitor in
    let b = c.in_ok-monitor.begin in
    let r = c.of_reply.result in
    let e = c.of_reply.ensures in
    let own : c.in-Some.index ≡ p = c.in-Some.ensures.index in
    let at_i : slice_get ms c.in-Some.index ≡ Some x = c.at.ensures in
    let at_p : slice_get ms p ≡ Some x = subst (λ q. slice_get ms q ≡ Some x) own at_i in
    let idle : runs_at h p ≡ false = sym (c.if-running.ensures.items (monitor_items h p) (z.monitors.each p x at_p)) in
    let numbered : c.number_for-number.result ≡ fresh_for h p = c.number_for-number.ensures h z ∙ ap (fresh_for h) own in
    let begins : Begins x y (fresh_for h p) b = subst (λ q. Begins x y q b) numbered (c.in_ok-monitor.ensures x at_i) in
    let n : Transition = record { reply = r.reply; facts = c.in-Ok.facts; changes = r.changes; description = r.description; monitors = r.monitors; monitoring = Checked c.in-Some.index y c.in_ok-numbers.numbers; stops = r.stops } in
    subst (λ v. Follows w n (record { moment = m; act = v }) h) (sym c.requires.act)
    (follows-beat w h z m c.requires.in_time a p (sym c.in-Some.ensures.here) idle c.if-self.false x y b at_p begins (sym c.if-is_past_limit-2.ensures.past)
    n e.changes e.monitors e.description e.stops c.in-Ok.ensures e.reply c.in_ok-numbers.numbers (ap (λ q. Checked q y c.in_ok-numbers.numbers) own)
    (subst (λ q. c.in_ok-numbers.numbers ≡ w.fresh + one_if (not (is_connected h q))) own (c.in_ok-numbers.ensures h z)))

pub returns-in_err-numbers-clause-wants : goal.returns-in_err-numbers-clause-wants
returns-in_err-numbers-clause-wants c = wants-after c.args.self.now c.args.step.now _ (λ h z.
    let w = c.args.self.now in
    let m = c.args.step.now.moment in
    let a = c.args.address.now in
    let p = c.args.pool in
    let ms = w.monitors.items in
    let x = c.at.result.now in
    let own : c.in-Some.index ≡ p = c.in-Some.ensures.index in
    let at_p : slice_get ms p ≡ Some x = subst (λ q. slice_get ms q ≡ Some x) own (c.at.ensures) in
    let idle : runs_at h p ≡ false = sym (c.if-running.ensures.items (monitor_items h p) (z.monitors.each p x at_p)) in
    let numbered : c.number_for-number.result ≡ fresh_for h p = c.number_for-number.ensures h z ∙ ap (fresh_for h) own in
    let fresh : nat_lt (number_limit w.options) (fresh_for h p) ≡ false = ap (nat_lt (number_limit w.options)) (sym numbered) ∙ sym c.if-is_past_limit.ensures.past in
    subst (λ v. may_want w.options h (record { moment = m; act = v }) ≡ true) (sym c.requires.act)
    (beat-wants w h z m c.requires.in_time a p (sym c.in-Some.ensures.here) idle c.if-self.false fresh))

pub returns-in_err-monitor-clause-wants : goal.returns-in_err-monitor-clause-wants
returns-in_err-monitor-clause-wants c = wants-after c.args.self.now c.args.step.now _ (λ h z.
    let w = c.args.self.now in
    let m = c.args.step.now.moment in
    let a = c.args.address.now in
    let p = c.args.pool in
    let ms = w.monitors.items in
    let x = c.at.result.now in
    let own : c.in-Some.index ≡ p = c.in-Some.ensures.index in
    let at_p : slice_get ms p ≡ Some x = subst (λ q. slice_get ms q ≡ Some x) own (c.at.ensures) in
    let idle : runs_at h p ≡ false = sym (c.if-running.ensures.items (monitor_items h p) (z.monitors.each p x at_p)) in
    let numbered : c.number_for-number.result ≡ fresh_for h p = c.number_for-number.ensures h z ∙ ap (fresh_for h) own in
    let fresh : nat_lt (number_limit w.options) (fresh_for h p) ≡ false = ap (nat_lt (number_limit w.options)) (sym numbered) ∙ sym c.if-is_past_limit.ensures.past in
    subst (λ v. may_want w.options h (record { moment = m; act = v }) ≡ true) (sym c.requires.act)
    (beat-wants w h z m c.requires.in_time a p (sym c.in-Some.ensures.here) idle c.if-self.false fresh))

pub returns-in-Err-clause-wants : goal.returns-in-Err-clause-wants
returns-in-Err-clause-wants c = λ h z.
    let w = c.args.self.now in
    let m = c.args.step.now.moment in
    let a = c.args.address.now in
    let p = c.args.pool in
    let ms = w.monitors.items in
    let x = c.at.result.now in
    let own : c.in-Some.index ≡ p = c.in-Some.ensures.index in
    let at_p : slice_get ms p ≡ Some x = subst (λ q. slice_get ms q ≡ Some x) own (c.at.ensures) in
    let idle : runs_at h p ≡ false = sym (c.if-running.ensures.items (monitor_items h p) (z.monitors.each p x at_p)) in
    let numbered : c.number_for-number.result ≡ fresh_for h p = c.number_for-number.ensures h z ∙ ap (fresh_for h) own in
    let fresh : nat_lt (number_limit w.options) (fresh_for h p) ≡ false = ap (nat_lt (number_limit w.options)) (sym numbered) ∙ sym c.if-is_past_limit.ensures.past in
    subst (λ v. may_want w.options h (record { moment = m; act = v }) ≡ true) (sym c.requires.act)
    (beat-wants w h z m c.requires.in_time a p (sym c.in-Some.ensures.here) idle c.if-self.false fresh)
