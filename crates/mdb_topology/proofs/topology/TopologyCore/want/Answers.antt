use Rattle.std.proofs.Common.{◌≡◌, ◌∙◌, length, sym, subst, ap, true, refl}
use Rattle.mdb_log.specs.declared.reply.Reply.TheVariants.{Count}
use Rattle.mdb_monitor.specs.Asking.{wanted}
use Rattle.mdb_topology.specs.declared.transition.Transition.{Transition}
use Rattle.mdb_topology.specs.declared.monitors.monitoring.Monitoring.TheVariants.{Asked}
use Rattle.mdb_topology.specs.Stepping.{Follows}
use Rattle.mdb_topology.proofs.OfMonitors.Watchers.{follows-want}
use Rattle.mdb_driver_rules.specs.Refusal.{may_want}
use Rattle.mdb_topology.proofs.Publications.WhichSteps.{passes-time}
use Rattle.mdb_topology.proofs.WholeSteps.ComesBeforeMemory.{untroubled-wants}
use Rattle.mdb_log.specs.declared.step.Act.TheVariants as Do
use Rattle.mdb_topology.proofs.Marks.AtItsLimit.{wants-after}
use Rattle.mdb_topology.proofs.topology.TopologyCore.want.Goals as goal

pub returns-in-Ok-clause-becomes : goal.returns-in-Ok-clause-becomes
returns-in-Ok-clause-becomes c h z =
    let w = c.args.self.now in
    let m = c.args.step.now.moment in
    let x = c.args.watcher in
    let r = c.of_reply.result in
    let e = c.of_reply.ensures in
    let n : Transition = record { reply = r.reply; facts = r.facts; changes = r.changes; description = r.description; monitors = r.monitors; monitoring = Asked c.want.new.self; stops = r.stops } in
    let now : c.want.new.self ≡ wanted x w.watchers = c.in-Ok.ensures.wanted ∙ ap (wanted x) c.in_ok-watchers.ensures.cases in
    subst (λ a. Follows w n (record { moment = m; act = a }) h) (sym c.requires.act)
    (follows-want w h z m c.requires.in_time x n e.changes e.monitors e.description e.stops e.facts (ap Asked now) (e.reply ∙ (ap Count c.in-Ok.ensures.counted ∙ ap (λ ws. Count (length ws)) now)))

pub returns-in_err-watchers-clause-wants : goal.returns-in_err-watchers-clause-wants
returns-in_err-watchers-clause-wants c = wants-after c.args.self.now c.args.step.now _ (λ h z.
    let w = c.args.self.now in
    let m = c.args.step.now.moment in
    subst (λ v. may_want w.options h (record { moment = m; act = v }) ≡ true) (sym c.requires.act)
    (untroubled-wants w h z (Do.Want c.args.watcher) m tt refl (passes-time w h z m c.requires.in_time (Do.Want c.args.watcher) refl) refl refl))

pub returns-in-Err-clause-wants : goal.returns-in-Err-clause-wants
returns-in-Err-clause-wants c = λ h z.
    let w = c.args.self.now in
    let m = c.args.step.now.moment in
    subst (λ v. may_want w.options h (record { moment = m; act = v }) ≡ true) (sym c.requires.act)
    (untroubled-wants w h z (Do.Want c.args.watcher) m tt refl (passes-time w h z m c.requires.in_time (Do.Want c.args.watcher) refl) refl refl)
