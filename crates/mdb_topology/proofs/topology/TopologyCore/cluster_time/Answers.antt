use Rattle.std.proofs.Common.{ap, [], None, Some, false, sym, subst, refl, ◌≡◌, true}
use Rattle.mdb_describe.specs.Topology.{later_time}
use Rattle.mdb_log.specs.declared.reply.Reply.TheVariants.{Done}
use Rattle.mdb_topology.specs.declared.transition.Transition.{Transition}
use Rattle.mdb_topology.specs.Changing.{IsChanging}
use Rattle.mdb_topology.proofs.WholeSteps.Stops.{as-next}
use Rattle.mdb_driver_rules.proofs.SameHistories.{IsPlain}
use Rattle.mdb_topology.proofs.Publications.WhichSteps.{time-changing, time-resting, passes-time}
use Rattle.mdb_topology.proofs.WholeSteps.QuietStep.{follows-quiet}
use Rattle.mdb_driver_rules.specs.Refusal.{may_want}
use Rattle.mdb_topology.proofs.WholeSteps.ComesBeforeMemory.{untroubled-wants}
use Rattle.mdb_log.specs.declared.step.Act.TheVariants as Do
use Rattle.mdb_topology.proofs.Marks.AtItsLimit.{wants-after}
use Rattle.mdb_topology.proofs.topology.TopologyCore.cluster_time.Goals as goal

pub returns-then-self-clause-becomes : goal.returns-then-self-clause-becomes
returns-then-self-clause-becomes c h z =
    let w = c.args.self.now in
    let m = c.args.step.now.moment in
    let e = c.of_reply.ensures in
    let rests = subst (λ a. IsChanging w.options h w.description None (record { moment = m; act = a }) Done false []) (sym c.requires.act) (time-resting w h z m c.requires.in_time c.args.time c.if-self.true) in
    follows-quiet w h z c.args.step.now c.requires.in_time c.of_reply.result e.changes e.facts e.monitors e.monitoring (subst IsPlain (sym e.reply) tt) (rw e.description refl) (as-next rests e.description e.reply e.stops)

pub returns-clause-becomes : goal.returns-clause-becomes
returns-clause-becomes c h z =
    let w = c.args.self.now in
    let m = c.args.step.now.moment in
    let r = c.of_reply-2.result in
    let e = c.of_reply-2.ensures in
    let n : Transition = record { reply = r.reply; facts = r.facts; changes = r.changes; description = Some c.in_ok-later.later; monitors = r.monitors; monitoring = r.monitoring; stops = r.stops } in
    let changing = subst (λ a. IsChanging w.options h w.description (Some (record w.description { cluster_time = later_time w.description.cluster_time c.args.time })) (record { moment = m; act = a }) Done false []) (sym c.requires.act)
    (time-changing w h z m c.requires.in_time c.args.time c.if-self.false) in
    follows-quiet w h z c.args.step.now c.requires.in_time n e.changes e.facts e.monitors e.monitoring (subst IsPlain (sym e.reply) tt) (ap (λ u. u.servers) c.in_ok-later.ensures) (as-next changing (ap Some c.in_ok-later.ensures) e.reply e.stops)

pub returns-in_err-later-clause-wants : goal.returns-in_err-later-clause-wants
returns-in_err-later-clause-wants c = wants-after c.args.self.now c.args.step.now _ (λ h z.
    let w = c.args.self.now in
    let m = c.args.step.now.moment in
    subst (λ v. may_want w.options h (record { moment = m; act = v }) ≡ true) (sym c.requires.act)
    (untroubled-wants w h z (Do.ClusterTime c.args.time) m tt refl (passes-time w h z m c.requires.in_time (Do.ClusterTime c.args.time) refl) refl refl))
