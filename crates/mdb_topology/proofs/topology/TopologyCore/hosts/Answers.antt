use Rattle.std.proofs.Common.{◌∙◌, [], None, false, sym, subst, refl}
use Rattle.std.proofs.lemmas.Result.{IfOk-weaker}
use Rattle.mdb_log.specs.declared.reply.Reply.TheVariants.{Changed}
use Rattle.mdb_describe.specs.Topology.{synced}
use Rattle.mdb_topology.specs.Changing.{IsChanging, IsUpdating}
use Rattle.mdb_topology.proofs.WholeSteps.Stops.{as-next}
use Rattle.mdb_driver_rules.proofs.SameHistories.{IsPlain}
use Rattle.mdb_topology.proofs.Publications.WhichSteps.{hosts-updating, hosts-resting}
use Rattle.mdb_topology.proofs.WholeSteps.QuietStep.{follows-quiet}
use Rattle.mdb_topology.proofs.Publications.BecomesKnown.{changes-become, spared-update}
use Rattle.mdb_topology.proofs.Marks.AtItsLimit.{wants-after}
use Rattle.mdb_topology.proofs.WholeSteps.ComesBeforeMemory.{none-wants}
use Rattle.mdb_topology.specs.declared.transition.Decision.TheVariants.{Refused}
use Rattle.mdb_log.specs.declared.reply.Refused.TheVariants.{Exhausted}
use Rattle.mdb_topology.proofs.topology.TopologyCore.hosts.Goals as goal

pub returns-then-leaves_hosts-clause-becomes : goal.returns-then-leaves_hosts-clause-becomes
returns-then-leaves_hosts-clause-becomes c h z =
    let w = c.args.self.now in
    let m = c.args.step.now.moment in
    let e = c.of_reply.ensures in
    let left = sym c.leaves_hosts.ensures ∙ c.if-leaves_hosts.true in
    let rests = subst (λ a. IsChanging w.options h w.description None (record { moment = m; act = a }) (Changed false) false []) (sym c.requires.act)
    (hosts-resting w h z m c.requires.in_time c.args.hosts.now left) in
    follows-quiet w h z c.args.step.now c.requires.in_time c.of_reply.result e.changes e.facts e.monitors e.monitoring (subst IsPlain (sym e.reply) tt) (rw e.description refl) (as-next rests e.description e.reply e.stops)

pub returns-clause-becomes : goal.returns-clause-becomes
returns-clause-becomes c =
    let w = c.args.self.now in
    let m = c.args.step.now.moment in
    let left = sym c.leaves_hosts.ensures ∙ c.if-leaves_hosts.false in
    IfOk-weaker c.change.result _ _ (λ stepped f h z. changes-become w h z c.args.step.now c.requires.in_time c.in_ok-later.later (subst (λ u. IsUpdating w h c.args.step.now u) (sym c.in_ok-later.ensures)
    (subst (λ a. IsUpdating w h (record { moment = m; act = a }) (synced c.args.hosts.now w.description)) (sym c.requires.act)
    (hosts-updating w h z m c.requires.in_time c.args.hosts.now left))) stepped f) c.change.ensures.changes

pub returns-in-Some-clause-becomes : goal.returns-in-Some-clause-becomes
returns-in-Some-clause-becomes c h z =
    let w = c.args.self.now in
    let m = c.args.step.now.moment in
    let left = sym c.leaves_hosts.ensures ∙ c.if-leaves_hosts.false in
    changes-become w h z c.args.step.now c.requires.in_time (synced c.args.hosts.now w.description)
    (subst (λ a. IsUpdating w h (record { moment = m; act = a }) (synced c.args.hosts.now w.description)) (sym c.requires.act)
    (hosts-updating w h z m c.requires.in_time c.args.hosts.now left))
    (Refused (Exhausted c.in-Some.what)) (c.in-Some.what, refl, sym c.in-Some.ensures)

pub returns-in_err-later-clause-wants : goal.returns-in_err-later-clause-wants
returns-in_err-later-clause-wants c = wants-after c.args.self.now c.args.step.now _ (λ h z.
    let w = c.args.self.now in
    let m = c.args.step.now.moment in
    let left = sym c.leaves_hosts.ensures ∙ c.if-leaves_hosts.false in
    none-wants w.options h c.args.step.now
    (spared-update w h z c.args.step.now c.requires.in_time (synced c.args.hosts.now w.description)
    (subst (λ a. IsUpdating w h (record { moment = m; act = a }) (synced c.args.hosts.now w.description)) (sym c.requires.act)
    (hosts-updating w h z m c.requires.in_time c.args.hosts.now left))
    (sym c.exhausted_by.ensures ∙ c.in_default.is)))

pub returns-clause-wants : goal.returns-clause-wants
returns-clause-wants c = wants-after c.args.self.now c.args.step.now _ (λ h z.
    let w = c.args.self.now in
    let m = c.args.step.now.moment in
    let left = sym c.leaves_hosts.ensures ∙ c.if-leaves_hosts.false in
    none-wants w.options h c.args.step.now
    (spared-update w h z c.args.step.now c.requires.in_time (synced c.args.hosts.now w.description)
    (subst (λ a. IsUpdating w h (record { moment = m; act = a }) (synced c.args.hosts.now w.description)) (sym c.requires.act)
    (hosts-updating w h z m c.requires.in_time c.args.hosts.now left))
    (sym c.exhausted_by.ensures ∙ c.in_default.is)))
