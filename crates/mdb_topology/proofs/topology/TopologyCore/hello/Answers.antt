use Rattle.std.proofs.Common.{◌∙◌, [], None, false, sym, subst, refl, ◌≡◌, true}
use Rattle.std.proofs.lemmas.Result.{IfOk-weaker}
use Rattle.mdb_log.specs.declared.reply.Reply.TheVariants.{Changed}
use Rattle.mdb_describe.specs.declared.description.ServerDescription.{ServerDescription}
use Rattle.mdb_describe.specs.Descriptions.{from_reply}
use Rattle.mdb_describe.specs.Update.{updated}
use Rattle.mdb_driver_rules.specs.Monitors.{hello_reply}
use Rattle.mdb_topology.specs.Changing.{IsChanging, IsUpdating}
use Rattle.mdb_topology.proofs.WholeSteps.Stops.{as-next}
use Rattle.mdb_driver_rules.proofs.SameHistories.{IsPlain}
use Rattle.mdb_topology.proofs.Publications.WhichSteps.{hello-updating, hello-resting, passes-time}
use Rattle.mdb_topology.proofs.WholeSteps.QuietStep.{follows-quiet}
use Rattle.mdb_topology.proofs.Publications.BecomesKnown.{changes-become}
use Rattle.mdb_driver_rules.specs.Refusal.{may_want}
use Rattle.mdb_topology.proofs.Marks.AtItsLimit.{wants-after}
use Rattle.mdb_topology.proofs.WholeSteps.ComesBeforeMemory.{untroubled-wants}
use Rattle.mdb_log.specs.declared.checked.HelloResult.TheVariants as Hello
use Rattle.mdb_log.specs.declared.step.Act.TheVariants as Do
use Rattle.mdb_topology.proofs.topology.TopologyCore.hello.Goals as goal

pub returns-then-leaves_reply-clause-becomes : goal.returns-then-leaves_reply-clause-becomes
returns-then-leaves_reply-clause-becomes c h z =
    let w = c.args.self.now in
    let m = c.args.step.now.moment in
    let e = c.of_reply.ensures in
    let left = sym c.leaves_reply.ensures ∙ c.if-leaves_reply.true in
    let rests = subst (λ a. IsChanging w.options h w.description None (record { moment = m; act = a }) (Changed false) false []) (sym c.requires.act)
    (hello-resting w h z m c.requires.in_time c.args.address.now c.args.pool c.args.rtt c.args.reply.now c.if-self.false left) in
    follows-quiet w h z c.args.step.now c.requires.in_time c.of_reply.result e.changes e.facts e.monitors e.monitoring (subst IsPlain (sym e.reply) tt) (rw e.description refl) (as-next rests e.description e.reply e.stops)

pub returns-clause-becomes : goal.returns-clause-becomes
returns-clause-becomes c =
    let w = c.args.self.now in
    let m = c.args.step.now.moment in
    let left = sym c.leaves_reply.ensures ∙ c.if-leaves_reply.false in
    IfOk-weaker c.change_server.result _ _ (λ stepped f h z. changes-become w h z c.args.step.now c.requires.in_time (updated w.description c.in_ok-server.server) (subst (λ (s : ServerDescription). IsUpdating w h c.args.step.now (updated w.description s)) (sym c.in_ok-server.ensures)
    (subst (λ a. IsUpdating w h (record { moment = m; act = a }) (updated w.description (from_reply c.args.address.now (hello_reply c.args.address.now c.args.reply.now) c.args.rtt m))) (sym c.requires.act)
    (hello-updating w h z m c.requires.in_time c.args.address.now c.args.pool c.args.rtt c.args.reply.now c.if-self.false left))) stepped f) c.change_server.ensures.changes

pub returns-in_err-server-clause-wants : goal.returns-in_err-server-clause-wants
returns-in_err-server-clause-wants c = wants-after c.args.self.now c.args.step.now _ (λ h z.
    let w = c.args.self.now in
    let m = c.args.step.now.moment in
    subst (λ v. may_want w.options h (record { moment = m; act = v }) ≡ true) (sym c.requires.act)
    (untroubled-wants w h z (Do.Hello c.args.address.now c.args.pool (Hello.Ok c.args.rtt c.args.reply.now)) m tt refl (passes-time w h z m c.requires.in_time (Do.Hello c.args.address.now c.args.pool (Hello.Ok c.args.rtt c.args.reply.now)) (rw c.if-self.false refl)) refl refl))

pub returns-clause-wants : goal.returns-clause-wants
returns-clause-wants c = wants-after c.args.self.now c.args.step.now _ (λ h z.
    let w = c.args.self.now in
    let m = c.args.step.now.moment in
    subst (λ v. may_want w.options h (record { moment = m; act = v }) ≡ true) (sym c.requires.act)
    (untroubled-wants w h z (Do.Hello c.args.address.now c.args.pool (Hello.Ok c.args.rtt c.args.reply.now)) m tt refl (passes-time w h z m c.requires.in_time (Do.Hello c.args.address.now c.args.pool (Hello.Ok c.args.rtt c.args.reply.now)) (rw c.if-self.false refl)) refl refl))
