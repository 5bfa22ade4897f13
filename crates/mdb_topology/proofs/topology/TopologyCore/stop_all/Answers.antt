use Rattle.std.proofs.Common.{◌≡◌, ◌∙◌, ◌++◌, ◌∷◌, [], None, true, ap, sym, subst, refl}
use Rattle.mdb_log.specs.declared.reply.Reply.TheVariants.{Done}
use Rattle.mdb_topology.specs.declared.topology.TopologyCore.{TopologyCore}
use Rattle.mdb_describe.specs.Servers.{in_order}
use Rattle.mdb_driver_rules.specs.Publishing.{topology_closed_fact}
use Rattle.mdb_topology.specs.declared.transition.Transition.{Transition}
use Rattle.mdb_topology.specs.Changing.{IsChanging}
use Rattle.mdb_topology.proofs.WholeSteps.Stops.{as-next, stops-next}
use Rattle.mdb_driver_rules.proofs.SameHistories.{IsPlain}
use Rattle.mdb_topology.proofs.Publications.WhichSteps.{stop-resting, passes-time}
use Rattle.mdb_topology.proofs.WholeSteps.QuietStep.{follows-quiet}
use Rattle.mdb_driver_rules.specs.Refusal.{may_want}
use Rattle.mdb_topology.proofs.WholeSteps.ComesBeforeMemory.{untroubled-wants}
use Rattle.mdb_log.specs.declared.step.Act.TheVariants as Do
use Rattle.mdb_topology.proofs.Marks.AtItsLimit.{wants-after}
use Rattle.mdb_topology.proofs.topology.TopologyCore.stop_all.Goals as goal

pub returns-then-self-clause-becomes : goal.returns-then-self-clause-becomes
returns-then-self-clause-becomes c h z =
    let w = c.args.self.now in
    let m = c.args.step.now.moment in
    let r = c.of_reply.result in
    let e = c.of_reply.ensures in
    let n : Transition = record { reply = r.reply; facts = r.facts; changes = r.changes; description = r.description; monitors = r.monitors; monitoring = r.monitoring; stops = true } in
    let rests = subst (λ a. IsChanging w.options h w.description None (record { moment = m; act = a }) Done true []) (sym c.requires.act) (stop-resting w h z m c.requires.in_time c.if-self.true) in
    follows-quiet w h z c.args.step.now c.requires.in_time n e.changes e.facts e.monitors e.monitoring (subst IsPlain (sym e.reply) tt) (rw e.description refl) (as-next rests e.description e.reply refl)

pub returns-clause-becomes : goal.returns-clause-becomes
returns-clause-becomes c h z =
    let w = c.args.self.now in
    let made = c.into_next.ensures in
    let told = c.in_ok-told.ensures in
    stops-next w h z c.args.step.now c.requires.in_time c.requires.act c.if-self.false c.in_ok-later.later c.in_ok-later.ensures c.in_ok-diff.diff (sym c.in_ok-diff.ensures.difference) c.in_ok-told.told.changes.items c.in_ok-told.told.facts.items told.told
    c.into_next.result made.reply made.description made.stops (rw made.changes refl) (ap (λ v. v.items) made.facts ∙ subst (λ (x : TopologyCore). c.tell_closed.new.facts.items ≡ c.in_ok-told.told.facts.items ++ topology_closed_fact x.options ∷ []) told.same c.in_ok-tell_closed.ensures) (subst (λ x. in_order x.servers ≡ true) (sym c.in_ok-later.ensures) refl) (rw (made.monitors, made.changes) told.settings) (rw made.monitors told.stand) made.monitoring

pub returns-in_err-later-clause-wants : goal.returns-in_err-later-clause-wants
returns-in_err-later-clause-wants c = wants-after c.args.self.now c.args.step.now _ (λ h z.
    let w = c.args.self.now in
    let m = c.args.step.now.moment in
    subst (λ v. may_want w.options h (record { moment = m; act = v }) ≡ true) (sym c.requires.act)
    (untroubled-wants w h z (Do.Stop) m tt refl (passes-time w h z m c.requires.in_time (Do.Stop) refl) refl refl))

pub returns-in_err-diff-clause-wants : goal.returns-in_err-diff-clause-wants
returns-in_err-diff-clause-wants c = wants-after c.args.self.now c.args.step.now _ (λ h z.
    let w = c.args.self.now in
    let m = c.args.step.now.moment in
    subst (λ v. may_want w.options h (record { moment = m; act = v }) ≡ true) (sym c.requires.act)
    (untroubled-wants w h z (Do.Stop) m tt refl (passes-time w h z m c.requires.in_time (Do.Stop) refl) refl refl))

pub returns-in_err-told-clause-wants : goal.returns-in_err-told-clause-wants
returns-in_err-told-clause-wants c = wants-after c.args.self.now c.args.step.now _ (λ h z.
    let w = c.args.self.now in
    let m = c.args.step.now.moment in
    subst (λ v. may_want w.options h (record { moment = m; act = v }) ≡ true) (sym c.requires.act)
    (untroubled-wants w h z (Do.Stop) m tt refl (passes-time w h z m c.requires.in_time (Do.Stop) refl) refl refl))

pub returns-in_err-tell_closed-clause-wants : goal.returns-in_err-tell_closed-clause-wants
returns-in_err-tell_closed-clause-wants c = wants-after c.args.self.now c.args.step.now _ (λ h z.
    let w = c.args.self.now in
    let m = c.args.step.now.moment in
    subst (λ v. may_want w.options h (record { moment = m; act = v }) ≡ true) (sym c.requires.act)
    (untroubled-wants w h z (Do.Stop) m tt refl (passes-time w h z m c.requires.in_time (Do.Stop) refl) refl refl))
