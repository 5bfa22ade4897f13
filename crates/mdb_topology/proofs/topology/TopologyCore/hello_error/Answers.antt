use Rattle.std.proofs.Common.{◌≡◌, ◌∙◌, [], None, true, false, sym, subst, refl}
use Rattle.std.proofs.lemmas.Result.{IfOk-weaker, on_err_weaker}
use Rattle.mdb_log.specs.declared.reply.Reply.TheVariants.{Changed}
use Rattle.mdb_describe.specs.Descriptions.{failed}
use Rattle.mdb_describe.specs.Update.{updated}
use Rattle.mdb_topology.specs.Changing.{IsTelling}
use Rattle.mdb_topology.specs.Marking.{HasParts, IsMarking, IsOfPool, MarkPasses, MarksTo}
use Rattle.mdb_topology.proofs.Marks.ComesTo.{as-parts}
use Rattle.mdb_driver_rules.proofs.SameHistories.{IsPlain}
use Rattle.mdb_driver_pools.specs.declared.trouble.Asked.TheVariants.{Nothing}
use Rattle.mdb_topology.proofs.OfMonitors.CheckFailed.{here-at}
use Rattle.mdb_driver_pools.proofs.OnePool.FoundAt.{open-lives}
use Rattle.mdb_topology.proofs.Marks.AtItsLimit.{own-place, place-own, some-place}
use Rattle.mdb_topology.proofs.Publications.WhichSteps.{or-not}
use Rattle.mdb_topology.proofs.WholeSteps.ComesBeforeMemory.{none-wants}
use Rattle.mdb_topology.proofs.Marks.WhichSteps.{met, met-of-pool, met-marking, met-resting}
use Rattle.mdb_topology.proofs.WholeSteps.QuietStep.{follows-silent}
use Rattle.mdb_topology.proofs.Marks.BecomesOfStep.{marks-become, marks-spare}
use Rattle.mdb_topology.proofs.topology.TopologyCore.hello_error.Goals as goal

pub returns-then-leaves_reply-clause-becomes : goal.returns-then-leaves_reply-clause-becomes
returns-then-leaves_reply-clause-becomes c h z =
    let w = c.args.self.now in
    let m = c.args.step.now.moment in
    let e = c.of_reply.ensures in
    let left = sym c.leaves_reply.ensures ∙ c.if-leaves_reply.true in
    let rests = subst (λ a. HasParts w.options h w.description None (record { moment = m; act = a }) (Changed false) false []) (sym c.requires.act)
    (met-resting w h z m c.requires.in_time c.args.address.now c.args.pool c.args.error.now c.if-self.false left) in
    follows-silent w h z c.args.step.now c.requires.in_time c.of_reply.result e.changes e.facts e.monitors e.monitoring (subst IsPlain (sym e.reply) tt) (rw e.description refl) (subst IsTelling (sym c.requires.act) tt) (as-parts rests e.description e.reply e.stops)

pub mark-requires-clause-there : goal.mark-requires-clause-there
mark-requires-clause-there c =
    let w = c.args.self.now in
    let left = or-not w.stopped _ (sym c.leaves_reply.ensures ∙ c.if-leaves_reply.false) in
    open-lives w.pools.cores.items c.args.address.now c.args.pool (here-at w c.args.address.now c.args.pool c.args.pool refl left.1)

pub mark-requires-clause-here : goal.mark-requires-clause-here
mark-requires-clause-here c =
    let w = c.args.self.now in
    let left = or-not w.stopped _ (sym c.leaves_reply.ensures ∙ c.if-leaves_reply.false) in
    place-own w.pools.cores.items c.args.address.now c.args.pool (here-at w c.args.address.now c.args.pool c.args.pool refl left.1)

pub returns-clause-becomes : goal.returns-clause-becomes
returns-clause-becomes c =
    let w = c.args.self.now in
    let m = c.args.step.now.moment in
    let a = c.args.address.now in
    let e = c.args.error.now in
    let left = sym c.leaves_reply.ensures ∙ c.if-leaves_reply.false in
    let here = here-at w a c.args.pool c.args.pool refl (or-not w.stopped _ left).1 in
    let own = some-place w.pools.cores.items a c.args.pool here in
    let at : own.0.address ≡ a = own-place w.pools.cores.items a c.args.pool here own.0 own.1 in
    IfOk-weaker c.mark.result _ _ (λ stepped f h z.
    let x = met w h z m c.requires.in_time a c.args.pool e in
    marks-become w h z c.args.step.now c.requires.in_time a e x
    (subst (λ b. IsMarking w h (record { moment = m; act = b }) (updated w.description (failed a e)) (met w h z m c.requires.in_time a c.args.pool e)) (sym c.requires.act)
    (met-marking w h z m c.requires.in_time a c.args.pool e c.if-self.false left))
    (subst IsTelling (sym c.requires.act) tt) stepped
    (subst (λ b. MarksTo w m (updated w.description (failed b e)) (met w h z m c.requires.in_time a c.args.pool e) stepped) at
    (f own.0 x own.1 (subst (λ b. IsOfPool w.options (met w h z m c.requires.in_time a c.args.pool e) c.args.pool b e true Nothing) (sym at) (met-of-pool w h z m c.requires.in_time a c.args.pool e c.if-self.false))))) c.mark.ensures.marks

pub returns-clause-wants : goal.returns-clause-wants
returns-clause-wants c =
    let w = c.args.self.now in
    let m = c.args.step.now.moment in
    let a = c.args.address.now in
    let e = c.args.error.now in
    let left = sym c.leaves_reply.ensures ∙ c.if-leaves_reply.false in
    let here = here-at w a c.args.pool c.args.pool refl (or-not w.stopped _ left).1 in
    let own = some-place w.pools.cores.items a c.args.pool here in
    let at : own.0.address ≡ a = own-place w.pools.cores.items a c.args.pool here own.0 own.1 in
    on_err_weaker c.mark.result (λ f h z.
    let x = met w h z m c.requires.in_time a c.args.pool e in
    none-wants w.options h c.args.step.now
    (marks-spare w h z c.args.step.now c.requires.in_time a e x
    (subst (λ b. IsMarking w h (record { moment = m; act = b }) (updated w.description (failed a e)) (met w h z m c.requires.in_time a c.args.pool e)) (sym c.requires.act)
    (met-marking w h z m c.requires.in_time a c.args.pool e c.if-self.false left))
    (subst IsTelling (sym c.requires.act) tt)
    (subst (λ b. MarkPasses w m (updated w.description (failed b e)) (met w h z m c.requires.in_time a c.args.pool e) None) at
    (f own.0 x own.1 (subst (λ b. IsOfPool w.options (met w h z m c.requires.in_time a c.args.pool e) c.args.pool b e true Nothing) (sym at) (met-of-pool w h z m c.requires.in_time a c.args.pool e c.if-self.false)))))) c.mark.ensures.spares
