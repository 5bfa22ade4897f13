use Rattle.std.proofs.Common.{sym, subst}
use Rattle.std.proofs.lemmas.Result.{IfOk-weaker}
use Rattle.mdb_describe.specs.Descriptions.{failed}
use Rattle.mdb_describe.specs.Update.{updated}
use Rattle.mdb_topology.specs.Marking.{FailsTo}
use Rattle.mdb_topology.proofs.topology.TopologyCore.mark_failed.Goals as goal

pub returns-then-self-clause-fails : goal.returns-then-self-clause-fails
returns-then-self-clause-fails c x of =
    let w = c.args.self.now in
    let m = c.args.step.now.moment in
    let e = c.of_reply.ensures in
    subst (λ b. FailsTo w m (updated w.description (failed c.args.address.now c.args.trouble.now.error.now)) x b c.of_reply.result) (sym c.if-self.true)
    (record { reply = e.reply; facts = e.facts; changes = e.changes; known = e.description; monitors = e.monitors; goes_on = e.stops })

pub mark_at-requires-clause-accepted : goal.mark_at-requires-clause-accepted
mark_at-requires-clause-accepted c = c.requires.accepted c.if-self.false

pub returns-clause-fails : goal.returns-clause-fails
returns-clause-fails c =
    let w = c.args.self.now in
    let m = c.args.step.now.moment in
    IfOk-weaker c.mark_at.result _ _ (λ next f x of. subst (λ b. FailsTo w m (updated w.description (failed c.args.address.now c.args.trouble.now.error.now)) x b next) (sym c.if-self.false) (f x of)) c.mark_at.ensures.marked
