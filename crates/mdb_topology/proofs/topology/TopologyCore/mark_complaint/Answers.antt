use Rattle.std.proofs.Common.{◌≡◌, Some, sym, ◌∙◌, ap, subst}
use Rattle.std.specs.Prelude.{slice_get}
use Rattle.std.proofs.lemmas.Result.{IfOk-weaker, on_err_weaker}
use Rattle.mdb_describe.specs.Descriptions.{failed}
use Rattle.mdb_describe.specs.Update.{updated}
use Rattle.mdb_pool.specs.Core.{PoolCore}
use Rattle.mdb_driver_pools.specs.declared.trouble.Asked.TheVariants.{CheckNow}
use Rattle.mdb_topology.specs.Changing.{IsTelling}
use Rattle.mdb_topology.specs.Complaining.{is_hard_now}
use Rattle.mdb_driver_rules.specs.Errors.{state_change, lost}
use Rattle.mdb_topology.specs.Marking.{IsOfPool, IsMarking}
use Rattle.mdb_driver_pools.specs.Standing.{at_address}
use Rattle.mdb_topology.proofs.Marks.OfOperations.{complaint-here, row_trouble, changed-of-pool, changed-marking, lost-of-pool, lost-marking, changed-case, lost-case}
use Rattle.mdb_topology.proofs.Marks.BecomesOfStep.{marks-become, marks-spare}
use Rattle.mdb_driver_rules.proofs.General.OnePosition.{some-same}
use Rattle.mdb_topology.proofs.WholeSteps.ComesBeforeMemory.{none-wants}
use Rattle.mdb_topology.proofs.topology.TopologyCore.mark_complaint.Goals as goal

pub mark-requires-clause-here : goal.mark-requires-clause-here
mark-requires-clause-here c s there =
    let w = c.args.self.now in
    let m = c.args.step.now.moment in
    let r = c.args.party in
    let e = c.args.error.now in
    let i = c.args.index in
    let l = c.requires.in_time in
    let q = c.requires.complains in
    subst (λ (u : PoolCore). at_address w.pools.cores.items u.address ≡ Some i) (some-same q.pool s (slice_get w.pools.cores.items i) q.there there)
    (complaint-here w c.requires.stands.0 c.requires.stands.1 m l r e i q.pool c.args.id q.held q.there q.has q.current)

pub returns-then-is_state_change_error-clause-becomes : goal.returns-then-is_state_change_error-clause-becomes
returns-then-is_state_change_error-clause-becomes c =
    let w = c.args.self.now in
    let m = c.args.step.now.moment in
    let r = c.args.party in
    let e = c.args.error.now in
    let i = c.args.index in
    let l = c.requires.in_time in
    let q = c.requires.complains in
    let p = c.at.result.now in
    let same : q.pool ≡ p = some-same q.pool p (slice_get w.pools.cores.items i) q.there c.at.ensures in
    let hard : is_hard_now q.pool c.args.id e ≡ c.is_hard-hard.result = ap (λ u. is_hard_now u c.args.id e) same ∙ sym c.is_hard-hard.ensures in
    let case = changed-case e (sym c.is_state_change_error.ensures ∙ c.if-is_state_change_error.true) in
    IfOk-weaker c.mark.result _ _ (λ stepped f h z.
    let x = row_trouble w h z m l r e i q.pool c.args.id q.held q.there q.has q.current state_change in
    let of =
    (subst (λ b. IsOfPool w.options (row_trouble w h z m l r e i q.pool c.args.id q.held q.there q.has q.current state_change) i q.pool.address e b CheckNow) hard
    (changed-of-pool w h z m l r e i q.pool c.args.id q.held q.there q.has q.current c.requires.normal)) in
    marks-become w h z c.args.step.now l q.pool.address e x
    (subst (λ b. IsMarking w h (record { moment = m; act = b }) (updated w.description (failed q.pool.address e)) (row_trouble w h z m l r e i q.pool c.args.id q.held q.there q.has q.current state_change)) (sym c.requires.act)
    (changed-marking w h z m l r e i q.pool c.args.id q.held q.there q.has q.current c.requires.normal case)) (subst IsTelling (sym c.requires.act) tt) stepped (f q.pool x q.there of)) c.mark.ensures.marks

pub returns-then-is_state_change_error-clause-wants : goal.returns-then-is_state_change_error-clause-wants
returns-then-is_state_change_error-clause-wants c =
    let w = c.args.self.now in
    let m = c.args.step.now.moment in
    let r = c.args.party in
    let e = c.args.error.now in
    let i = c.args.index in
    let l = c.requires.in_time in
    let q = c.requires.complains in
    let p = c.at.result.now in
    let same : q.pool ≡ p = some-same q.pool p (slice_get w.pools.cores.items i) q.there c.at.ensures in
    let hard : is_hard_now q.pool c.args.id e ≡ c.is_hard-hard.result = ap (λ u. is_hard_now u c.args.id e) same ∙ sym c.is_hard-hard.ensures in
    let case = changed-case e (sym c.is_state_change_error.ensures ∙ c.if-is_state_change_error.true) in
    on_err_weaker c.mark.result (λ f h z.
    let x = row_trouble w h z m l r e i q.pool c.args.id q.held q.there q.has q.current state_change in
    let of =
    (subst (λ b. IsOfPool w.options (row_trouble w h z m l r e i q.pool c.args.id q.held q.there q.has q.current state_change) i q.pool.address e b CheckNow) hard
    (changed-of-pool w h z m l r e i q.pool c.args.id q.held q.there q.has q.current c.requires.normal)) in
    none-wants w.options h c.args.step.now (marks-spare w h z c.args.step.now l q.pool.address e x
    (subst (λ b. IsMarking w h (record { moment = m; act = b }) (updated w.description (failed q.pool.address e)) (row_trouble w h z m l r e i q.pool c.args.id q.held q.there q.has q.current state_change)) (sym c.requires.act)
    (changed-marking w h z m l r e i q.pool c.args.id q.held q.there q.has q.current c.requires.normal case)) (subst IsTelling (sym c.requires.act) tt) (f q.pool x q.there of))) c.mark.ensures.spares

pub mark-requires-2-clause-here : goal.mark-requires-2-clause-here
mark-requires-2-clause-here c s there =
    let w = c.args.self.now in
    let m = c.args.step.now.moment in
    let r = c.args.party in
    let e = c.args.error.now in
    let i = c.args.index in
    let l = c.requires.in_time in
    let q = c.requires.complains in
    subst (λ (u : PoolCore). at_address w.pools.cores.items u.address ≡ Some i) (some-same q.pool s (slice_get w.pools.cores.items i) q.there there)
    (complaint-here w c.requires.stands.0 c.requires.stands.1 m l r e i q.pool c.args.id q.held q.there q.has q.current)

pub returns-clause-becomes : goal.returns-clause-becomes
returns-clause-becomes c =
    let w = c.args.self.now in
    let m = c.args.step.now.moment in
    let r = c.args.party in
    let e = c.args.error.now in
    let i = c.args.index in
    let l = c.requires.in_time in
    let q = c.requires.complains in
    let case = lost-case e (sym c.is_state_change_error.ensures ∙ c.if-is_state_change_error.false) q.row in
    IfOk-weaker c.mark-2.result _ _ (λ stepped f h z.
    let x = row_trouble w h z m l r e i q.pool c.args.id q.held q.there q.has q.current lost in
    let of = lost-of-pool w h z m l r e i q.pool c.args.id q.held q.there q.has q.current c.requires.normal case in
    marks-become w h z c.args.step.now l q.pool.address e x
    (subst (λ b. IsMarking w h (record { moment = m; act = b }) (updated w.description (failed q.pool.address e)) (row_trouble w h z m l r e i q.pool c.args.id q.held q.there q.has q.current lost)) (sym c.requires.act)
    (lost-marking w h z m l r e i q.pool c.args.id q.held q.there q.has q.current c.requires.normal case)) (subst IsTelling (sym c.requires.act) tt) stepped (f q.pool x q.there of)) c.mark-2.ensures.marks

pub returns-clause-wants : goal.returns-clause-wants
returns-clause-wants c =
    let w = c.args.self.now in
    let m = c.args.step.now.moment in
    let r = c.args.party in
    let e = c.args.error.now in
    let i = c.args.index in
    let l = c.requires.in_time in
    let q = c.requires.complains in
    let case = lost-case e (sym c.is_state_change_error.ensures ∙ c.if-is_state_change_error.false) q.row in
    on_err_weaker c.mark-2.result (λ f h z.
    let x = row_trouble w h z m l r e i q.pool c.args.id q.held q.there q.has q.current lost in
    let of = lost-of-pool w h z m l r e i q.pool c.args.id q.held q.there q.has q.current c.requires.normal case in
    none-wants w.options h c.args.step.now (marks-spare w h z c.args.step.now l q.pool.address e x
    (subst (λ b. IsMarking w h (record { moment = m; act = b }) (updated w.description (failed q.pool.address e)) (row_trouble w h z m l r e i q.pool c.args.id q.held q.there q.has q.current lost)) (sym c.requires.act)
    (lost-marking w h z m l r e i q.pool c.args.id q.held q.there q.has q.current c.requires.normal case)) (subst IsTelling (sym c.requires.act) tt) (f q.pool x q.there of))) c.mark-2.ensures.spares
