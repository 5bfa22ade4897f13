use Rattle.std.proofs.Common.{◌≡◌, Some, None, sym, ◌∙◌, ap, subst}
use Rattle.std.specs.Prelude.{slice_get}
use Rattle.std.proofs.lemmas.Result.{on_ok_weaker}
use Rattle.mdb_log.specs.declared.step.Act.{Act}
use Rattle.mdb_log.specs.declared.step.Act.TheVariants.{Clear as ClearAct}
use Rattle.mdb_pool.specs.Core.{PoolCore}
use Rattle.mdb_pool.specs.Refusing.{refusal_now}
use Rattle.mdb_driver_pools.specs.Acting.{PlansOne}
use Rattle.mdb_driver_pools.specs.Clearing.{Clears, clear_act}
use Rattle.mdb_driver_rules.proofs.General.OnePosition.{some-same}
use Rattle.mdb_driver_pools.proofs.OnePool.PlannedAct.{planned-as}
use Rattle.mdb_driver_pools.proofs.pools.Pools.plan_clear.Goals as goal

pub plan_act-requires-clause-accepted : goal.plan_act-requires-clause-accepted
plan_act-requires-clause-accepted c s there =
    let pools = c.args.self.now.cores.items in
    let i = c.args.trouble.now.index in
    let p = c.at.result.now in
    let e = c.in_ok-error.error in
    let at_i : slice_get pools i ≡ Some p = c.at.ensures in
    let number : c.number.result ≡ s.pool = c.number.ensures ∙ ap (λ (x : PoolCore). x.pool) (some-same p s (slice_get pools i) at_i there) in
    let same : ClearAct c.number.result c.args.trouble.now.service e ≡ clear_act c.args.trouble.now.service c.args.trouble.now.error.now s.pool = ap (λ n. ClearAct n c.args.trouble.now.service e) number ∙ ap (λ x. ClearAct s.pool c.args.trouble.now.service x) c.in_ok-error.ensures in
    (number, subst (λ (a : Act). refusal_now s (record { moment = c.args.moment; act = a }) ≡ None) (sym same) (c.requires.accepted c.if-not-wanted.false s there))

pub returns-clause-clears : goal.returns-clause-clears
returns-clause-clears c =
    let pools = c.args.self.now.cores.items in
    let m = c.args.moment in
    let i = c.args.trouble.now.index in
    let s = c.at.result.now in
    let e = c.in_ok-error.error in
    let at_i : slice_get pools i ≡ Some s = c.at.ensures in
    let one : Act = ClearAct c.number.result c.args.trouble.now.service e in
    let same : one ≡ clear_act c.args.trouble.now.service c.args.trouble.now.error.now s.pool = ap (λ p. ClearAct p c.args.trouble.now.service e) c.number.ensures ∙ ap (λ x. ClearAct s.pool c.args.trouble.now.service x) c.in_ok-error.ensures in
    on_ok_weaker c.plan_act.result (λ planned.
    let d : PlansOne pools i m (clear_act c.args.trouble.now.service c.args.trouble.now.error.now) c.args.changes.now.items c.plan_act.new.changes.items c.args.facts.now.items c.plan_act.new.facts.items =
    planned-as pools i m one (clear_act c.args.trouble.now.service c.args.trouble.now.error.now) c.args.changes.now.items c.plan_act.new.changes.items c.args.facts.now.items c.plan_act.new.facts.items
    (λ x get. same ∙ ap (λ (y : PoolCore). clear_act c.args.trouble.now.service c.args.trouble.now.error.now y.pool) (some-same s x (slice_get pools i) at_i get)) planned in
    subst (λ b. Clears b pools i m c.args.trouble.now.service c.args.trouble.now.error.now c.args.changes.now.items c.plan_act.new.changes.items c.args.facts.now.items c.plan_act.new.facts.items) (sym c.if-not-wanted.false)
    (d, c.requires.accepted c.if-not-wanted.false d.pool d.there)) c.plan_act.ensures.planned
