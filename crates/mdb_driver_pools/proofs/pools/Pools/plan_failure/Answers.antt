use Rattle.std.proofs.Common.{◌≡◌, true, Some, None, refl, sym, ◌∙◌, ap, subst}
use Rattle.std.specs.Prelude.{slice_get}
use Rattle.std.proofs.lemmas.Result.{on_ok_weaker}
use Rattle.mdb_log.specs.Acts.{IsPoolAct}
use Rattle.mdb_log.specs.declared.step.Act.{Act}
use Rattle.mdb_log.specs.declared.step.Act.TheVariants.{Clear as ClearAct}
use Rattle.mdb_pool.specs.Core.{PoolCore}
use Rattle.mdb_pool.specs.Planning.{IsDone}
use Rattle.mdb_pool.specs.Refusing.{names_nobody, refusal_now}
use Rattle.mdb_driver_pools.specs.Failing.{Fails, PlansTwo}
use Rattle.mdb_driver_pools.specs.Clearing.{clear_act}
use Rattle.mdb_driver_rules.proofs.General.OnePosition.{some-same}
use Rattle.mdb_driver_pools.proofs.OnePool.TwoSteps.{two-as}
use Rattle.mdb_driver_pools.proofs.InMemory.LivingPools.{some-living}
use Rattle.mdb_driver_pools.proofs.pools.Pools.plan_failure.Goals as goal

pub plan_both-requires-clause-acts : goal.plan_both-requires-clause-acts
plan_both-requires-clause-acts c = λ s at.
    let pools = c.args.self.now.cores.items in
    let i = c.args.trouble.now.index in
    let p = c.at.result.now in
    let at_i : slice_get pools i ≡ Some p = c.at.ensures in
    (c.number.ensures ∙ ap (λ (x : PoolCore). x.pool) (some-same p s (slice_get pools i) at_i at), subst (λ a. IsPoolAct s.pool a) (sym (c.requires.failing s at).act_is) tt)

pub plan_both-requires-clause-accepted : goal.plan_both-requires-clause-accepted
plan_both-requires-clause-accepted c = λ s at.
    let pools = c.args.self.now.cores.items in
    let i = c.args.trouble.now.index in
    let p = c.at.result.now in
    let at_i : slice_get pools i ≡ Some p = c.at.ensures in
    let same : ClearAct c.number.result c.args.trouble.now.service c.in_ok-error.error ≡ clear_act c.args.trouble.now.service c.args.trouble.now.error.now s.pool =
    ap (λ n. ClearAct n c.args.trouble.now.service c.in_ok-error.error) (c.number.ensures ∙ ap (λ (x : PoolCore). x.pool) (some-same p s (slice_get pools i) at_i at)) ∙ ap (λ e. ClearAct s.pool c.args.trouble.now.service e) c.in_ok-error.ensures in
    subst (λ (x : Act). refusal_now s (record { moment = c.args.step.now.moment; act = x }) ≡ None) (sym same) (c.requires.accepted c.if-not-wanted.false s at)

pub plan_both-requires-clause-still : goal.plan_both-requires-clause-still
plan_both-requires-clause-still c = λ s at t a d.
    let pools = c.args.self.now.cores.items in
    let i = c.args.trouble.now.index in
    let p = c.at.result.now in
    let at_i : slice_get pools i ≡ Some p = c.at.ensures in
    let same : ClearAct c.number.result c.args.trouble.now.service c.in_ok-error.error ≡ clear_act c.args.trouble.now.service c.args.trouble.now.error.now s.pool =
    ap (λ n. ClearAct n c.args.trouble.now.service c.in_ok-error.error) (c.number.ensures ∙ ap (λ (x : PoolCore). x.pool) (some-same p s (slice_get pools i) at_i at)) ∙ ap (λ e. ClearAct s.pool c.args.trouble.now.service e) c.in_ok-error.ensures in
    c.requires.still s at t a (subst (λ (x : Act). IsDone s t (record { moment = c.args.step.now.moment; act = x }) a) same d)

pub returns-then-not-wanted-clause-fails : goal.returns-then-not-wanted-clause-fails
returns-then-not-wanted-clause-fails c =
    let pools = c.args.self.now.cores.items in
    on_ok_weaker c.plan_failed.result (λ planned.
    subst (λ b. Fails b pools c.args.trouble.now.index c.args.step.now c.args.trouble.now.service c.args.trouble.now.error.now c.args.trouble.now.asked c.args.changes.now.items c.plan_failed.new.changes.items c.args.facts.now.items c.plan_failed.new.facts.items) (sym c.if-not-wanted.true) planned) c.plan_failed.ensures.planned

pub returns-clause-fails : goal.returns-clause-fails
returns-clause-fails c =
    let pools = c.args.self.now.cores.items in
    let i = c.args.trouble.now.index in
    let p = c.at.result.now in
    let before = c.args.facts.now.items in
    let after = c.plan_both.new.facts.items in
    let earlier = c.args.changes.now.items in
    let changes = c.plan_both.new.changes.items in
    let at_i : slice_get pools i ≡ Some p = c.at.ensures in
    let one : Act = ClearAct c.number.result c.args.trouble.now.service c.in_ok-error.error in
    let same : one ≡ clear_act c.args.trouble.now.service c.args.trouble.now.error.now p.pool = ap (λ n. ClearAct n c.args.trouble.now.service c.in_ok-error.error) c.number.ensures ∙ ap (λ e. ClearAct p.pool c.args.trouble.now.service e) c.in_ok-error.ensures in
    on_ok_weaker c.plan_both.result (λ planned.
    let d : PlansTwo pools i (clear_act c.args.trouble.now.service c.args.trouble.now.error.now) c.args.step.now c.args.trouble.now.asked earlier changes before after =
    two-as pools i one (clear_act c.args.trouble.now.service c.args.trouble.now.error.now) c.args.step.now c.args.trouble.now.asked earlier changes before after
    (λ x get. same ∙ ap (λ (y : PoolCore). clear_act c.args.trouble.now.service c.args.trouble.now.error.now y.pool) (some-same p x (slice_get pools i) at_i get)) planned in
    subst (λ b. Fails b pools i c.args.step.now c.args.trouble.now.service c.args.trouble.now.error.now c.args.trouble.now.asked earlier changes before after) (sym c.if-not-wanted.false)
    (d, c.requires.accepted c.if-not-wanted.false d.pool d.there)) c.plan_both.ensures.planned

pub plan_both-requires-clause-nobody : goal.plan_both-requires-clause-nobody
plan_both-requires-clause-nobody c =
    let s = some-living c.args.self.now.cores.items c.args.trouble.now.index c.requires.there in
    (refl, subst (λ a. names_nobody a ≡ true) (sym (c.requires.failing s.0 s.1).act_is) refl)
