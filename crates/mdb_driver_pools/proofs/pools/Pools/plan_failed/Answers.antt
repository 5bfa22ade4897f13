use Rattle.std.proofs.Common.{◌≡◌, ◌++◌, true, false, Some, None, refl, sym, ◌∙◌, ap, subst}
use Rattle.std.specs.Prelude.{slice_get}
use Rattle.std.proofs.lemmas.Result.{on_ok_weaker}
use Rattle.mdb_log.specs.Acts.{IsPoolAct}
use Rattle.mdb_log.specs.declared.step.Step.{Step}
use Rattle.mdb_pool.specs.Refusing.{names_nobody, refusal_now}
use Rattle.mdb_driver_pools.specs.Acting.{PlansOne}
use Rattle.mdb_driver_pools.specs.Clearing.{asked_of}
use Rattle.mdb_driver_pools.proofs.InMemory.LivingPools.{some-living}
use Rattle.mdb_driver_pools.proofs.pools.Pools.plan_failed.Goals as goal

pub plan_act-requires-clause-accepted : goal.plan_act-requires-clause-accepted
plan_act-requires-clause-accepted c = λ s at.
    let d = c.requires.failing s at in
    (subst (λ a. IsPoolAct s.pool a) (sym (ap (λ (x : Step). x.act) c.in_ok-step.ensures.cases ∙ d.act_is)) tt, subst (λ x. refusal_now s x ≡ None) (sym c.in_ok-step.ensures.cases) d.accepted)

pub returns-clause-planned : goal.returns-clause-planned
returns-clause-planned c =
    let pools = c.args.self.now.cores.items in
    let s = c.at.result.now in
    let i = c.args.trouble.now.index in
    let before = c.args.facts.now.items in
    let after = c.plan_act.new.facts.items in
    let earlier = c.args.changes.now.items in
    let changes = c.plan_act.new.changes.items in
    let at_i : slice_get pools i ≡ Some s = c.at.ensures in
    let asks : c.ask.new.facts.items ≡ before ++ asked_of c.args.trouble.now.asked false s.address = c.in_ok-ask.ensures ∙ ap (λ a. before ++ asked_of c.args.trouble.now.asked false a) c.address.ensures in
    on_ok_weaker c.plan_act.result (λ one. record {
      pool = s;
      there = at_i;
      one =
          subst (λ fs. PlansOne pools i c.args.step.now.moment (λ p. c.args.step.now.act) earlier changes fs after) asks
          (subst (λ (x : Step). PlansOne pools i x.moment (λ p. x.act) earlier changes c.ask.new.facts.items after) c.in_ok-step.ensures.cases one);
    }) c.plan_act.ensures.planned

pub plan_act-requires-clause-nobody : goal.plan_act-requires-clause-nobody
plan_act-requires-clause-nobody c =
    let s = some-living c.args.self.now.cores.items c.args.trouble.now.index c.requires.there in
    subst (λ a. names_nobody a ≡ true) (sym (ap (λ (x : Step). x.act) c.in_ok-step.ensures.cases ∙ (c.requires.failing s.0 s.1).act_is)) refl
