use Rattle.std.proofs.Common.{◌∙◌, sym, subst}
use Rattle.std.specs.Prelude.{All}
use Rattle.mdb_log.specs.Acts.{IsPoolAct}
use Rattle.mdb_log.specs.declared.step.Step.{Step}
use Rattle.mdb_pool.specs.Planning.{LeadsTo}
use Rattle.mdb_pool.specs.Refusing.{TellsNew}
use Rattle.mdb_pool.proofs.Answered.NewParties.{named_tells}
use Rattle.mdb_driver_pools.proofs.InMemory.LivingPools.{some-living}
use Rattle.mdb_driver_pools.proofs.OnePool.OneAnswer.{all-one-step}
use Rattle.mdb_driver_pools.proofs.OnePool.PlannedAct.{some-told, done-told}
use Rattle.mdb_driver_pools.proofs.planning.plan_one.Goals as goal

pub prepare-requires-clause-acts : goal.prepare-requires-clause-acts
prepare-requires-clause-acts c = λ s at. subst (All (λ (step : Step). IsPoolAct s.pool step.act)) (sym c.from_ref.ensures.value) (all-one-step s.pool c.args.step (c.requires.act s at))

pub prepare-requires-clause-new : goal.prepare-requires-clause-new
prepare-requires-clause-new c = λ s at. subst (TellsNew s) (sym c.from_ref.ensures.value) (named_tells s c.args.step.act c.requires.nobody, tt)

pub unreachable-requires : goal.unreachable-requires
unreachable-requires c =
    let s = some-living c.args.cores.now.items c.args.index c.requires.there in
    let told = c.in_ok-answers.answers.items in
    let plan = c.in_ok-answers.ensures.plan s.0 s.1 in
    some-told s.0 plan.0 c.args.step told (subst (λ steps. LeadsTo s.0 plan.0 steps told) c.from_ref.ensures.value (c.in_ok-answers.ensures.does s.0 plan.0 s.1 plan.1)) (sym c.in_ok-answers.answers.ok.0 ∙ c.in_default.ensures.cases.0)

pub returns-clause-does : goal.returns-clause-does
returns-clause-does c =
    let told = c.in_ok-answers.answers.items in
    λ s t at p.
    done-told s t c.args.step told (subst (λ steps. LeadsTo s t steps told) c.from_ref.ensures.value (c.in_ok-answers.ensures.does s t at p)) c.pop.new.self.items c.in-Some.answered (c.requires.accepted s at) c.in-Some.ensures.items
