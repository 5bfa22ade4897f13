use Rattle.std.proofs.Common.{◌≡◌, [], ◌∷◌, ◌++◌, sym, ◌∙◌, ap, subst}
use Rattle.std.specs.Prelude.{All}
use Rattle.std.proofs.lemmas.Bool.{or_right}
use Rattle.mdb_log.specs.Acts.{IsPoolAct}
use Rattle.mdb_log.specs.declared.step.Step.{Step}
use Rattle.mdb_pool.specs.Planning.{LeadsTo}
use Rattle.mdb_pool.specs.Now.{alone_now}
use Rattle.mdb_pool.specs.Refusing.{names_nobody, TellsNew}
use Rattle.mdb_pool.proofs.Answered.NewParties.{named_tells}
use Rattle.mdb_driver_pools.proofs.InMemory.LivingPools.{some-living}
use Rattle.mdb_driver_pools.proofs.OnePool.OneAnswer.{all-two-steps}
use Rattle.mdb_driver_pools.proofs.OnePool.TwoSteps.{two-some, two-more, two-done}
use Rattle.mdb_driver_pools.proofs.failing.plan_two.Goals as goal

pub prepare-requires-clause-acts : goal.prepare-requires-clause-acts
prepare-requires-clause-acts c =
    let steps : c.deref.result.now ≡ c.args.first ∷ c.args.second.now ∷ [] =
    c.deref.ensures.value ∙ (c.in_ok-push-2.ensures.items ∙ (ap (λ xs. xs ++ c.in_ok-second.second ∷ []) (c.in_ok-push.ensures.items ∙ ap (λ xs. xs ++ c.args.first ∷ []) c.new-steps.ensures.items) ∙ ap (λ x. c.args.first ∷ x ∷ []) c.in_ok-second.ensures.cases)) in
    λ s at. subst (All (λ (step : Step). IsPoolAct s.pool step.act)) (sym steps) (all-two-steps s.pool c.args.first c.args.second.now (c.requires.acts s at).0 (c.requires.acts s at).1)

pub prepare-requires-clause-new : goal.prepare-requires-clause-new
prepare-requires-clause-new c =
    let steps : c.deref.result.now ≡ c.args.first ∷ c.args.second.now ∷ [] =
    c.deref.ensures.value ∙ (c.in_ok-push-2.ensures.items ∙ (ap (λ xs. xs ++ c.in_ok-second.second ∷ []) (c.in_ok-push.ensures.items ∙ ap (λ xs. xs ++ c.args.first ∷ []) c.new-steps.ensures.items) ∙ ap (λ x. c.args.first ∷ x ∷ []) c.in_ok-second.ensures.cases)) in
    λ s at. subst (TellsNew s) (sym steps) (named_tells s c.args.first.act c.requires.nobody.0, (or_right (alone_now s) (names_nobody c.args.second.now.act) c.requires.nobody.1, tt))

pub unreachable-requires : goal.unreachable-requires
unreachable-requires c =
    let s = some-living c.args.cores.now.items c.args.index c.requires.there in
    let told = c.in_ok-answers.answers.items in
    let plan = c.in_ok-answers.ensures.plan s.0 s.1 in
    let steps : c.deref.result.now ≡ c.args.first ∷ c.args.second.now ∷ [] =
    c.deref.ensures.value ∙ (c.in_ok-push-2.ensures.items ∙ (ap (λ xs. xs ++ c.in_ok-second.second ∷ []) (c.in_ok-push.ensures.items ∙ ap (λ xs. xs ++ c.args.first ∷ []) c.new-steps.ensures.items) ∙ ap (λ x. c.args.first ∷ x ∷ []) c.in_ok-second.ensures.cases)) in
    two-some s.0 plan.0 c.args.first c.args.second.now told (subst (λ xs. LeadsTo s.0 plan.0 xs told) steps (c.in_ok-answers.ensures.does s.0 plan.0 s.1 plan.1)) (sym c.in_ok-answers.answers.ok.0 ∙ c.in_default.ensures.cases.0)

pub unreachable-requires-in_default-pop : goal.unreachable-requires-in_default-pop
unreachable-requires-in_default-pop c =
    let s = some-living c.args.cores.now.items c.args.index c.requires.there in
    let told = c.in_ok-answers.answers.items in
    let plan = c.in_ok-answers.ensures.plan s.0 s.1 in
    let steps : c.deref.result.now ≡ c.args.first ∷ c.args.second.now ∷ [] =
    c.deref.ensures.value ∙ (c.in_ok-push-2.ensures.items ∙ (ap (λ xs. xs ++ c.in_ok-second.second ∷ []) (c.in_ok-push.ensures.items ∙ ap (λ xs. xs ++ c.args.first ∷ []) c.new-steps.ensures.items) ∙ ap (λ x. c.args.first ∷ x ∷ []) c.in_ok-second.ensures.cases)) in
    two-more s.0 plan.0 c.args.first c.args.second.now told (subst (λ xs. LeadsTo s.0 plan.0 xs told) steps (c.in_ok-answers.ensures.does s.0 plan.0 s.1 plan.1)) c.pop.new.self.items c.in-Some.later c.in-Some.ensures.items
    (sym c.pop.new.self.ok.0 ∙ c.in_default-pop.ensures.cases.0)

pub returns-clause-planned : goal.returns-clause-planned
returns-clause-planned c =
    let told = c.in_ok-answers.answers.items in
    let steps : c.deref.result.now ≡ c.args.first ∷ c.args.second.now ∷ [] =
    c.deref.ensures.value ∙ (c.in_ok-push-2.ensures.items ∙ (ap (λ xs. xs ++ c.in_ok-second.second ∷ []) (c.in_ok-push.ensures.items ∙ ap (λ xs. xs ++ c.args.first ∷ []) c.new-steps.ensures.items) ∙ ap (λ x. c.args.first ∷ x ∷ []) c.in_ok-second.ensures.cases)) in
    λ s at.
    record {
      plan = c.in_ok-answers.plan;
      made = c.in_ok-answers.ensures.plan s at;
      does = λ u p.
          two-done s u c.args.first c.args.second.now told (subst (λ xs. LeadsTo s u xs told) steps (c.in_ok-answers.ensures.does s u at p))
          c.pop-2.new.self.items c.in-Some-pop.sooner c.in-Some.later
          (c.in-Some.ensures.items ∙ ap (λ xs. xs ++ c.in-Some.later ∷ []) c.in-Some-pop.ensures.items) (c.requires.accepted s at) (c.requires.still s at);
      behind = c.in_ok-push-3.ensures.items;
    }
