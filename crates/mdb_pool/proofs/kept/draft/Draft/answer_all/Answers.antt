use Rattle.std.proofs.Common.{rules, List, ◌≡◌, ◌++◌, ◌∷◌, [], take, drop, ◌+◌, sym, ◌∙◌, subst, arith}
use Rattle.std.proofs.lemmas.Grind.{common_steps}
use Rattle.mdb_log.specs.Acts.{IsPoolAct}
use Rattle.mdb_log.specs.declared.step.Step.{Step}
use Rattle.mdb_pool.specs.declared.planning.Answered.{Answered}
use Rattle.mdb_pool.specs.Planning.{DoesAll, IsPrepared}
use Rattle.mdb_pool.specs.Refusing.{TellsNew}
use Rattle.mdb_pool.proofs.Answered.NewParties.{tells-on}
use Rattle.mdb_pool.proofs.Answered.Steps.{does-more, prepared-more}
use Rattle.mdb_pool.proofs.kept.draft.Draft.answer_all.Goals as goal

pub loop-step-preserved : goal.loop-step-preserved
loop-step-preserved c =
    let s = c.args.self.now in let t = c.loop-step.self in let u = c.answer.new.self in
    let done : List Step = take c.loop-step.step-index c.args.steps.now in
    let one : Answered = c.in_ok-answered.answered in
    let more : take (c.loop-step.step-index + 1) c.args.steps.now ≡ done ++ c.step-item.result ∷ [] = grind (arith, common_steps) in
    let rest : drop c.loop-step.step-index c.args.steps.now ≡ c.step-item.result ∷ drop (c.loop-step.step-index + 1) c.args.steps.now = grind (arith, common_steps) in
    let pushed : c.push.new.self.items ≡ c.loop-step.answers.items ++ one ∷ [] = search rules in
    record {
      inner = c.answer.ensures.inner ∙ c.loop-step.invariant.inner;
      home = record {
        pool = c.in_ok-answered.ensures.home.pool ∙ c.loop-step.invariant.home.pool;
        address = c.in_ok-answered.ensures.home.address ∙ c.loop-step.invariant.home.address;
        options = c.in_ok-answered.ensures.home.options ∙ c.loop-step.invariant.home.options;
        alone = c.in_ok-answered.ensures.home.alone ∙ c.loop-step.invariant.home.alone;
      };
      new = tells-on t u c.step-item.result (drop (c.loop-step.step-index + 1) c.args.steps.now) c.in_ok-answered.ensures.home.alone (subst (TellsNew t) rest c.loop-step.invariant.new);
      does = subst (DoesAll s u (take (c.loop-step.step-index + 1) c.args.steps.now)) (sym pushed) (subst (λ steps. DoesAll s u steps (c.loop-step.answers.items ++ one ∷ [])) (sym more) (does-more s t u done c.step-item.result c.loop-step.answers.items one c.loop-step.invariant.does c.in_ok-answered.ensures.one));
      prepared = λ h z. subst (λ told. IsPrepared s u (take (c.loop-step.step-index + 1) c.args.steps.now) told h) (sym pushed) (subst (λ steps. IsPrepared s u steps (c.loop-step.answers.items ++ one ∷ []) h) (sym more) (prepared-more s t u done c.step-item.result c.loop-step.answers.items one h c.loop-step.invariant.home (c.loop-step.invariant.prepared h z) c.in_ok-answered.ensures.answers));
    }

pub answer-requires-clause-act : goal.answer-requires-clause-act
answer-requires-clause-act c =
    let taken : IsPoolAct c.args.self.now.pool c.step-item.result.act = search rules in
    subst (λ p. IsPoolAct p c.step-item.result.act) (sym c.loop-step.invariant.home.pool) taken

pub answer-requires-clause-new : goal.answer-requires-clause-new
answer-requires-clause-new c =
    let rest : drop c.loop-step.step-index c.args.steps.now ≡ c.step-item.result ∷ drop (c.loop-step.step-index + 1) c.args.steps.now = grind (arith, common_steps) in
    let tells : TellsNew c.loop-step.self (c.step-item.result ∷ drop (c.loop-step.step-index + 1) c.args.steps.now) = subst (TellsNew c.loop-step.self) rest c.loop-step.invariant.new in
    tells.0
