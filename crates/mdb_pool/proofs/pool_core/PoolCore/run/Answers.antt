use Rattle.std.proofs.Common.{rules, ℕ, List, ◌≡◌, ◌++◌, ◌∷◌, [], take, ◌+◌, sym, ◌∙◌, subst, arith}
use Rattle.std.proofs.lemmas.Grind.{common_steps}
use Rattle.mdb_log.specs.Acts.{IsPoolAct}
use Rattle.mdb_log.specs.declared.step.Step.{Step}
use Rattle.mdb_log.specs.declared.log.Entry.{Entry}
use Rattle.mdb_pool.specs.Now.{queries}
use Rattle.mdb_pool.specs.Core.{PoolCore}
use Rattle.mdb_pool.specs.Standing.{SameHome, Runs}
use Rattle.mdb_pool.proofs.Answered.Steps.{on-error}
use Rattle.mdb_pool.proofs.Histories.StepsInOrder.{run-more}
use Rattle.mdb_pool.proofs.pool_core.PoolCore.run.Goals as goal

pub loop-step-preserved : goal.loop-step-preserved
loop-step-preserved c =
    let more : take (c.loop-step.step-index + 1) c.args.steps.now ≡ take c.loop-step.step-index c.args.steps.now ++ c.step-item.result ∷ [] = grind (arith, common_steps) in
    record {
      home = record {
        pool = c.in_ok-step.ensures.home.pool ∙ c.loop-step.invariant.home.pool;
        address = c.in_ok-step.ensures.home.address ∙ c.loop-step.invariant.home.address;
        options = c.in_ok-step.ensures.home.options ∙ c.loop-step.invariant.home.options;
        alone = c.in_ok-step.ensures.home.alone ∙ c.loop-step.invariant.home.alone;
      };
      runs = λ h z i. subst (λ steps. Runs c.args.self.now c.step.new.self c.args.log.now c.step.new.log c.args.seat steps h) (sym more) (run-more c.args.self.now c.loop-step.self c.step.new.self c.args.log.now c.loop-step.log c.step.new.log (take c.loop-step.step-index c.args.steps.now) c.args.seat c.step-item.result h c.loop-step.invariant.home c.in_ok-step.ensures.home (c.loop-step.invariant.runs h z i) c.in_ok-step.ensures.logs);
    }

pub step-requires-clause-alone : goal.step-requires-clause-alone
unfolding queries
step-requires-clause-alone c = c.loop-step.invariant.home.alone ∙ c.requires.alone

pub step-requires-clause-act : goal.step-requires-clause-act
step-requires-clause-act c =
    let taken : IsPoolAct c.args.self.now.pool c.step-item.result.act = search rules in
    subst (λ p. IsPoolAct p c.step-item.result.act) (sym c.loop-step.invariant.home.pool) taken

pub returns-in_err-step-clause-begun : goal.returns-in_err-step-clause-begun
returns-in_err-step-clause-begun c =
    let s = c.args.self.now in let n : ℕ = c.loop-step.step-index in
    let first : List Step = take n c.args.steps.now in
    on-error c.from_residual.result (λ h z i. (
      n,
      subst (λ (t : PoolCore). Runs s t c.args.log.now c.step.new.log c.args.seat first h) (sym c.in_err-step.ensures.err_core) (subst (λ (log : List Entry). Runs s c.loop-step.self c.args.log.now log c.args.seat first h) (sym c.in_err-step.ensures.err_log) (c.loop-step.invariant.runs h z i)),
    ))

pub returns-in_err-step-clause-home : goal.returns-in_err-step-clause-home
returns-in_err-step-clause-home c = subst (λ (t : PoolCore). SameHome c.args.self.now t) (sym c.in_err-step.ensures.err_core) c.loop-step.invariant.home
