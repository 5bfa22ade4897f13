use Rattle.std.proofs.Common.{◌≡◌, ◌∙◌, sym, ap, subst}
use Rattle.mdb_pool.specs.Kept.Body.{pool_of, led, PoolFits}
use Rattle.mdb_pool.specs.Core.{PoolCore, SameKept}
use Rattle.mdb_pool.proofs.SameAnswers.KeptTheSame.{prepared_same}
use Rattle.mdb_pool.proofs.kept.draft.Draft.answered_all.Goals as goal

pub returns-in-Ok-clause-fits : goal.returns-in-Ok-clause-fits
returns-in-Ok-clause-fits c = subst (λ i. PoolFits c.undo-plan.result i) c.answer_all-answers.ensures.inner c.undo-plan.ensures.fits

pub returns-in-Ok-clause-does : goal.returns-in-Ok-clause-does
returns-in-Ok-clause-does c =
    let s = c.args.self.now in let d = c.answer_all-answers.new.self in
    let back : c.undo-plan.new.self ≡ s = c.undo-plan.ensures.now ∙ (ap pool_of c.answer_all-answers.ensures.inner ∙ sym c.requires.committed) in
    (d, subst (λ (p : PoolCore). SameKept d (led c.undo-plan.result p)) back c.undo-plan.ensures.leads, c.in-Ok.ensures.does)

pub returns-in-Ok-clause-prepared : goal.returns-in-Ok-clause-prepared
returns-in-Ok-clause-prepared c =
    let s = c.args.self.now in let d = c.answer_all-answers.new.self in
    let back : c.undo-plan.new.self ≡ s = c.undo-plan.ensures.now ∙ (ap pool_of c.answer_all-answers.ensures.inner ∙ sym c.requires.committed) in
    let same : SameKept d (led c.undo-plan.result s) = subst (λ (p : PoolCore). SameKept d (led c.undo-plan.result p)) back c.undo-plan.ensures.leads in
    λ h z. prepared_same s d (led c.undo-plan.result s) c.args.steps.now c.in-Ok.answers.items h same (c.in-Ok.ensures.prepared h z)
