use Rattle.std.proofs.Common.{rules, ◌≡◌, ◌∙◌, [], None, Some, subst, sym}
use Rattle.mdb_pool.specs.Refusing.{refusal_now}
use Rattle.mdb_pool.specs.Standing.{Answers}
use Rattle.mdb_log.specs.declared.reply.Reply.TheVariants.{Refused as RefusedBy}
use Rattle.mdb_pool.proofs.Answered.Steps.{does-answers, refuses-now}
use Rattle.mdb_pool.proofs.kept.draft.Draft.answer.Goals as goal

pub returns-clause-answers : goal.returns-clause-answers
returns-clause-answers c =
    let s = c.args.self.now in let t = c.accept.new.self in let reply = c.in_ok-reply.reply in
    let none : refusal_now s c.args.step.now ≡ None = search rules in
    λ h z. subst (λ after. Answers s t [] after c.args.step.now reply h) (sym c.new-2.ensures)
    (subst (λ before. Answers s t before c.accept.new.facts.items c.args.step.now reply h) c.new-facts.ensures.items
    (does-answers s c.args.step.now none t c.new-facts.result.items c.accept.new.facts.items reply c.in_ok-reply.ensures.home c.in_ok-reply.ensures.last c.in_ok-reply.ensures.does h z))

pub returns-in-Some-clause-answers : goal.returns-in-Some-clause-answers
returns-in-Some-clause-answers c =
    let s = c.args.self.now in
    let why : refusal_now s c.args.step.now ≡ Some c.in-Some.why = search rules in
    λ h z. subst (λ after. Answers s s [] after c.args.step.now (RefusedBy c.in-Some.why) h) (sym (c.new-in-Some.ensures ∙ c.new.ensures.items)) (refuses-now s [] c.args.step.now c.in-Some.why why h z)
