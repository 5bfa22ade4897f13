use Rattle.mdb_pool.proofs.Answered.Steps.{does-answers}
use Rattle.mdb_pool.proofs.kept.draft.Draft.perform.Goals as goal

pub returns-clause-answers : goal.returns-clause-answers
returns-clause-answers c = does-answers c.args.self.now c.args.step.now c.requires.passes c.accept.new.self c.args.facts.now.items c.accept.new.facts.items c.in_ok-reply.reply c.in_ok-reply.ensures.home c.in_ok-reply.ensures.last c.in_ok-reply.ensures.does
