use Rattle.mdb_pool.proofs.Answered.Collect.{collect-accepts}
use Rattle.mdb_pool.proofs.kept.draft.Draft.accept_collect.Goals as goal

pub returns-clause-accepts : goal.returns-clause-accepts
returns-clause-accepts c = λ xs z. collect-accepts c.args.self.now c.set_last.new.self c.serve.new.self c.tell.new.self c.args.facts.now.items c.serve.new.facts.items c.args.moment c.args.request c.in_ok-reply.reply xs z c.set_last.ensures.core c.in_ok-serve.ensures.home c.in_ok-serve.ensures.notes c.in_ok-serve.ensures.serves c.in_ok-reply.ensures.core c.in_ok-reply.ensures.reply
