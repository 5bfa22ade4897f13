use Rattle.mdb_pool.proofs.Answered.MarkReady.{ready-accepts}
use Rattle.mdb_pool.proofs.kept.draft.Draft.accept_ready.Goals as goal

pub returns-clause-accepts : goal.returns-clause-accepts
returns-clause-accepts c = λ xs z. ready-accepts c.args.self.now c.make_ready.new.self c.serve.new.self c.args.facts.now.items c.make_ready.new.facts.items c.serve.new.facts.items c.args.moment c.args.pool xs z c.in_ok-make_ready.ensures.core c.in_ok-make_ready.ensures.facts c.in_ok-serve.ensures.home c.in_ok-serve.ensures.notes c.in_ok-serve.ensures.serves
