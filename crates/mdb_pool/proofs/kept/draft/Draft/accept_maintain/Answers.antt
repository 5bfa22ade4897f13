use Rattle.mdb_pool.proofs.Answered.Maintain.{maintain-accepts}
use Rattle.mdb_pool.proofs.kept.draft.Draft.accept_maintain.Goals as goal

pub returns-clause-accepts : goal.returns-clause-accepts
returns-clause-accepts c = λ xs z. maintain-accepts c.args.self.now c.set_last.new.self c.sweep.new.self c.fill.new.self c.serve.new.self c.args.facts.now.items c.sweep.new.facts.items c.fill.new.facts.items c.serve.new.facts.items c.args.moment xs z c.set_last.ensures.core c.in_ok-sweep.ensures.home c.in_ok-sweep.ensures.notes c.in_ok-sweep.ensures.sweeps c.in_ok-fill.ensures.home c.in_ok-fill.ensures.notes c.in_ok-fill.ensures.fills c.in_ok-serve.ensures.home c.in_ok-serve.ensures.notes c.in_ok-serve.ensures.serves
