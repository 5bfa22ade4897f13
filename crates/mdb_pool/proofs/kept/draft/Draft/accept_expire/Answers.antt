use Rattle.mdb_pool.proofs.Answered.Expire.{expire-accepts}
use Rattle.mdb_pool.proofs.kept.draft.Draft.accept_expire.Goals as goal

pub returns-clause-accepts : goal.returns-clause-accepts
returns-clause-accepts c = λ xs z. expire-accepts c.args.self.now c.set_last.new.self c.end_all_overdue.new.self c.serve.new.self c.args.facts.now.items c.end_all_overdue.new.facts.items c.serve.new.facts.items c.args.moment xs z c.set_last.ensures.core c.in_ok-end_all_overdue.ensures.home c.in_ok-end_all_overdue.ensures.notes c.in_ok-end_all_overdue.ensures.expires c.in_ok-serve.ensures.home c.in_ok-serve.ensures.notes c.in_ok-serve.ensures.serves
