use Rattle.mdb_pool.proofs.Answered.Clear.{clears-ready}
use Rattle.mdb_pool.proofs.kept.draft.Draft.clear_ready.Goals as goal

pub returns-clause-moves : goal.returns-clause-moves
returns-clause-moves c = λ xs z. clears-ready c.args.self.now xs z c.args.moment c.args.cause.now c.raise.new.self c.end_queue.new.self c.args.facts.now.items c.raise.new.facts.items c.push_cleared.new.facts.items c.end_queue.new.facts.items c.requires c.in_ok-raise.ensures.core c.in_ok-raise.ensures.facts c.in_ok-push_cleared.ensures c.in_ok-end_queue.ensures.notes c.in_ok-end_queue.ensures.ends
