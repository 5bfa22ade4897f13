use Rattle.mdb_pool.proofs.Answered.Warm.{warm-accepts}
use Rattle.mdb_pool.proofs.KeptInLittle.AskedOfThoseThatStay.{away-settled}
use Rattle.mdb_pool.proofs.kept.draft.Draft.accept_warm.Goals as goal

pub returns-clause-accepts : goal.returns-clause-accepts
returns-clause-accepts c = λ xs z. warm-accepts c.args.self.now c.enqueue.new.self c.turn_away.new.self c.serve.new.self c.tell.new.self c.args.facts.now.items c.turn_away.new.facts.items c.serve.new.facts.items c.args.moment c.args.request c.in_ok-reply.reply xs z c.requires c.in_ok-enqueue.ensures.core c.in_ok-turn_away.ensures.core c.in_ok-turn_away.ensures.facts c.in_ok-serve.ensures.home c.in_ok-serve.ensures.notes c.in_ok-serve.ensures.serves c.in_ok-reply.ensures.core c.in_ok-reply.ensures.reply

pub tell-requires : goal.tell-requires
tell-requires c = rw (c.in_ok-serve.ensures.notes.settled, c.in_ok-turn_away.ensures.core, away-settled) c.in_ok-enqueue.ensures.unsettled
