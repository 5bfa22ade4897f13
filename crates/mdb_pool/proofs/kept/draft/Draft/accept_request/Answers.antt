use Rattle.std.proofs.Common.{sym}
use Rattle.mdb_pool.proofs.Answered.Request.{request-accepts, at-once-accepts}
use Rattle.mdb_pool.proofs.KeptInLittle.AskedOfThoseThatStay.{away-settled}
use Rattle.mdb_pool.proofs.kept.draft.Draft.accept_request.Goals as goal

pub returns-clause-accepts : goal.returns-clause-accepts
returns-clause-accepts c = λ xs z. request-accepts c.args.self.now c.ask.new.self c.turn_away.new.self c.serve.new.self c.tell.new.self c.args.facts.now.items c.ask.new.facts.items c.turn_away.new.facts.items c.serve.new.facts.items c.args.moment c.args.request c.in_ok-reply-2.reply xs z c.requires c.in_ok-ask.ensures.core c.in_ok-ask.ensures.facts c.in_ok-turn_away.ensures.core c.in_ok-turn_away.ensures.facts c.in_ok-serve.ensures.home c.in_ok-serve.ensures.notes c.in_ok-serve.ensures.serves c.in_ok-reply-2.ensures.core c.in_ok-reply-2.ensures.reply

pub returns-in-Some-clause-accepts : goal.returns-in-Some-clause-accepts
returns-in-Some-clause-accepts c = λ xs z. at-once-accepts c.args.self.now c.grant_at_once.new.self c.args.facts.now.items c.grant_at_once.new.facts.items c.args.moment c.args.request c.in-Some.connection c.in_ok-reply.reply xs z c.requires (sym c.in-Some.ensures) c.in_ok-reply.ensures.core c.in_ok-reply.ensures.facts c.in_ok-reply.ensures.reply

pub tell-requires : goal.tell-requires
tell-requires c = rw (c.in_ok-serve.ensures.notes.settled, c.in_ok-turn_away.ensures.core, away-settled) c.in_ok-ask.ensures.unsettled
