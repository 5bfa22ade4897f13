use Rattle.std.proofs.Common.{Some, sym, ◌∙◌, ap}
use Rattle.mdb_pool.proofs.Listed.FirstOrLast.{held-by}
use Rattle.mdb_pool.proofs.KeptInLittle.AskedOfThoseThatStay.{kept-is, kept-there, kept-came}
use Rattle.mdb_pool.proofs.Answered.Return.{return-of, stand-of}
use Rattle.mdb_pool.proofs.kept.draft.Draft.accept_return.Goals as goal

pub returns-then-back-gt0-clause-accepts : goal.returns-then-back-gt0-clause-accepts
returns-then-back-gt0-clause-accepts c = λ xs z. stand-of c.args.self.now c.put_to_pin.new.self c.serve.new.self c.args.facts.now.items c.serve.new.facts.items c.args.moment c.args.party c.in-Some-held_for.connection c.used_as-back.result c.in_ok-request.request c.args.used xs z (held-by c.args.self.now c.args.party c.in-Some.request.now c.in-Some-held_for.connection (sym (kept-is c.args.self.now c.args.party c.in-Some.request.now (sym c.in-Some.ensures))) c.in-Some-held_for.ensures) (kept-is c.args.self.now c.args.party c.in_ok-request.request (sym c.in-Some.ensures ∙ ap Some (sym c.in_ok-request.ensures))) c.used_as-back.ensures c.if-back-gt0.true c.in_ok-put_to_pin.ensures.core c.in_ok-serve.ensures.home c.in_ok-serve.ensures.notes c.in_ok-serve.ensures.serves

pub returns-clause-accepts : goal.returns-clause-accepts
returns-clause-accepts c = λ xs z. return-of c.args.self.now c.give_back.new.self c.serve-2.new.self c.args.facts.now.items c.give_back.new.facts.items c.serve-2.new.facts.items c.args.moment c.args.party c.in-Some-held_for.connection c.used_as-back.result c.in_ok-request.request c.args.used c.reason_now-reason.result xs z (held-by c.args.self.now c.args.party c.in-Some.request.now c.in-Some-held_for.connection (sym (kept-is c.args.self.now c.args.party c.in-Some.request.now (sym c.in-Some.ensures))) c.in-Some-held_for.ensures) (kept-is c.args.self.now c.args.party c.in_ok-request.request (sym c.in-Some.ensures ∙ ap Some (sym c.in_ok-request.ensures))) c.used_as-back.ensures c.if-back-gt0.false c.reason_now-reason.ensures c.in_ok-give_back.ensures.core c.in_ok-give_back.ensures.facts c.in_ok-serve-2.ensures.home c.in_ok-serve-2.ensures.notes c.in_ok-serve-2.ensures.serves

pub put_to_pin-requires-clause-there : goal.put_to_pin-requires-clause-there
put_to_pin-requires-clause-there c = kept-there c.args.self.now c.args.party c.in_ok-request.request (sym c.in-Some.ensures ∙ ap Some (sym c.in_ok-request.ensures))

pub put_to_pin-requires-clause-came : goal.put_to_pin-requires-clause-came
put_to_pin-requires-clause-came c = kept-came c.args.self.now c.args.party c.in_ok-request.request (sym c.in-Some.ensures ∙ ap Some (sym c.in_ok-request.ensures))

pub give_back-requires-clause-there : goal.give_back-requires-clause-there
give_back-requires-clause-there c = kept-there c.args.self.now c.args.party c.in_ok-request.request (sym c.in-Some.ensures ∙ ap Some (sym c.in_ok-request.ensures))

pub give_back-requires-clause-came : goal.give_back-requires-clause-came
give_back-requires-clause-came c = kept-came c.args.self.now c.args.party c.in_ok-request.request (sym c.in-Some.ensures ∙ ap Some (sym c.in_ok-request.ensures))
