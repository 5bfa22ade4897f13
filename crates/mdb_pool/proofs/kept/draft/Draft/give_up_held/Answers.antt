use Rattle.mdb_pool.proofs.Answered.GiveUp.{hand-of, pinned-of}
use Rattle.mdb_pool.proofs.kept.draft.Draft.give_up_held.Goals as goal

pub returns-then-back-gt0-clause-accepts : goal.returns-then-back-gt0-clause-accepts
returns-then-back-gt0-clause-accepts c = λ xs z. pinned-of c.args.self.now c.leave_to_pin.new.self c.serve.new.self c.args.facts.now.items c.leave_to_pin.new.facts.items c.serve.new.facts.items c.args.moment c.args.connection c.used_as-back.result c.args.request xs z c.requires.asker c.requires.asked c.requires.open c.requires.held c.used_as-back.ensures c.if-back-gt0.true c.in_ok-leave_to_pin.ensures.core c.in_ok-leave_to_pin.ensures.facts c.in_ok-serve.ensures.home c.in_ok-serve.ensures.notes c.in_ok-serve.ensures.serves

pub returns-clause-accepts : goal.returns-clause-accepts
returns-clause-accepts c = λ xs z. hand-of c.args.self.now c.hand_back.new.self c.serve-2.new.self c.args.facts.now.items c.hand_back.new.facts.items c.serve-2.new.facts.items c.args.moment c.args.connection c.used_as-back.result c.args.request c.reason_now-reason.result xs z c.requires.asker c.requires.asked c.requires.open c.requires.held c.used_as-back.ensures c.if-back-gt0.false c.reason_now-reason.ensures c.in_ok-hand_back.ensures.core c.in_ok-hand_back.ensures.facts c.in_ok-serve-2.ensures.home c.in_ok-serve-2.ensures.notes c.in_ok-serve-2.ensures.serves
