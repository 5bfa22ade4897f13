use Rattle.std.proofs.Common.{sym, ◌∙◌}
use Rattle.mdb_pool.proofs.Answered.Take.{take-accepts}
use Rattle.mdb_pool.proofs.kept.draft.Draft.accept_take.Goals as goal

pub returns-clause-accepts : goal.returns-clause-accepts
returns-clause-accepts c = λ xs z. rw c.number.ensures (take-accepts c.args.self.now c.hand_pinned.new.self c.serve.new.self c.args.facts.now.items c.serve.new.facts.items c.args.moment c.args.party c.args.id c.in-Some.connection xs z c.requires.unknown (sym c.connection.ensures ∙ sym c.in-Some.ensures) c.requires.pinned c.requires.free c.in_ok-hand_pinned.ensures.core c.in_ok-serve.ensures.home c.in_ok-serve.ensures.notes c.in_ok-serve.ensures.serves)
