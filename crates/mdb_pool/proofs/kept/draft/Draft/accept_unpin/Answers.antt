use Rattle.std.proofs.Common.{sym, ◌∙◌}
use Rattle.mdb_pool.proofs.Listed.FirstOrLast.{found-at}
use Rattle.mdb_pool.proofs.Answered.Unpin.{unpin-of, pin-end-of}
use Rattle.mdb_pool.proofs.kept.draft.Draft.accept_unpin.Goals as goal

pub returns-then-is_at_last_pin-clause-accepts : goal.returns-then-is_at_last_pin-clause-accepts
returns-then-is_at_last_pin-clause-accepts c = λ xs z. pin-end-of c.args.self.now c.end_pin.new.self c.serve.new.self c.args.facts.now.items c.end_pin.new.facts.items c.serve.new.facts.items c.args.moment c.args.id c.in-Some.connection c.reason_now-reason.result xs z (sym c.connection.ensures ∙ sym c.in-Some.ensures) c.requires (sym c.is_at_last_pin.ensures ∙ c.if-is_at_last_pin.true) c.reason_now-reason.ensures c.in_ok-end_pin.ensures.core c.in_ok-end_pin.ensures.facts c.in_ok-serve.ensures.home c.in_ok-serve.ensures.notes c.in_ok-serve.ensures.serves

pub returns-clause-accepts : goal.returns-clause-accepts
returns-clause-accepts c = λ xs z. unpin-of c.args.self.now c.remove_pin.new.self c.serve-2.new.self c.args.facts.now.items c.serve-2.new.facts.items c.args.moment c.args.id c.in-Some.connection xs z (sym c.connection.ensures ∙ sym c.in-Some.ensures) c.requires (sym c.is_at_last_pin.ensures ∙ c.if-is_at_last_pin.false) c.in_ok-remove_pin.ensures.core c.in_ok-serve-2.ensures.home c.in_ok-serve-2.ensures.notes c.in_ok-serve-2.ensures.serves

pub remove_pin-requires : goal.remove_pin-requires
remove_pin-requires c = found-at c.args.self.now c.args.id c.in-Some.connection (sym c.connection.ensures ∙ sym c.in-Some.ensures)
