use Rattle.std.proofs.Common.{sym, ◌∙◌}
use Rattle.mdb_pool.proofs.Listed.FirstOrLast.{found-at}
use Rattle.mdb_pool.proofs.Answered.Pin.{replicate-accepts}
use Rattle.mdb_pool.proofs.kept.draft.Draft.accept_replicate.Goals as goal

pub returns-clause-accepts : goal.returns-clause-accepts
returns-clause-accepts c = λ xs z. replicate-accepts c.args.self.now c.add_pin.new.self c.serve.new.self c.args.facts.now.items c.serve.new.facts.items c.args.moment c.args.id c.in-Some.connection xs z (sym c.connection.ensures ∙ sym c.in-Some.ensures) c.requires c.in_ok-add_pin.ensures.core c.in_ok-serve.ensures.home c.in_ok-serve.ensures.notes c.in_ok-serve.ensures.serves

pub add_pin-requires : goal.add_pin-requires
add_pin-requires c = found-at c.args.self.now c.args.id c.in-Some.connection (sym c.connection.ensures ∙ sym c.in-Some.ensures)
