use Rattle.std.proofs.Common.{sym}
use Rattle.mdb_pool.proofs.Answered.Pin.{pin-accepts, held-at}
use Rattle.mdb_pool.proofs.kept.draft.Draft.accept_pin.Goals as goal

pub returns-clause-accepts : goal.returns-clause-accepts
returns-clause-accepts c = λ xs z. pin-accepts c.args.self.now c.add_pin.new.self c.serve.new.self c.args.facts.now.items c.serve.new.facts.items c.args.moment c.args.party c.in-Some.connection xs z (sym c.in-Some.ensures) c.in_ok-add_pin.ensures.core c.in_ok-serve.ensures.home c.in_ok-serve.ensures.notes c.in_ok-serve.ensures.serves

pub add_pin-requires : goal.add_pin-requires
add_pin-requires c = (held-at c.args.self.now c.args.party c.in-Some.connection (sym c.in-Some.ensures)).1
