use Rattle.std.proofs.Common.{ap, sym, ◌∙◌}
use Rattle.mdb_pins.proofs.Following.{returned-follows, returned-again}
use Rattle.mdb_pins.proofs.story.PinStory.give_back.Goals as goal

pub returns-then-known : goal.returns-then-known
returns-then-known c = λ k. returned-again c.args.tables.now c.args.self.now c.args.party (ap (λ x. x.is_returned) (sym c.get-known.ensures) ∙ c.if-known.true)

pub returns : goal.returns
returns c = λ k. returned-follows c.args.tables.now c.args.self.now c.args.party c.walk.new.pins k (c.in_ok-walk.ensures (k.once c.args.party))
