use Rattle.mdb_pins.proofs.Following.{granted-follows}
use Rattle.mdb_pins.proofs.story.PinStory.grant.Goals as goal

pub returns : goal.returns
returns c = granted-follows c.args.tables.now c.args.self.now c.args.party c.args.pool c.args.id c.push_if.new.places (rw (← c.get-gift.ensures) c.in_ok-push_if.ensures)
