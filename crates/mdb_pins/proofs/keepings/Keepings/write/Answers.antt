use Rattle.mdb_pins.proofs.Listing.{written-both}
use Rattle.mdb_pins.proofs.keepings.Keepings.write.Goals as goal

pub returns : goal.returns
returns c = written-both c.args.party c.args.place.pool c.args.place.id c.args.self.now c.write_once.new.self c.push.new.self c.in_ok-write_once.ensures c.in_ok-push.ensures
