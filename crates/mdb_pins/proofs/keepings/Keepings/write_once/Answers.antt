use Rattle.std.proofs.Common.{sym, ap, ◌∙◌}
use Rattle.mdb_log.specs.History.{is_number}
use Rattle.mdb_pins.proofs.Listing.{written-before, written-now}
use Rattle.mdb_pins.proofs.keepings.Keepings.write_once.Goals as goal

pub returns-then-is_number : goal.returns-then-is_number
returns-then-is_number c = written-before c.args.party c.args.place.pool c.args.place.id c.args.self.now (ap (λ o. is_number o c.args.party) (sym c.get.ensures) ∙ sym c.is_number.ensures ∙ c.if-is_number.true)

pub returns : goal.returns
returns c = written-now c.args.party c.args.place.pool c.args.place.id c.args.self.now c.push.new.self c.set.new.self c.in_ok-push.ensures c.in_ok-set.ensures
