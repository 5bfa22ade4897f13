use Rattle.std.proofs.Common.{sym, ap, ◌∙◌}
use Rattle.mdb_pins.specs.Keeping.{is_alone}
use Rattle.mdb_pins.proofs.Listing.{notes-none, notes-one}
use Rattle.mdb_pins.proofs.keepings.Keepings.follow.Goals as goal

pub returns-then-not-is_alone : goal.returns-then-not-is_alone
returns-then-not-is_alone c = notes-none c.args.pool c.args.id c.args.tables.now c.args.pins.now c.args.self.now (ap is_alone (sym c.get-known.ensures) ∙ sym c.is_alone.ensures ∙ c.if-not-is_alone.true)

pub returns : goal.returns
returns c = notes-one c.in_ok-keeper.keeper c.args.pool c.args.id c.args.tables.now c.args.pins.now c.args.self.now c.write.new.self (c.in_ok-keeper.ensures ∙ ap (λ y. y.keepers) c.get-story.ensures) c.in_ok-write.ensures
