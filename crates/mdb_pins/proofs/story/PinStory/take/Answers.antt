use Rattle.std.proofs.Common.{not, ◌&&◌, ap, ◌∙◌}
use Rattle.mdb_tallies.specs.Tables.{at}
use Rattle.mdb_pins.specs.Numbered.{of_number}
use Rattle.mdb_pins.specs.Following.{keeps, taken_by}
use Rattle.mdb_pins.proofs.Following.{taken-follows}
use Rattle.mdb_pins.proofs.story.PinStory.take.Goals as goal

pub returns : goal.returns
returns c = taken-follows c.args.tables.now c.args.self.now c.args.party c.args.pool c.args.id c.in_ok-new.new c.set.new.self (c.in_ok-new.ensures ∙ ap (λ b. taken_by b c.get-known.result.kept (of_number c.args.self.now.doings) c.args.party c.get-old.result) c.is_new-is_new.ensures ∙ (λ i. taken_by (not (at c.args.tables.now.parties c.args.party 0 0).is_returned && not (keeps c.args.tables.now c.args.party c.args.pool c.args.id)) (c.get-known.ensures i).kept (of_number c.args.self.now.doings) c.args.party (c.get-old.ensures i))) c.in_ok-set.ensures
