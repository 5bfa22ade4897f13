use Rattle.std.proofs.Common.{ap, ◌∙◌}
use Rattle.mdb_tallies.specs.Tables.{at}
use Rattle.mdb_pins.specs.Numbered.{of_number}
use Rattle.mdb_pins.specs.Counts.{keeper, once_pinned}
use Rattle.mdb_pins.proofs.Following.{replicated-follows}
use Rattle.mdb_pins.proofs.story.PinStory.replicate.Goals as goal

pub returns : goal.returns
returns c =
    let doings = of_number c.args.self.now.doings in
    replicated-follows c.args.tables.now c.args.self.now c.args.pool c.args.id c.in_ok-new.new c.set.new.self (c.in_ok-new.ensures ∙ ap (λ k. once_pinned k c.get-old.result) (c.keeper-alone.ensures ∙ ap (λ x. keeper x.kept (of_number c.args.self.now.doings) c.get-old.result) c.get-known.ensures) ∙ ap (λ y. once_pinned (keeper (at c.args.tables.now.connections c.args.pool c.args.id 0).kept (of_number c.args.self.now.doings) y) y) c.get-old.ensures) c.in_ok-set.ensures
