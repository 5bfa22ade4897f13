use Rattle.std.proofs.Common.{refl, sym, ap, ◌∙◌}
use Rattle.mdb_pins.specs.Keeping.{has_pinned}
use Rattle.mdb_pins.specs.Numbered.{of_number}
use Rattle.mdb_judging.proofs.Touches.{recalls_none, recalls_all}
use Rattle.mdb_judging.proofs.touched.Touched.touch_recalled.Goals as goal

pub returns-then-known : goal.returns-then-known
returns-then-known c = recalls_none c.args.party c.args.tables.now c.args.pins.now c.args.keepings.now c.args.self.now (ap (λ x. x.is_returned) (sym c.get-known.ensures) ∙ c.if-known.true)

pub returns : goal.returns
returns c = recalls_all c.args.party c.args.tables.now c.args.pins.now c.args.keepings.now c.args.self.now (record { places = c.add_if.new.places; pools = c.args.self.now.pools }) c.add_all.new.places.items c.add_all-2.new.places.items c.has_pinned-pinned.result (ap (λ x. x.is_returned) (sym c.get-known.ensures) ∙ c.if-known.false) (c.has_pinned-pinned.ensures ∙ ap has_pinned (c.get-own.ensures ∙ ap (of_number c.args.pins.now.doings) c.from-number.ensures)) c.in_ok-add_all.ensures c.in_ok-add_all-2.ensures c.in_ok-add_if.ensures refl
