use Rattle.std.proofs.Common.{ℕ, ◌≡◌, ◌==◌, if◌then◌else◌, ap, subst, ◌∙◌}
use Rattle.mdb_pins.specs.Numbered.{of_number}
use Rattle.mdb_pins.proofs.Fitting.{pins_once}
use Rattle.mdb_pins.proofs.Following.{pinned-follows}
use Rattle.mdb_pins.proofs.story.PinStory.pin.Goals as goal

pub returns : goal.returns
returns c = λ g.
    pinned-follows c.args.tables.now c.args.self.now c.args.party c.walk.new.pins c.set.new.self (record c.get-own.result { pins = c.in_ok-pins.pins }) g (c.in_ok-walk.ensures (g.once c.args.party)) (subst (λ r. (n : ℕ) → of_number c.set.new.self n ≡ (if r == n then record c.get-own.result { pins = c.in_ok-pins.pins } else of_number c.args.self.now.doings n)) c.from-number.ensures c.in_ok-set.ensures) (ap (λ n. record c.get-own.result { pins = n }) c.in_ok-pins.ensures ∙ ap pins_once (c.get-own.ensures ∙ ap (of_number c.args.self.now.doings) c.from-number.ensures))
