use Rattle.std.proofs.Common.{ℕ, ◌≡◌, ◌==◌, if◌then◌else◌, ap, subst, ◌∙◌}
use Rattle.mdb_pins.specs.Numbered.{of_number}
use Rattle.mdb_pins.proofs.Fitting.{gives_up}
use Rattle.mdb_pins.proofs.Following.{given_up-follows}
use Rattle.mdb_pins.proofs.story.PinStory.give_up.Goals as goal

pub returns : goal.returns
returns c = λ g.
    let own = c.get-own.result in
    let now = record own { give_ups = c.in_ok-give_ups.give_ups; pins_then = own.pins } in
    given_up-follows c.args.tables.now c.args.self.now c.args.party c.walk.new.pins c.set.new.self now g (c.in_ok-walk.ensures (g.once c.args.party)) (subst (λ r. (n : ℕ) → of_number c.set.new.self n ≡ (if r == n then record c.get-own.result { give_ups = c.in_ok-give_ups.give_ups; pins_then = c.get-own.result.pins } else of_number c.args.self.now.doings n)) c.from-number.ensures c.in_ok-set.ensures) (ap (λ n. record c.get-own.result { give_ups = n; pins_then = c.get-own.result.pins }) c.in_ok-give_ups.ensures ∙ ap gives_up (c.get-own.ensures ∙ ap (of_number c.args.self.now.doings) c.from-number.ensures))
