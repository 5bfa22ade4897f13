-- How the pins of a connection are counted, and how each item changes the count.
use Rattle.std.specs.Prelude.{ℕ, ◌+◌, ◌-◌, Bool, false, ◌&&◌, ◌||◌, ◌==◌, if◌then◌else◌, nat_lt}
use Rattle.mdb_pins.specs.declared.doings.Doings.{Doings}
use Rattle.mdb_pins.specs.declared.pins.Pins.{Pins}

abbrev pub nobody : Doings
nobody = record { pins = 0; give_ups = 0; pins_then = 0 }

-- what the one did that keeps the connection, where one party does
abbrev pub keeper : ℕ → (ℕ → Doings) → Pins → Doings
keeper kept doings x = if kept == 1 then doings x.keepers else nobody

-- more pins were made than dropped, where the keeper made so many
abbrev pub is_above : Pins → ℕ → Bool
is_above x own = nat_lt (x.dropped + x.before) (x.made + own)

-- The connection stands at its pin: it did when this was written, or its keeper gave up since, when the pins were above 0.
abbrev pub is_at_pin : Doings → Pins → Bool
is_at_pin d x = x.is_pinned || (nat_lt x.heard d.give_ups && is_above x d.pins_then)

abbrev pub hearing : Doings → Pins → Pins
hearing d x = record x { heard = d.give_ups }

-- all that the keeper did is heard
abbrev pub settled : Doings → Pins → Pins
settled d x = record x { is_pinned = is_at_pin d x; heard = d.give_ups }

-- it comes back: a party that holds it returns it or gives up
abbrev pub backed : Doings → Pins → Pins
backed d x = record x { is_pinned = is_above x d.pins; heard = d.give_ups }

-- one pin more, of no keeper
abbrev pub once_pinned : Doings → Pins → Pins
once_pinned d x = record (settled d x) { made = x.made + 1 }

-- one pin less
abbrev pub once_unpinned : Doings → Pins → Pins
once_unpinned d x =
    let fewer : Pins = record x { dropped = x.dropped + 1 } in
    record fewer { is_pinned = is_at_pin d x && is_above fewer d.pins; heard = d.give_ups }

-- the party keeps it no more, and made so many pins
abbrev pub once_left : ℕ → ℕ → Pins → Pins
once_left r pins x = record x { made = x.made + pins; keepers = x.keepers - r }

-- the party took it, and keeps it from now on where the test holds; it made so many pins
abbrev pub once_taken : Bool → ℕ → ℕ → Pins → Pins
once_taken new r pins x = record x { before = x.before + (if new then pins else 0); keepers = x.keepers + (if new then r else 0); is_pinned = false }
