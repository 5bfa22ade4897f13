-- The pins after a change, where the tables are those before it.
use Rattle.std.specs.Prelude.{ℕ, ◌+◌, ◌-◌, ◌≡◌, ◌<◌, Bool, false, not, ◌&&◌, ◌==◌, if◌then◌else◌}
use Rattle.mdb_log.specs.Connections.{one_if}
use Rattle.mdb_tallies.specs.declared.occurrence.Occurrence.{Occurrence}
use Rattle.mdb_tallies.specs.declared.occurrence.Occurrence.TheVariants as change
use Rattle.mdb_tallies.specs.declared.connection.Place.{Place}
use Rattle.mdb_tallies.specs.declared.lists.Lists.{Lists}
use Rattle.mdb_tallies.specs.declared.default_map.DefaultMap.{DefaultMap}
use Rattle.mdb_tallies.specs.declared.tables.Tables.{Tables}
use Rattle.mdb_tallies.specs.Tables.{at}
use Rattle.mdb_tallies.specs.Lists.{nth, len, listed, PushesIf}
use Rattle.mdb_tallies.specs.Changes.{kept_now, lent_now, pending_now}
use Rattle.mdb_pins.specs.declared.doings.Doings.{Doings}
use Rattle.mdb_pins.specs.declared.pins.Pins.{Pins}
use Rattle.mdb_pins.specs.declared.walk.How.{How}
use Rattle.mdb_pins.specs.declared.walk.How.TheVariants as how
use Rattle.mdb_pins.specs.declared.story.PinStory.{PinStory}
use Rattle.mdb_pins.specs.Numbered.{of_number}
use Rattle.mdb_pins.specs.Counts.{keeper, is_at_pin, hearing, backed, once_pinned, once_unpinned, once_left, once_taken}

-- the connection was granted to the party, which did not take it, and neither returned nor did its request end; and it is not pending
abbrev pub lends : Tables → ℕ → ℕ → ℕ → Bool
lends t r p c = lent_now (at t.gifts r p c) (at t.parties r 0 0) && not (pending_now (at t.connections p c 0))

-- the party took the connection, and did not return
abbrev pub keeps : Tables → ℕ → ℕ → ℕ → Bool
keeps t r p c = kept_now (at t.gifts r p c) (at t.parties r 0 0)

-- the pins after the party left the connection, which so many kept
abbrev pub left_by : ℕ → (ℕ → Doings) → ℕ → Pins → Pins
left_by kept doings r x = backed (keeper (kept - 1) doings (once_left r (doings r).pins x)) (once_left r (doings r).pins x)

-- the pins after the party took the connection, which so many kept
abbrev pub taken_by : Bool → ℕ → (ℕ → Doings) → ℕ → Pins → Pins
taken_by new kept doings r x = hearing (keeper (kept + one_if new) doings (once_taken new r (doings r).pins x)) (once_taken new r (doings r).pins x)

-- the pins of one connection after what one of its parties did
abbrev pub by_how : How → Tables → (ℕ → Doings) → ℕ → ℕ → ℕ → Pins → Pins
by_how how.GaveUp t doings r p c x = if lends t r p c then backed (keeper (at t.connections p c 0).kept doings x) x else x
by_how how.Pinned t doings r p c x = if lends t r p c then once_pinned (keeper (at t.connections p c 0).kept doings x) x else x
by_how how.GaveBack t doings r p c x = if keeps t r p c then left_by (at t.connections p c 0).kept doings r x else (if lends t r p c then backed (keeper (at t.connections p c 0).kept doings x) x else x)

-- the connection stands at its pin, where so many keep it
abbrev pub pinned_now : PinStory → ℕ → ℕ → ℕ → Bool
pinned_now s kept p c = is_at_pin (keeper kept (of_number s.doings) (at s.pins p c 0)) (at s.pins p c 0)

-- no place stands twice in the list
abbrev pub EachOnce : Lists Place → ℕ → Type 0
EachOnce l r = (i : ℕ) → i < len l r → listed i (nth l r) (nth l r i).pool (nth l r i).id ≡ false

-- the first places of the list changed by what the party did, and nothing else
abbrev pub WalkedFar : How → Tables → (ℕ → Doings) → Lists Place → ℕ → ℕ → DefaultMap Pins → DefaultMap Pins → Type 0
WalkedFar how t doings l r i old new = (p c : ℕ) → at new p c 0 ≡ (if listed i (nth l r) p c then by_how how t doings r p c (at old p c 0) else at old p c 0)

abbrev pub Walked : How → Tables → (ℕ → Doings) → Lists Place → ℕ → DefaultMap Pins → DefaultMap Pins → Type 0
Walked how t doings l r old new = WalkedFar how t doings l r (len l r) old new

-- the connection is this one, and the change is made
abbrev pub only_at : Bool → Pins → Pins → Pins
only_at b y x = if b then y else x

-- The pins of connection c of pool p after a change.
abbrev pub pins_after : Occurrence → Tables → (ℕ → Doings) → ℕ → ℕ → Pins → Pins
pins_after (change.GivenUp r) t doings p c x = by_how how.GaveUp t doings r p c x
pins_after (change.Returned r) t doings p c x = by_how how.GaveBack t doings r p c x
pins_after (change.Pinned r) t doings p c x = by_how how.Pinned t doings r p c x
pins_after (change.Replicated q d) t doings p c x = only_at ((q == p) && (d == c)) (once_pinned (keeper (at t.connections p c 0).kept doings x) x) x
pins_after (change.Unpinned q d) t doings p c x = only_at ((q == p) && (d == c)) (once_unpinned (keeper (at t.connections p c 0).kept doings x) x) x
pins_after (change.Taken r q d) t doings p c x = only_at ((q == p) && (d == c)) (taken_by (not (at t.parties r 0 0).is_returned && not (keeps t r p c)) (at t.connections p c 0).kept doings r x) x
pins_after _ t doings p c x = x

-- What a party did after a change.
abbrev pub doings_after : Occurrence → ℕ → Doings → Doings
doings_after (change.GivenUp r) q d = if r == q then record d { give_ups = d.give_ups + 1; pins_then = d.pins } else d
doings_after (change.Pinned r) q d = if r == q then record d { pins = d.pins + 1 } else d
doings_after _ q d = d

-- The lists of grants after a change: each connection stands once.
abbrev pub GrantsFollow : Occurrence → Tables → Lists Place → Lists Place → Type 0
GrantsFollow (change.Granted r q d) t old new = PushesIf (not (at t.gifts r q d).is_granted) r (record { pool = q; id = d }) old new
GrantsFollow _ t old new = new ≡ old

-- The lists have each connection that a party was granted, once.
pub record Grants (t : Tables) (l : Lists Place) : Type 0 where
  pub all : (r p c : ℕ) → listed (len l r) (nth l r) p c ≡ (at t.gifts r p c).is_granted
  pub once : (r : ℕ) → EachOnce l r

-- The pins, what parties did and the lists of grants after a change.
pub record PinsFollow (change : Occurrence) (t : Tables) (old new : PinStory) : Type 0 where
  pub pins : (p c : ℕ) → at new.pins p c 0 ≡ pins_after change t (of_number old.doings) p c (at old.pins p c 0)
  pub doings : (r : ℕ) → of_number new.doings r ≡ doings_after change r (of_number old.doings r)
  pub grants : GrantsFollow change t old.grants new.grants
