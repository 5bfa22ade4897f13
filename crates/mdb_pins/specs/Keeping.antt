-- Which connections a give-up of a party may set at their pins.
use Rattle.std.specs.Prelude.{ℕ, ◌≡◌, ◌≤◌, Bool, true, false, not, ◌&&◌, ◌||◌, ◌==◌, nat_lt, Some}
use Rattle.mdb_tallies.specs.declared.occurrence.Occurrence.{Occurrence}
use Rattle.mdb_tallies.specs.declared.occurrence.Occurrence.TheVariants as change
use Rattle.mdb_tallies.specs.declared.connection.Connection.{Connection}
use Rattle.mdb_tallies.specs.declared.tables.Tables.{Tables}
use Rattle.mdb_tallies.specs.Tables.{at}
use Rattle.mdb_tallies.specs.Lists.{in_list, Clears}
use Rattle.mdb_pins.specs.declared.doings.Doings.{Doings}
use Rattle.mdb_pins.specs.declared.keepings.Keepings.{Keepings}
use Rattle.mdb_pins.specs.declared.pins.Pins.{Pins}
use Rattle.mdb_pins.specs.declared.story.PinStory.{PinStory}
use Rattle.mdb_pins.specs.Numbered.{of_number}
use Rattle.mdb_pins.specs.Counts.{is_above, is_at_pin}

-- the connection was created, and one party keeps it
abbrev pub is_alone : Connection → Bool
is_alone x = nat_lt 0 x.creations && (x.kept == 1)

-- a give-up of its keeper changes nothing: it stands at its pin, or no more pins were made than dropped
abbrev pub is_settled : Doings → Pins → Bool
is_settled d x = is_at_pin d x || not (is_above x d.pins)

-- the party pinned since its last give-up
abbrev pub has_pinned : Doings → Bool
has_pinned d = not (d.pins == d.pins_then)

-- a connection is in the list of the party for which it was written last
abbrev pub WrittenStand : Keepings → Type 0
WrittenStand k = (p c r : ℕ) → at k.written p c 0 ≡ Some r → in_list k.all r p c ≡ true

-- Each created connection that one party keeps is in that party's list, and in the fresh one where its give-up would change it and it did not pin since its last one.
pub record KeepingsStand (t : Tables) (s : PinStory) (k : Keepings) : Type 0 where
  pub all : (p c : ℕ) → is_alone (at t.connections p c 0) ≡ true → in_list k.all (at s.pins p c 0).keepers p c ≡ true
  pub fresh : (p c : ℕ) → is_alone (at t.connections p c 0) ≡ true → is_settled (of_number s.doings (at s.pins p c 0).keepers) (at s.pins p c 0) || (in_list k.fresh (at s.pins p c 0).keepers p c || has_pinned (of_number s.doings (at s.pins p c 0).keepers)) ≡ true
  pub written : WrittenStand k
  pub ordered : (r : ℕ) → (of_number s.doings r).pins_then ≤ (of_number s.doings r).pins

-- what a give-up of the party looks at: what it was granted, what is fresh, and all that it keeps where it pinned since its last one; nothing where it returned
abbrev pub recalls : Tables → PinStory → Keepings → ℕ → ℕ → ℕ → Bool
recalls t s k r p c = not (at t.parties r 0 0).is_returned && (in_list s.grants r p c || (in_list k.fresh r p c || (has_pinned (of_number s.doings r) && in_list k.all r p c)))

-- what is said of the connection by others than its keeper
abbrev pub concerns : Occurrence → ℕ → ℕ → Bool
concerns (change.Replicated q d) p c = (q == p) && (d == c)
concerns (change.Taken r q d) p c = (q == p) && (d == c)
concerns (change.Created q d) p c = (q == p) && (d == c)
concerns _ p c = false

-- whose give-up it is
abbrev pub gives_up : Occurrence → ℕ → Bool
gives_up (change.GivenUp r) q = r == q
gives_up _ q = false

-- the connection d of pool q is in the party's list, and all that was in a list still is
pub record WritesOnce (r q d : ℕ) (old new : Keepings) : Type 0 where
  pub all : (n p c : ℕ) → in_list old.all n p c ≡ true → in_list new.all n p c ≡ true
  pub fresh : new.fresh ≡ old.fresh
  pub written : WrittenStand old → WrittenStand new
  pub here : WrittenStand old → in_list new.all r q d ≡ true

-- the connection is in both lists of the party, and all that was in a list still is
pub record Writes (r q d : ℕ) (old new : Keepings) : Type 0 where
  pub all : (n p c : ℕ) → in_list old.all n p c ≡ true → in_list new.all n p c ≡ true
  pub fresh : (n p c : ℕ) → in_list old.fresh n p c ≡ true → in_list new.fresh n p c ≡ true
  pub written : WrittenStand old → WrittenStand new
  pub here : WrittenStand old → (in_list new.all r q d ≡ true) × (in_list new.fresh r q d ≡ true)

-- nothing of the party is fresh
pub record Forgets (r : ℕ) (old new : Keepings) : Type 0 where
  pub all : new.all ≡ old.all
  pub fresh : Clears r old.fresh new.fresh
  pub written : new.written ≡ old.written

-- These connections are in the lists of the one that keeps each, where one does, and all that was in a list still is, but for the fresh ones of who gives up.
pub record Notes (is_here : ℕ → ℕ → Bool) (is_over : ℕ → Bool) (t : Tables) (s : PinStory) (old new : Keepings) : Type 0 where
  pub all : (n p c : ℕ) → in_list old.all n p c ≡ true → in_list new.all n p c ≡ true
  pub fresh : (n p c : ℕ) → is_over n ≡ false → in_list old.fresh n p c ≡ true → in_list new.fresh n p c ≡ true
  pub written : WrittenStand old → WrittenStand new
  pub here : WrittenStand old → (p c : ℕ) → is_here p c ≡ true → is_alone (at t.connections p c 0) ≡ true → (in_list new.all (at s.pins p c 0).keepers p c ≡ true) × (in_list new.fresh (at s.pins p c 0).keepers p c ≡ true)

-- The keepings after a change; the tables and the pins are those after it.
abbrev pub KeepingsFollow : Occurrence → Tables → PinStory → Keepings → Keepings → Type 0
KeepingsFollow change t s old new = Notes (concerns change) (gives_up change) t s old new
