-- The pins are those of the history.
use Rattle.std.specs.Prelude.{ℕ, ◌+◌, ◌≡◌, ◌≤◌, Bool, if◌then◌else◌, List}
use Rattle.mdb_log.specs.History.{Item, PoolItem, of_pool}
use Rattle.mdb_log.specs.PlainHolders.{has_returned, is_granted_to, parties, pins_made, pins_dropped, is_pinned}
use Rattle.mdb_tallies.specs.Standing.{keeps}
use Rattle.mdb_tallies.specs.Totals.{total}
use Rattle.mdb_tallies.specs.Tables.{at}
use Rattle.mdb_tallies.specs.Lists.{nth, len, listed}
use Rattle.mdb_pins.specs.declared.doings.Doings.{Doings}
use Rattle.mdb_pins.specs.declared.pins.Pins.{Pins}
use Rattle.mdb_pins.specs.declared.story.PinStory.{PinStory}
use Rattle.mdb_pins.specs.Numbered.{of_number}
use Rattle.mdb_pins.specs.Counts.{keeper, is_at_pin}
use Rattle.mdb_pins.specs.Following.{EachOnce}

-- what the parties weigh together that keep the connection c: they took it and did not return
abbrev pub weigh : (ℕ → ℕ) → List PoolItem → (ℕ → Bool) → ℕ → ℕ
weigh weight xs gone c = total (λ r. if keeps xs gone c r then weight r else 0) (parties xs c)

-- The pins of a connection fit so many pins made and dropped, whether it stands at its pin, how many keep it, the sum of their numbers, and what they did.
pub record Fits (doings : ℕ → Doings) (made dropped : ℕ) (pinned : Bool) (kept names sum : ℕ) (x : Pins) : Type 0 where
  pub made_is : made + x.before ≡ x.made + sum
  pub dropped_is : x.dropped ≡ dropped
  pub keepers_are : x.keepers ≡ names
  pub pinned_is : kept ≤ 1 → is_at_pin (keeper kept doings x) x ≡ pinned
  pub heard_is : kept ≡ 1 → x.heard ≤ (doings x.keepers).give_ups

-- The pins are those of the history.
pub record PinsStand (h : List Item) (s : PinStory) : Type 0 where
  pub fits : (p c : ℕ) → Fits (of_number s.doings) (pins_made p h c) (pins_dropped p h c) (is_pinned p h c)
      (weigh (λ r. 1) (of_pool p h) (has_returned h) c) (weigh (λ r. r) (of_pool p h) (has_returned h) c)
      (weigh (λ r. (of_number s.doings r).pins) (of_pool p h) (has_returned h) c) (at s.pins p c 0)
  pub grants : (r p c : ℕ) → listed (len s.grants r) (nth s.grants r) p c ≡ is_granted_to (of_pool p h) r c
  pub once : (r : ℕ) → EachOnce s.grants r
