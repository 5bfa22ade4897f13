-- What a watcher finds, and what it has seen after that.
use Rattle.std.specs.Prelude.{◌≡◌, ℕ, ◌<◌, ◌≤◌, Bool, true, false, List, [], ⊤}
use Rattle.mdb_describe.specs.declared.topology.TopologyDescription.{TopologyDescription}
use Rattle.mdb_log.specs.declared.log.Entry.{Entry}
use Rattle.mdb_log.specs.declared.step.Act.{Act}
use Rattle.mdb_log.specs.declared.step.Act.TheVariants.{Want, Unwant}
use Rattle.mdb_log.specs.declared.reply.Reply.TheVariants.{Count}
use Rattle.mdb_turns.specs.Stepping.{SeatView}
use Rattle.mdb_shared.specs.Seats.{HasCore}
use Rattle.mdb_workers.specs.Making.{Made, OneMore}
use Rattle.mdb_journal.specs.Entries.{HasStopped}
use Rattle.mdb_handles.specs.declared.topology_state.TopologyState.{TopologyState}
use Rattle.mdb_handles.specs.declared.watching.TopologyWatcher.{TopologyWatcher}

-- the state is this description, published so often
abbrev pub Shows : TopologyDescription → ℕ → TopologyState → Type 0
Shows description published state = (state.description ≡ description) × (state.published ≡ published)

abbrev pub new_watcher : ℕ → TopologyWatcher
new_watcher number = record { number = number; seen = 0; wants = false }

abbrev pub with_mark : TopologyWatcher → ℕ → TopologyWatcher
with_mark w published = record { number = w.number; seen = published; wants = w.wants }

abbrev pub wanting : TopologyWatcher → Bool → TopologyWatcher
wanting w wants = record { number = w.number; seen = w.seen; wants = wants }

-- a watcher wants checks, or no longer
abbrev pub IsWish : Act → Type 0
IsWish (Want number) = ⊤
IsWish (Unwant number) = ⊤
IsWish _ = ⊥

module _ {T : Type 0} (stands : T → List Entry → Type 0) where
  -- where checks were asked for, one entry says that this is over
  abbrev pub RetractedIf : Bool → ℕ → SeatView → SeatView → Type 0
  RetractedIf true number s s' = (count : ℕ) × OneMore stands s s' (Unwant number) (Count count)
  RetractedIf false number s s' = Made stands s s' []

  abbrev pub Retracted : SeatView → SeatView → TopologyWatcher → Type 0
  Retracted s s' w = RetractedIf w.wants w.number s s'

  module _ (publications : List Entry → ℕ) where
    -- a later publication was found: the watcher has seen one after its old one, no later than the last, and no longer asks for checks
    abbrev pub Updated : SeatView → SeatView → TopologyWatcher → TopologyWatcher → Type 0
    Updated s s' w w' = (found : ℕ) × (w.seen < found) × (found ≤ publications s'.seen) × (w' ≡ with_mark (wanting w false) found) × Retracted s s' w

    -- A later publication was found. Or none of so many looks found one.
    abbrev pub Waited : ℕ → SeatView → SeatView → TopologyWatcher → TopologyWatcher → Bool → Type 0
    Waited turns s s' w w' true = (0 < turns) × Updated s s' w w'
    Waited turns s s' w w' false = (0 < turns → publications s'.seen ≤ w.seen) × (w' ≡ w) × Made stands s s' []

    -- A later publication was found. Or the driver has stopped, and none was: a core stands for the log that tells so.
    abbrev pub WaitedOn : SeatView → SeatView → TopologyWatcher → TopologyWatcher → Bool → Type 0
    WaitedOn s s' w w' true = Updated s s' w w'
    WaitedOn s s' w w' false = HasStopped s'.seen × (publications s'.seen ≤ w.seen) × (w' ≡ w) × Made stands s s' [] × HasCore stands s'
