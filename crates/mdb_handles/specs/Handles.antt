-- What clauses see of a thread's handle.
use Rattle.std.specs.Prelude.{◌≡◌}
use Rattle.mdb_turns.specs.Stepping.{SeatView}
use Rattle.mdb_handles.specs.Numbers.{NumbersView}

-- the seat, and the numbers for requests that it has left
pub record HandleView : Type 0 where
  pub seat : SeatView
  pub numbers : NumbersView

-- a handle at the same seat of the same driver, with the same numbers left
abbrev pub IsSameHandle : HandleView → HandleView → Type 0
IsSameHandle h h' = (h'.seat.driver ≡ h.seat.driver) × (h'.seat.number ≡ h.seat.number) × (h'.numbers ≡ h.numbers)
