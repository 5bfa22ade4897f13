-- What clauses see of a driver, and what the calls do to it and to its seats.
use Rattle.std.specs.Prelude.{◌≡◌, ◌≢◌, ℕ, ◌+◌, List, [], ◌∷◌, ◌++◌, All, Some, slice_get}
use Rattle.atomic_table.specs.Seated.{TableId}
use Rattle.mdb_log.specs.declared.log.Entry.{Entry}
use Rattle.mdb_log.specs.Driver.{StartsWith}
use Rattle.mdb_turns.specs.declared.rule.SeatEntries.{SeatEntries}
use Rattle.mdb_turns.specs.Turning.{seat_entries, own}
use Rattle.mdb_turns.specs.Stepping.{SeatView}

-- which table it is, the log that it was given, and how many seats it has
pub record DriverView : Type 0 where
  pub id : TableId
  pub base : List Entry
  pub seats : ℕ

-- a seat that has made no call yet
abbrev pub fresh_seat : TableId → List Entry → ℕ → SeatView
fresh_seat z base n = record { driver = z; number = n; seen = base; mine = []; busy = [] }

-- the same seat, which may have seen more
abbrev pub IsSameSeat : SeatView → SeatView → Type 0
IsSameSeat s s' = (s'.driver ≡ s.driver) × (s'.number ≡ s.number) × (s'.mine ≡ s.mine) × (s'.busy ≡ s.busy)

-- a seat's number with its entries
abbrev pub seat_entries_of : SeatView → SeatEntries
seat_entries_of s = seat_entries s.number s.mine

-- the seats' numbers with their entries, the last seat first
abbrev pub behind : List SeatView → List SeatEntries
behind [] = []
behind (s ∷ ss) = behind ss ++ seat_entries_of s ∷ []

module _ {X : Type 0} where
  -- P holds of each element
  abbrev pub Each : (X → Type 0) → List X → Type 0
  Each P [] = Unit {0}
  Each P (x ∷ xs) = P x × Each P xs

module _ {T : Type 0} (stands : T → List Entry → Type 0) where
  -- a core stands for all that the seat has seen
  abbrev pub HasCore : SeatView → Type 0
  HasCore s = (core : T) × stands core s.seen

-- failed tries found turn words, each of them another seat's, and nothing else changed these words
abbrev pub FoundBusy : SeatView → SeatView → Type 0
FoundBusy s s' = (words : List ℕ) × (s'.busy ≡ s.busy ++ words) × Each (λ w. (w ≢ 0) × (w ≢ s.number + 1)) words

-- the entry has the number of one of the seats
abbrev pub ByOne : List SeatView → Entry → Type 0
ByOne ss e = (k : ℕ) × (s : SeatView) × (slice_get ss k ≡ Some s) × (e.seat ≡ s.number)

-- the seats are of this driver
abbrev pub AllOf : TableId → List SeatView → Type 0
AllOf z ss = All (λ s. s.driver ≡ z) ss

-- the log begins with what each seat has seen; past the base a seat's own entries are those with its number, and no other seat has any
abbrev pub Accounts : List Entry → List SeatView → List Entry → Type 0
Accounts base ss log =
    Each (λ s. StartsWith log s.seen) ss
    × ((past : List Entry) × (log ≡ base ++ past) × Each (λ s. own s.number past ≡ s.mine) ss × Each (ByOne ss) past)
