-- A table with two lists beside it: records of the values on its left, and numbers of those on its right.
use Rattle.std.specs.Prelude.{◌≡◌, ℕ, Bool, true, not, ◌||◌, if◌then◌else◌, Option, None, Some, List, map, filter}
use Rattle.mdb_base.specs.declared.object_id.ObjectId.{ObjectId}
use Rattle.mdb_slots.specs.declared.records.Record.{Record}
use Rattle.mdb_slots.specs.declared.side_parts.SideParts.{SideParts}
use Rattle.mdb_slots.specs.Lists.{apart}
use Rattle.mdb_slots.specs.Keyed.{entry_at, put, others, swap}
use Rattle.mdb_slots.specs.Table.{Shelf, TableSteps, Capacities, items, nothing_shelved, shelf_after, capacity_after, Fits as TableFits}

module _ {L : Type 0} (key : L → ℕ) where
  -- the entry comes last where it stands in the list, and is gone where it does not
  abbrev pub relisted : Bool → L → List L → List L
  relisted stands r rs = if stands then put key r rs else others key (key r) rs

  -- the entry changes where it stands in the list, and is gone where it does not
  abbrev pub amended : Bool → L → List L → List L
  amended stands r rs = if stands then swap key r rs else others key (key r) rs

-- the list stays where the number stands in it, and the number is gone where it does not
abbrev pub remaining : Bool → ℕ → List ℕ → List ℕ
remaining stands n ns = if stands then ns else others (λ k. k) n ns

module _ {T : Type 0} where
  -- the value does not come to stand where the one that had its number did not
  abbrev pub stays : (T → Bool) → T → Option T → Bool
  stays test x None = true
  stays test x (Some y) = not (test x) || test y

-- the value that has the number of the entry
abbrev pub picked : {T L : Type 0} → (T → ℕ) → (L → ℕ) → Option L → List T → Option T
picked key number None xs = None
picked key number (Some r) xs = entry_at key (number r) xs

-- what the table and its lists are read from
pub record SidedShelf (T : Type 0) : Type 0 where
  pub table : Shelf T
  pub left : Shelf Record
  pub right : Shelf ℕ

pub record SidedSteps (T : Type 0) : Type 0 where
  pub table : TableSteps T
  pub left : TableSteps Record
  pub right : TableSteps ℕ

pub record SidedCapacities : Type 0 where
  pub table : Capacities
  pub left : Capacities
  pub right : Capacities

-- the values as they are, what they were read from when they were last committed, and the capacities that there were then
pub record OpenSided (T : Type 0) : Type 0 where
  pub now : List T
  pub base : SidedShelf T
  pub capacity : SidedCapacities

module _ {T : Type 0} where
  abbrev pub nothing_sided : SidedShelf T
  nothing_sided = record { table = nothing_shelved; left = nothing_shelved; right = nothing_shelved }

  -- what the table is read from once the changes are made
  abbrev pub sided_after : SidedSteps T → SidedShelf T → SidedShelf T
  sided_after p s = record { table = shelf_after p.table s.table; left = shelf_after p.left s.left; right = shelf_after p.right s.right }

  -- the capacities then
  abbrev pub sided_capacity_after : SidedSteps T → SidedCapacities → SidedCapacities
  sided_capacity_after p c = record { table = capacity_after p.table c.table; left = capacity_after p.left c.left; right = capacity_after p.right c.right }

  abbrev pub sides_base : SideParts T → SidedShelf T
  sides_base p = record { table = p.table.base; left = p.left.base; right = p.right.base }

  abbrev pub sides_capacity : SideParts T → SidedCapacities
  sides_capacity p = record { table = p.table.capacity; left = p.left.capacity; right = p.right.capacity }

module _ {T : Type 0} (key : T → ℕ) (service : T → Option ObjectId) (since : T → ℕ) where
  abbrev pub record_of : T → Record
  record_of x = record { id = key x; service = service x; since = since x }

  -- records of the values that meet the test, in their order
  abbrev pub noted : (T → Bool) → List T → List Record
  noted test xs = map record_of (filter test xs)

module _ {T : Type 0} (key : T → ℕ) where
  -- the numbers of the values that meet the test, in their order
  abbrev pub numbered : (T → Bool) → List T → List ℕ
  numbered test xs = map key (filter test xs)

module _ {T : Type 0} (key : T → ℕ) (service : T → Option ObjectId) (since : T → ℕ) (on_left on_right : T → Bool) where
  -- no two values have the same number, and the lists have the records of the values on the left and the numbers of those on the right
  pub record InStep (values : List T) (left : List Record) (right : List ℕ) : Type 0 where
    pub apart_is : apart (map key values) ≡ true
    pub left_is : left ≡ noted key service since on_left values
    pub right_is : right ≡ numbered key on_right values

  abbrev pub PartsInStep : SideParts T → Type 0
  PartsInStep p = InStep p.table.now p.left.now p.right.now

  abbrev pub ShelvesInStep : SidedShelf T → Type 0
  ShelvesInStep s = InStep (items s.table) (items s.left) (items s.right)

  -- the changes can be made without memory, and lead to a table with its lists
  abbrev pub SidedFits : SidedSteps T → SidedShelf T → SidedCapacities → Type 0
  SidedFits p s c = TableFits key p.table s.table c.table × TableFits (λ x. x.id) p.left s.left c.left × TableFits (λ k. k) p.right s.right c.right × ShelvesInStep (sided_after p s)

  -- the changes can be made without memory, and lead to these values
  abbrev pub SidedPlans : SidedSteps T → SidedShelf T → SidedCapacities → List T → Type 0
  SidedPlans p s c target = SidedFits p s c × (items (sided_after p s).table ≡ target)
