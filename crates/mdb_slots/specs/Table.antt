-- Values in slots, with what they were when they were last committed.
use Rattle.std.specs.Prelude.{◌≡◌, ◌<◌, ◌≤◌, ◌+◌, ℕ, Option, List, length}
use Rattle.mdb_slots.specs.declared.indexed_slots.IndexedSlots.{IndexedSlots}
use Rattle.mdb_slots.specs.Links.{Order}
use Rattle.mdb_slots.specs.SlotOrder.{order_of}
use Rattle.mdb_slots.specs.Slots.{SlotShelf, SlotSteps, SlotSizes, nothing_filled, slots_after, slots_room_after, SlotsFit}
use Rattle.mdb_slots.specs.SlotIndex.{Indexing, IndexSteps, Both, nothing_indexed, numbers_of, slot_of, indexing_after, index_room_after, IndexFits, AreWithin, both}
use Rattle.mdb_slots.specs.Cells.{values, IsIndexed}

-- the capacity of each part
pub record Capacities : Type 0 where
  pub slots : SlotSizes
  pub index : Both

-- what a table is read from
pub record Shelf (T : Type 0) : Type 0 where
  pub slots : SlotShelf T
  pub index : Indexing

-- the changes of a table
pub record TableSteps (T : Type 0) : Type 0 where
  pub slots : SlotSteps T
  pub index : IndexSteps

-- the values as they are, what they were read from when they were last committed, and the capacities that there were then
pub record OpenTable (T : Type 0) : Type 0 where
  pub now : List T
  pub base : Shelf T
  pub capacity : Capacities

module _ {T : Type 0} where
  abbrev pub nothing_shelved : Shelf T
  nothing_shelved = record { slots = nothing_filled; index = nothing_indexed }

  -- the values, in the order in which they were put
  abbrev pub items : Shelf T → List T
  items s = values s.slots.cells (order_of s.slots.order).used

  -- what the table is read from once the changes are made
  abbrev pub shelf_after : TableSteps T → Shelf T → Shelf T
  shelf_after p s = record { slots = slots_after p.slots s.slots; index = indexing_after p.index s.index }

  -- the capacities then
  abbrev pub capacity_after : TableSteps T → Capacities → Capacities
  capacity_after p c = record { slots = slots_room_after p.slots c.slots; index = index_room_after p.index c.index }

  -- what the parts of a table are read from
  abbrev pub base_of : IndexedSlots T → Shelf T
  base_of p = record { slots = p.slots.base; index = p.index.base }

  abbrev pub capacity_of : IndexedSlots T → Capacities
  capacity_of p = record { slots = p.slots.capacity; index = p.index.capacity }

  abbrev pub values_of : IndexedSlots T → List T
  values_of p = values p.slots.cells p.slots.order.used

  -- the place and the value of one slot may change without memory
  abbrev pub MayChange : IndexedSlots T → Type 0
  MayChange p = (4 ≤ p.slots.room.order) × (1 ≤ p.slots.room.cells)

  -- one value may go without memory
  abbrev pub MayGo : IndexedSlots T → Type 0
  MayGo p = (3 ≤ p.slots.room.order) × (1 ≤ p.slots.room.cells) × AreWithin (both 1 2) p.index.room

  -- one value may come without memory
  abbrev pub MayCome : IndexedSlots T → Type 0
  MayCome p = (2 ≤ p.slots.room.order) × (1 ≤ p.slots.room.cells) × (0 < p.index.width) × AreWithin (both 1 1) p.index.room

module _ {T : Type 0} (key : T → ℕ) where
  -- each slot has a cell and an entry, and the index leads to the slots of the values
  pub record Holds (cells : List (Option T)) (numbers : List (Option ℕ)) (order : Order) : Type 0 where
    pub cells_long : length order.used + order.spare ≤ length cells
    pub numbers_long : length order.used + order.spare ≤ length numbers
    pub indexed : IsIndexed key cells (λ k. slot_of k numbers) order.used

  abbrev pub HoldsShelf : Shelf T → Type 0
  HoldsShelf s = Holds s.slots.cells (numbers_of s.index.entries) (order_of s.slots.order)

  abbrev pub HoldsParts : IndexedSlots T → Type 0
  HoldsParts p = Holds p.slots.cells p.index.now p.slots.order

  -- the changes can be made without memory, and lead to a table
  abbrev pub Fits : TableSteps T → Shelf T → Capacities → Type 0
  Fits p s c = SlotsFit p.slots s.slots c.slots × IndexFits p.index s.index c.index × HoldsShelf (shelf_after p s)

  -- the changes can be made without memory, and lead to these values
  abbrev pub Plans : TableSteps T → Shelf T → Capacities → List T → Type 0
  Plans p s c target = Fits p s c × (items (shelf_after p s) ≡ target)
