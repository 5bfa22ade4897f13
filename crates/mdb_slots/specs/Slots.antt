-- Values in slots, in the order in which they came.
use Rattle.std.specs.Prelude.{◌≡◌, ◌≤◌, ◌+◌, ℕ, Option, is_some, List, [], length}
use Rattle.mdb_slots.specs.declared.records.Record.{Record}
use Rattle.mdb_slots.specs.Lists.{has}
use Rattle.mdb_slots.specs.Links.{Order}
use Rattle.mdb_slots.specs.Open.{ListSteps, list_after, room_after, ListFits}
use Rattle.mdb_slots.specs.SlotOrder.{Laid, OrderSteps, nothing_laid, order_of, laid_after, order_room_after, OrderFits}
use Rattle.mdb_slots.specs.Cells.{cell_at}
use Rattle.mdb_slots.specs.Items.{Listing, items_at}

-- what slots are read from
pub record SlotShelf (T : Type 0) : Type 0 where
  pub order : Laid
  pub cells : List (Option T)

-- the changes of slots
pub record SlotSteps (T : Type 0) : Type 0 where
  pub order : OrderSteps
  pub cells : ListSteps (Option T)

-- a number for the nodes of the order, and one for the cells
pub record SlotSizes : Type 0 where
  pub order : ℕ
  pub cells : ℕ

-- the slots in use in their order, what each slot holds, what they were read from when they were last committed, the capacities that there were then, and how many changes of each part may come without memory
pub record OpenSlots (T : Type 0) : Type 0 where
  pub order : Order
  pub cells : List (Option T)
  pub base : SlotShelf T
  pub capacity : SlotSizes
  pub room : SlotSizes

module _ {T : Type 0} where
  -- each slot has a cell, and those in use hold values
  pub record IsFilled (order : Order) (cells : List (Option T)) : Type 0 where
    pub long : length order.used + order.spare ≤ length cells
    pub cover : (k : ℕ) → is_some (cell_at cells k) ≡ has k order.used

  abbrev pub nothing_filled : SlotShelf T
  nothing_filled = record { order = nothing_laid; cells = [] }

  -- what the slots are read from once the changes are made
  abbrev pub slots_after : SlotSteps T → SlotShelf T → SlotShelf T
  slots_after p s = record { order = laid_after p.order s.order; cells = list_after p.cells s.cells }

  -- the capacities then
  abbrev pub slots_room_after : SlotSteps T → SlotSizes → SlotSizes
  slots_room_after p c = record { order = order_room_after p.order c.order; cells = room_after p.cells c.cells }

  -- what was changed between the two can be taken back
  abbrev pub SlotsGoBack : OpenSlots T → OpenSlots T → Type 0
  SlotsGoBack a b = (b.base ≡ a.base) × (b.capacity ≡ a.capacity)

  -- nothing that was changed can be taken back
  abbrev pub SlotsLast : OpenSlots T → Type 0
  SlotsLast a = (order_of a.base.order ≡ a.order) × (a.base.cells ≡ a.cells)

  -- the slots are in step
  abbrev pub IsShelf : SlotShelf T → Type 0
  IsShelf s = IsFilled (order_of s.order) s.cells

  -- the changes can be made without memory, and lead to slots
  abbrev pub SlotsFit : SlotSteps T → SlotShelf T → SlotSizes → Type 0
  SlotsFit p s c = OrderFits p.order s.order c.order × ListFits p.cells s.cells c.cells × IsShelf (slots_after p s)

-- the records, oldest first, and how many more may come without memory
abbrev pub listing : OpenSlots Record → Listing
listing s = record { items = items_at s.cells s.order.used; spare = s.order.spare }
