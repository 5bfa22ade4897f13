use Rattle.std.proofs.Common.{◌≡◌, ◌≤◌, ◌-◌, ℕ}
use Rattle.mdb_slots.specs.Cells.{cell_at}
use Rattle.mdb_slots.proofs.slot_table.Slots+Record.reserve.Given as goal

-- the same records, and no fewer free slots
abbrev pub invariant-loop-self : goal.invariant-loop-self
invariant-loop-self l = (l.self.order.used ≡ l.fn.self.order.used) × ((k : ℕ) → cell_at l.self.cells k ≡ cell_at l.fn.self.cells k) × (l.fn.self.order.spare ≤ l.self.order.spare)

abbrev pub decreases-loop-self : goal.decreases-loop-self
decreases-loop-self l = l.more - l.self.order.spare
