use Rattle.std.proofs.Common.{◌≡◌, None, length}
use Rattle.mdb_slots.specs.SlotIndex.{Linked, trail, seek}
use Rattle.mdb_slots.proofs.index_entry.find_number.Given as goal

-- what is left of the chain has the slot that the whole has
abbrev pub invariant-loop-slot : goal.invariant-loop-slot
invariant-loop-slot l = Linked l.entries l.at (trail (length l.entries) l.at l.entries) None × (seek l.number l.entries (trail (length l.entries) l.at l.entries) ≡ seek l.number l.entries (trail (length l.entries) l.fn.first l.entries))

abbrev pub decreases-loop-slot : goal.decreases-loop-slot
decreases-loop-slot l = length (trail (length l.entries) l.at l.entries)
