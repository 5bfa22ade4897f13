use Rattle.std.proofs.Common.{◌≡◌, None, length}
use Rattle.mdb_slots.specs.Lists.{previous}
use Rattle.mdb_slots.specs.SlotIndex.{Linked, trail}
use Rattle.mdb_slots.proofs.index_entry.find_before.Given as goal

-- what is left of the chain has the slot that the whole has
abbrev pub invariant-loop-slot : goal.invariant-loop-slot
invariant-loop-slot l = Linked l.entries l.at (trail (length l.entries) l.at l.entries) None × (previous l.before l.wanted (trail (length l.entries) l.at l.entries) ≡ previous None l.wanted (trail (length l.entries) l.fn.first l.entries))

abbrev pub decreases-loop-slot : goal.decreases-loop-slot
decreases-loop-slot l = length (trail (length l.entries) l.at l.entries)
