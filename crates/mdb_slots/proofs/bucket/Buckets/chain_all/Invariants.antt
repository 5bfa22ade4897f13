use Rattle.std.proofs.Common.{◌≡◌, length}
use Rattle.mdb_slots.specs.SlotIndex.{numbers_of, masked, IsIndex, base_of, capacity_of, room_of, both, LeavesAll}
use Rattle.mdb_slots.proofs.bucket.Buckets.chain_all.Given as goal

-- the slots before this one are chained
abbrev pub invariant-loop-slot : goal.invariant-loop-slot
invariant-loop-slot l = IsIndex l.self.heads.now l.self.entries.now (masked l.slot (numbers_of l.fn.self.entries.now)) × (numbers_of l.self.entries.now ≡ numbers_of l.fn.self.entries.now) × (length l.self.heads.now ≡ length l.fn.self.heads.now) × (base_of l.self ≡ base_of l.fn.self) × (capacity_of l.self ≡ capacity_of l.fn.self) × LeavesAll (room_of l.self) (both l.slot l.slot) (room_of l.fn.self)
