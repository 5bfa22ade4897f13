use Rattle.std.proofs.Common.{◌≡◌, ◌≤◌, ◌+◌, vec_len, vec_capacity, take, drop}
use Rattle.mdb_slots.specs.Edits.{unwound, rewound, grows}
use Rattle.mdb_slots.proofs.edit.undo_all.Given as goal

-- the changes before `at` lead back, and those from it on are turned
abbrev pub invariant-loop-at : goal.invariant-loop-at
invariant-loop-at g l = (l.at ≤ vec_len l.log) × (unwound (take l.at l.log.items) l.items.items ≡ unwound l.fn.log.items l.fn.items.items) × (rewound (drop l.at l.log.items) l.items.items ≡ l.fn.items.items) × (grows (drop l.at l.log.items) + vec_len l.items ≤ vec_len l.fn.items) × (vec_capacity l.items ≡ vec_capacity l.fn.items)

abbrev pub decreases-loop-at : goal.decreases-loop-at
decreases-loop-at g l = l.at
