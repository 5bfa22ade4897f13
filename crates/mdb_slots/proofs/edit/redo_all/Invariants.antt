use Rattle.std.proofs.Common.{◌≡◌, ◌≤◌, ◌+◌, vec_len, vec_capacity, drop}
use Rattle.mdb_slots.specs.Edits.{rewound, grows}
use Rattle.mdb_slots.proofs.edit.redo_all.Given as goal

-- the changes from `at` on lead to the same list, and there is room for them
abbrev pub invariant-loop-at : goal.invariant-loop-at
invariant-loop-at g l = (l.changes ≡ vec_len l.log) × (rewound (drop l.at l.log.items) l.items.items ≡ rewound l.fn.log.items l.fn.items.items) × (grows (drop l.at l.log.items) + vec_len l.items ≤ vec_capacity l.items) × (vec_capacity l.items ≡ vec_capacity l.fn.items)
