use Rattle.std.proofs.Common.{◌≡◌, ◌≤◌, ◌+◌, ◌++◌, vec_len, vec_capacity, reverse}
use Rattle.mdb_slots.proofs.storage.pour.Given as goal

-- what is left follows backwards, and there is room for it
abbrev pub invariant-loop-value : goal.invariant-loop-value
invariant-loop-value g l = (l.to.items ++ reverse l.from.items ≡ l.fn.to.items ++ l.fn.from.items) × (vec_len l.from + vec_len l.to ≤ vec_capacity l.to) × (vec_capacity l.to ≡ vec_capacity l.fn.to) × (vec_capacity l.from ≡ vec_capacity l.fn.from)

abbrev pub decreases-loop-value : goal.decreases-loop-value
decreases-loop-value g l = vec_len l.from
