use Rattle.std.proofs.Common.{◌≡◌, take, vec_capacity}
use Rattle.mdb_intervals.proofs.span.move_all.Given as goal

-- the spans so far have gone
abbrev pub invariant-loop-at : goal.invariant-loop-at
invariant-loop-at l = (l.to.items ≡ take l.at l.fn.from.items) × (vec_capacity l.to ≡ vec_capacity l.fn.to)
