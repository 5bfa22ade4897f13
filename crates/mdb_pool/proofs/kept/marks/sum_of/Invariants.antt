use Rattle.std.proofs.Common.{◌≡◌, ◌+◌, drop}
use Rattle.mdb_pool.specs.Kept.Clearing.{counts_at, weigh}
use Rattle.mdb_pool.proofs.kept.marks.sum_of.Given as goal

-- what was counted and what is left is all
abbrev pub invariant-loop-mark : goal.invariant-loop-mark
invariant-loop-mark l = l.sum + weigh (counts_at l.service l.before) (drop l.mark-index l.marks) ≡ weigh (counts_at l.service l.before) l.marks
