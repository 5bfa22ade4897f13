use Rattle.std.proofs.Common.{take}
use Rattle.mdb_pool.specs.Kept.Clearing.{AreMarked}
use Rattle.mdb_pool.proofs.kept.marks.named_before.Given as goal

abbrev pub invariant-loop-mark : goal.invariant-loop-mark
invariant-loop-mark l = AreMarked l.id (take l.mark-index l.marks) l.named.items
