use Rattle.std.proofs.Common.{drop}
use Rattle.mdb_pool.proofs.KeptInLittle.CountedClears.{CountsAll}
use Rattle.mdb_pool.proofs.kept.marks.marked.Given as goal

abbrev pub invariant-loop-mark : goal.invariant-loop-mark
invariant-loop-mark l = CountsAll l.live.now l.created l.marks l.made.items (drop l.mark-index l.marks)
