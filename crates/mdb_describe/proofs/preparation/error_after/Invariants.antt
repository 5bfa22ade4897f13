use Rattle.mdb_describe.proofs.Kept.{WalkedTo}
use Rattle.mdb_describe.proofs.preparation.error_after.Given as goal

abbrev pub invariant-loop-old : goal.invariant-loop-old
invariant-loop-old l = WalkedTo l.change l.server l.listed l.servers l.met l.old-index
