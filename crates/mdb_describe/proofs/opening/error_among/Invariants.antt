use Rattle.mdb_describe.proofs.Kept.{ListedTo}
use Rattle.mdb_describe.proofs.opening.error_among.Given as goal

abbrev pub invariant-loop-server : goal.invariant-loop-server
invariant-loop-server l = ListedTo l.listed l.servers l.server-index
