use Rattle.mdb_describe.proofs.Walks.{PutsFrom}
use Rattle.mdb_describe.proofs.servers.place_for.Given as goal

abbrev pub invariant-loop-at : goal.invariant-loop-at
invariant-loop-at l = PutsFrom l.address l.servers l.at
