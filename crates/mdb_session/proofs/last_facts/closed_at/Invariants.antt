use Rattle.std.proofs.Common.{◌≡◌, length}
use Rattle.mdb_session.specs.Facts.{closed_at}
use Rattle.mdb_session.proofs.last_facts.closed_at.Given as goal

abbrev pub invariant-loop-rest : goal.invariant-loop-rest
invariant-loop-rest l = closed_at l.facts l.address ≡ closed_at l.rest l.address

abbrev pub decreases-loop-rest : goal.decreases-loop-rest
decreases-loop-rest l = length l.rest
