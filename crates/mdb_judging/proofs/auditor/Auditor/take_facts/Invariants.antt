use Rattle.std.proofs.Common.{length}
use Rattle.mdb_judging.specs.TakingOn.{TookSoFar}
use Rattle.mdb_judging.proofs.auditor.Auditor.take_facts.Given as goal

abbrev pub invariant-loop-fact : goal.invariant-loop-fact
invariant-loop-fact l = TookSoFar l.is_balanced l.are_fair l.facts l.rest l.initial.self l.self

abbrev pub decreases-loop-fact : goal.decreases-loop-fact
decreases-loop-fact l = length l.rest
