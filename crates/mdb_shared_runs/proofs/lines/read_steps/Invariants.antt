use Rattle.std.proofs.Common.{length}
use Rattle.mdb_shared_runs.proofs.Gathering.{Gathered}
use Rattle.mdb_shared_runs.proofs.lines.read_steps.Given as goal

abbrev pub invariant-loop-rest : goal.invariant-loop-rest
invariant-loop-rest l = Gathered l.input l.rest l.number l.steps.items

abbrev pub decreases-loop-rest : goal.decreases-loop-rest
decreases-loop-rest l = length l.rest
