use Rattle.mdb_judging.specs.Queueing.{Passes}
use Rattle.mdb_judging.proofs.queues.Queues.first.Given as goal

abbrev pub invariant-loop-index : goal.invariant-loop-index
invariant-loop-index l = Passes l.tables l.pool l.index l.initial.self l.self
