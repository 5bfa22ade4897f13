use Rattle.mdb_workers.proofs.Laboring.{SoDone}
use Rattle.mdb_workers.proofs.working.work.Given as goal

abbrev pub invariant-loop : goal.invariant-loop
invariant-loop g l = record { done : SoDone g.C.Core.stands g.C.Core.job_after l.counter l.initial.seat l.seat (g.E.Establisher.calls l.initial.establisher) (g.E.Establisher.calls l.establisher) }
