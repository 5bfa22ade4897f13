use Rattle.mdb_workers.specs.Working.{Served}
use Rattle.mdb_workers.proofs.serving.serve.Given as goal

abbrev pub invariant-loop : goal.invariant-loop
invariant-loop g l = record { served : Served g.C.Core.job_after g.C.Core.stands l.initial.seat l.seat (g.E.Establisher.calls l.initial.establisher) (g.E.Establisher.calls l.establisher) }
