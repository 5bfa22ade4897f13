use Rattle.mdb_workers.specs.Ticking.{KeptTime}
use Rattle.mdb_workers.proofs.ticking.keep_time_by.Given as goal

abbrev pub invariant-loop : goal.invariant-loop
invariant-loop g l = record { kept : KeptTime g.C.Core.stands (g.T.Timer.tells l.timer) l.initial.seat l.seat }
