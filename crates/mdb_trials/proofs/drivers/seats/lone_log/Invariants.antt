use Rattle.mdb_trials.proofs.drivers.seats.lone_log.Given as goal

abbrev pub invariant-loop-line : goal.invariant-loop-line
invariant-loop-line g l = g.C.Core.stands l.core l.log
