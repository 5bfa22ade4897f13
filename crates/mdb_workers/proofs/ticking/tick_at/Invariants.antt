use Rattle.mdb_workers.specs.Ticking.{TickedBy}
use Rattle.mdb_workers.proofs.ticking.tick_at.Given as goal

abbrev pub invariant-loop-address : goal.invariant-loop-address
invariant-loop-address g l = TickedBy g.C.Core.stands l.moment l.yielded l.initial.seat l.seat
