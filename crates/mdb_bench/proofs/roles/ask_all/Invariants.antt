use Rattle.std.proofs.Common.{◌≡◌}
use Rattle.mdb_bench.proofs.roles.ask_all.Given as goal

abbrev pub invariant-loop-at : goal.invariant-loop-at
invariant-loop-at g l = record { own : l.me.seat.driver ≡ l.initial.me.seat.driver }
