use Rattle.std.proofs.Common.{◌≡◌}
use Rattle.mdb_bench.proofs.roles.take_all.Given as goal

abbrev pub invariant-loop : goal.invariant-loop
invariant-loop g l = record { own : l.seat.driver ≡ l.initial.seat.driver }
