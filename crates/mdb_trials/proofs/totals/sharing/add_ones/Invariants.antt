use Rattle.std.proofs.Common.{◌≡◌}
use Rattle.mdb_trials.proofs.totals.sharing.add_ones.Given as goal

abbrev pub invariant-loop : goal.invariant-loop
invariant-loop g l = l.seat.driver ≡ l.fn.seat.driver
