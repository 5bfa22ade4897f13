use Rattle.std.proofs.Common.{ℕ, ◌≡◌, ◌&&◌, ◌||◌, ◌++◌, true, length, nat_lt}
use Rattle.std.specs.Prelude.{nat_le}
use Rattle.mdb_log.specs.Connections.{has}
use Rattle.mdb_topology.proofs.stepping.push_all.Given as goal

abbrev pub invariant-loop-monitor : goal.invariant-loop-monitor
invariant-loop-monitor l = record {
  items : l.monitors.items ≡ l.fn.monitors.items ++ l.yielded;
  kept : (p : ℕ) → has p l.fn.monitors.kept || (nat_le (length l.fn.monitors.items) p && nat_lt p (length l.monitors.items)) ≡ true → has p l.monitors.kept ≡ true;
  room : l.monitors.room ≡ l.fn.monitors.room;
}
