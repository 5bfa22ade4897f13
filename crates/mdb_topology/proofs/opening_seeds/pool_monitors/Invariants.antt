use Rattle.std.proofs.Common.{ℕ, take, ◌≡◌, ◌<◌, ◌≤◌, [], All, true, length, map}
use Rattle.mdb_log.specs.Connections.{has}
use Rattle.mdb_monitor.specs.Standing.{StandsFor as MonitorStands}
use Rattle.mdb_driver_rules.specs.Monitors.{setting}
use Rattle.mdb_topology.proofs.opening_seeds.pool_monitors.Given as goal

-- so many monitors came, and the places are as many as the pools
abbrev pub invariant-loop-place : goal.invariant-loop-place
invariant-loop-place l = record {
  count : length l.made.items ≡ l.place;
  room : length l.cores.items ≤ l.made.room;
  settings : map (λ m. m.setting) l.made.items ≡ map (λ s. setting l.options s.address) (take l.place l.cores.items);
  stand : All (λ m. MonitorStands m []) l.made.items;
  kept : (p : ℕ) → p < l.place → has p l.made.kept ≡ true;
}
