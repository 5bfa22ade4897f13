use Rattle.std.proofs.Common.{◌≡◌, All, [], take, map}
use Rattle.mdb_monitor.specs.Standing.{StandsFor as MonitorStands}
use Rattle.mdb_driver_rules.specs.Monitors.{setting}
use Rattle.mdb_driver_pools.specs.Planned.{opened_by}
use Rattle.mdb_topology.proofs.known.telling_changes.new_monitors.Given as goal

abbrev pub invariant-loop-change : goal.invariant-loop-change
invariant-loop-change l = record {
  settings : map (λ m. m.setting) l.made.items ≡ map (λ x. setting l.options x.address) (opened_by (take l.change-index l.changes));
  stand : All (λ m. MonitorStands m []) l.made.items;
}
