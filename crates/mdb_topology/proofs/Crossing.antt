-- A driver's core may cross to another thread.
use denote.Param.Send.{IsSend, sendable}
use Rattle.std.proofs.Crossing.{crosses}
use Rattle.mdb_base.proofs.options.Options.TheSendSync.{the_field_send as options}
use Rattle.mdb_describe.proofs.Crossing.{topology}
use Rattle.mdb_monitor.proofs.check_count.CheckCount.TheSendSync.{the_send as watchers}
use Rattle.mdb_topology.proofs.monitors.monitor_list.Monitors.TheSendSync.{the_send as monitors}
use Rattle.mdb_driver_pools.proofs.pools.Pools.TheSendSync.{the_field_send as pools}
use Rattle.mdb_topology.specs.contracts.topology.TopologyCore as Driver

pub driver_crosses : IsSend Driver.the_field.row
driver_crosses = search (options, topology, pools, monitors, watchers, crosses, sendable) depth 20

-- for `search`: a driver's core crosses
pub ruleset drivers = (driver_crosses, crosses, sendable)
