-- When the state of a monitor stands for what was done at it.
use Rattle.std.specs.Prelude.{ℕ, ◌≡◌, Bool, false, if◌then◌else◌, Option, Some, None, is_some, List}
use Rattle.mdb_base.specs.declared.topology_version.TopologyVersion.{TopologyVersion}
use Rattle.mdb_monitor.specs.declared.knowledge.Connection.{Connection}
use Rattle.mdb_monitor.specs.declared.knowledge.Knowledge.{Knowledge}
use Rattle.mdb_monitor.specs.declared.knowledge.Knowledge.TheVariants.{Unconnected, Connected}
use Rattle.mdb_monitor.specs.declared.monitor.MonitorCore.{MonitorCore}
use Rattle.mdb_monitor.specs.declared.monitor.Setting.{Setting}
use Rattle.mdb_monitor.specs.Average.{average_of}
use Rattle.mdb_monitor.specs.Items.{MonitorItem, since, is_running, fresh_of, version_of, more_follows, connection_of, samples}

abbrev pub nothing : Knowledge
nothing = Unconnected (record { average = None })

abbrev pub known_connection : Knowledge → Option Connection
known_connection (Unconnected round_trips) = None
known_connection (Connected session) = Some session.connection

abbrev pub known_version : Knowledge → Option TopologyVersion
known_version (Unconnected round_trips) = None
known_version (Connected session) = session.version

abbrev pub known_average : Knowledge → Option ℕ
known_average (Unconnected round_trips) = round_trips.average
known_average (Connected session) = Some session.average

abbrev pub says_more : Knowledge → Bool
says_more (Unconnected round_trips) = false
says_more (Connected session) = session.more_to_come

-- how the server is monitored
abbrev pub setting_of : MonitorCore → Setting
setting_of m = m.setting

-- a check runs
abbrev pub runs : MonitorCore → Bool
runs m = is_some m.running

-- the check that runs and its fresh number
abbrev pub running_of : List MonitorItem → Option ℕ
running_of xs = if is_running xs then Some (fresh_of xs) else None

-- The monitor knows what the items say.
pub record Fits (m : MonitorCore) (xs : List MonitorItem) : Type 0 where
  pub connection : known_connection m.knowledge ≡ connection_of xs
  pub version : known_version m.knowledge ≡ version_of xs
  pub average : known_average m.knowledge ≡ average_of (samples m.setting.allow_streaming xs)
  pub more : says_more m.knowledge ≡ more_follows xs
  pub running : m.running ≡ running_of xs

-- The monitor knows what the items since its last failure or cancellation say.
abbrev pub StandsFor : MonitorCore → List MonitorItem → Type 0
StandsFor m h = Fits m (since h)
