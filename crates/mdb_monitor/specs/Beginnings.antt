-- How a check begins.
use Rattle.std.specs.Prelude.{ℕ, ◌+◌, ◌-◌, ◌^◌, min, Bool, true, false, if◌then◌else◌, Option, Some, None, List}
use Rattle.mdb_base.specs.declared.topology_version.TopologyVersion.{TopologyVersion}
use Rattle.mdb_hello.specs.declared.command.AwaitableHelloOptions.{AwaitableHelloOptions}
use Rattle.mdb_events.specs.declared.sdam.SdamEvent.{SdamEvent}
use Rattle.mdb_events.specs.declared.sdam.SdamEvent.TheVariants.{ServerHeartbeatStarted}
use Rattle.mdb_monitor.specs.declared.monitor.Setting.{Setting}
use Rattle.mdb_monitor.specs.declared.knowledge.Connection.{Connection}
use Rattle.mdb_monitor.specs.declared.check.Begin.{Begin}
use Rattle.mdb_monitor.specs.declared.check.Action.{Action}
use Rattle.mdb_monitor.specs.declared.check.Action.TheVariants.{Connect, Read, Hello}
use Rattle.mdb_monitor.specs.Items.{MonitorItem, version_of, connection_of, more_follows, awaits}

-- the connection that there is, or the one that is made, with the fresh number
abbrev pub connection_for : Option Connection → ℕ → Connection
connection_for (Some known) fresh = known
connection_for None fresh = record { driver_id = fresh; server_id = None }

-- the time for a connection, and also the time between two checks where a version is known, up to the greatest number
abbrev pub timeout_of : Setting → Option TopologyVersion → ℕ
timeout_of s None = s.connect
timeout_of s (Some version) = min (s.connect + s.heartbeat) (2 ^ 64 - 1)

-- the version that is known and the time between two checks, where streaming is allowed
abbrev pub awaitable : Setting → Option TopologyVersion → Option AwaitableHelloOptions
awaitable s None = None
awaitable s (Some version) = if s.allow_streaming then Some (record { topology_version = version; max_await_time = s.heartbeat }) else None

-- without a connection it makes one; it reads where the last reply said that more come; else it asks
abbrev pub action_of : Setting → Option Connection → Option TopologyVersion → Bool → Action
action_of s None version more = Connect
action_of s (Some known) version true = Read
action_of s (Some known) version false = Hello (awaitable s version)

abbrev pub started_event : Setting → Connection → Bool → SdamEvent
started_event s k awaited = ServerHeartbeatStarted (record { server_address = s.address; awaited = awaited; driver_connection_id = k.driver_id; server_connection_id = k.server_id })

abbrev pub begin_with : Setting → Option Connection → Option TopologyVersion → Bool → ℕ → Begin
begin_with s known version more fresh =
    let k : Connection = connection_for known fresh in
    let awaited : Bool = awaits s.allow_streaming version in
    record { awaited = awaited; driver_connection_id = k.driver_id; action = action_of s known version more; timeout = timeout_of s version; event = started_event s k awaited }

-- how a check begins, after the items since the last failure or cancellation
abbrev pub begin_row : Setting → List MonitorItem → ℕ → Begin
begin_row s xs fresh = begin_with s (connection_of xs) (version_of xs) (more_follows xs) fresh
