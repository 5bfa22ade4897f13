-- What follows from a check that ended.
use Rattle.std.specs.Prelude.{ℕ, Bool, ◌&&◌, if◌then◌else◌, Option, is_some, List, ◌∷◌}
use Rattle.mdb_base.specs.declared.error.Error.{Error}
use Rattle.mdb_base.specs.Errors.{is_network}
use Rattle.mdb_base.specs.declared.topology_version.TopologyVersion.{TopologyVersion}
use Rattle.mdb_hello.specs.declared.response.HelloReply.{HelloReply}
use Rattle.mdb_events.specs.declared.sdam.SdamEvent.{SdamEvent}
use Rattle.mdb_events.specs.declared.sdam.SdamEvent.TheVariants.{ServerHeartbeatSucceeded, ServerHeartbeatFailed}
use Rattle.mdb_monitor.specs.declared.monitor.Setting.{Setting}
use Rattle.mdb_monitor.specs.declared.knowledge.Connection.{Connection}
use Rattle.mdb_monitor.specs.declared.check.CheckResult.{CheckResult}
use Rattle.mdb_monitor.specs.declared.check.CheckResult.TheVariants.{Ok, Err, Cancelled}
use Rattle.mdb_monitor.specs.declared.check.Report.{Report}
use Rattle.mdb_monitor.specs.declared.check.Report.TheVariants as Told
use Rattle.mdb_monitor.specs.declared.check.Next.{Next}
use Rattle.mdb_monitor.specs.declared.check.Next.TheVariants.{Retry, Sleep, Continue}
use Rattle.mdb_monitor.specs.declared.check.Finish.{Finish}
use Rattle.mdb_monitor.specs.Average.{mean}
use Rattle.mdb_monitor.specs.Items.{MonitorItem, ended, awaits, samples, connection_of, connection_with, version_of, fresh_of}
use Rattle.mdb_monitor.specs.Beginnings.{connection_for}
use Rattle.mdb_monitor.specs.RawReply.{without_authentication}

abbrev pub success_event : Setting → Bool → Connection → ℕ → HelloReply → SdamEvent
success_event s awaited k duration reply = ServerHeartbeatSucceeded (record { duration = duration; reply = without_authentication reply.raw_command_response; server_address = s.address; awaited = awaited; driver_connection_id = k.driver_id; server_connection_id = k.server_id })

abbrev pub failure_event : Setting → Bool → Connection → ℕ → Error → SdamEvent
failure_event s awaited k duration error = ServerHeartbeatFailed (record { duration = duration; failure = error; server_address = s.address; awaited = awaited; driver_connection_id = k.driver_id; server_connection_id = k.server_id })

-- a success tells of the connection afterwards, a failure and a cancellation of the one before
abbrev pub event_of : Setting → Option Connection → Option TopologyVersion → ℕ → ℕ → CheckResult → SdamEvent
event_of s known version fresh duration (Ok reply more) = success_event s (awaits s.allow_streaming version) (connection_with known fresh reply) duration reply
event_of s known version fresh duration (Err error) = failure_event s (awaits s.allow_streaming version) (connection_for known fresh) duration error
event_of s known version fresh duration (Cancelled error) = failure_event s (awaits s.allow_streaming version) (connection_for known fresh) duration error

-- a reply is reported with the average afterwards, an error is reported, a cancellation is not
abbrev pub report_of : ℕ → CheckResult → Report
report_of average (Ok reply more) = Told.Update reply average
report_of average (Err error) = Told.Error error
report_of average (Cancelled error) = Told.Nothing

-- a network error of a server that was available is tried again; a version and streaming let the monitor go on; else it sleeps
abbrev pub next_of : CheckResult → Bool → Bool → Next
next_of (Ok reply more) available streaming = if is_some reply.command_response.topology_version && streaming then Continue else Sleep
next_of (Err error) available streaming = if is_network error.kind && available then Retry else Sleep
next_of (Cancelled error) available streaming = Sleep

-- how a check ends, after the items since the last failure or cancellation
abbrev pub finish_row : Setting → List MonitorItem → ℕ → CheckResult → Bool → Finish
finish_row s xs duration result available =
    record {
      event = event_of s (connection_of xs) (version_of xs) (fresh_of xs) duration result;
      report = report_of (mean (samples s.allow_streaming (ended duration result ∷ xs))) result;
      next = next_of result available s.allow_streaming;
    }
