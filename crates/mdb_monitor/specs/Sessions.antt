-- What a monitor knows after a check.
use Rattle.std.specs.Prelude.{ℕ, Bool, if◌then◌else◌, Some}
use Rattle.mdb_hello.specs.declared.response.HelloReply.{HelloReply}
use Rattle.mdb_monitor.specs.declared.check.CheckResult.{CheckResult}
use Rattle.mdb_monitor.specs.declared.check.CheckResult.TheVariants.{Ok, Err, Cancelled}
use Rattle.mdb_monitor.specs.declared.knowledge.Session.{Session}
use Rattle.mdb_monitor.specs.declared.knowledge.Knowledge.{Knowledge}
use Rattle.mdb_monitor.specs.declared.knowledge.Knowledge.TheVariants.{Unconnected, Connected}
use Rattle.mdb_monitor.specs.Average.{next_average}
use Rattle.mdb_monitor.specs.Items.{awaits, connection_with}
use Rattle.mdb_monitor.specs.Standing.{nothing, known_connection}

-- the average after a check that succeeded
abbrev pub average_after : Bool → Knowledge → ℕ → ℕ
average_after streaming (Unconnected round_trips) duration = next_average (Some (next_average round_trips.average duration)) duration
average_after streaming (Connected session) duration = if awaits streaming session.version then session.average else next_average (Some session.average) duration

abbrev pub session_after : Bool → Knowledge → ℕ → ℕ → HelloReply → Bool → Session
session_after streaming known fresh duration reply more = record { connection = connection_with (known_connection known) fresh reply; version = reply.command_response.topology_version; average = average_after streaming known duration; more_to_come = more }

abbrev pub knowledge_after : Bool → Knowledge → ℕ → ℕ → CheckResult → Knowledge
knowledge_after streaming known fresh duration (Ok reply more) = Connected (session_after streaming known fresh duration reply more)
knowledge_after streaming known fresh duration (Err error) = nothing
knowledge_after streaming known fresh duration (Cancelled error) = nothing
