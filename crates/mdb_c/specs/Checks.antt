-- What the next check of a server does and what follows one, as numbers.
use Rattle.std.specs.Prelude.{ℕ, ℤ, pos, Bool, true, false, not, ◌&&◌, List, replicate, Option, Some, None, is_some, is_none, option_map, option_and_then}
use Rattle.mdb_base.specs.declared.address.ServerAddress.{ServerAddress}
use Rattle.mdb_describe.specs.Fields.{response}
use Rattle.mdb_describe.specs.Topology.{server_at}
use Rattle.mdb_describe.specs.declared.description.ServerDescription.{ServerDescription}
use Rattle.mdb_hello.specs.Commands.{is_current}
use Rattle.mdb_hello.specs.declared.command.AwaitableHelloOptions.{AwaitableHelloOptions}
use Rattle.mdb_log.specs.declared.log.Entry.{Entry}
use Rattle.mdb_monitor.specs.declared.check.Action.{Action}
use Rattle.mdb_monitor.specs.declared.check.Action.TheVariants.{Connect, Read, Hello}
use Rattle.mdb_monitor.specs.declared.check.Begin.{Begin}
use Rattle.mdb_monitor.specs.declared.check.Next.{Next}
use Rattle.mdb_monitor.specs.declared.check.Next.TheVariants.{Retry, Sleep, Continue}
use Rattle.mdb_driver_rules.specs.Lines.{described}
use Rattle.mdb_session.specs.Ahead.{check_after}
use Rattle.mdb_c.specs.Types.{flag_number}
use Rattle.mdb_c.specs.declared.check_numbers.CheckNumbers.{CheckNumbers}

-- what a check does, counted from 1
abbrev pub action_number : Action → ℕ
action_number Connect = 1
action_number Read = 2
action_number (Hello options) = 3

-- with what the server answers when something changes
abbrev pub awaited_of : Action → Option AwaitableHelloOptions
awaited_of Connect = None
awaited_of Read = None
awaited_of (Hello options) = options

-- whether the server said that it knows `hello`, over the connection by which the check asks it
abbrev pub hello_ok_of : Action → Option ServerDescription → Option Bool
hello_ok_of Connect server = None
hello_ok_of Read server = None
hello_ok_of (Hello options) server = option_and_then (λ r. r.hello_ok) (option_and_then response server)

-- the greatest time for which the server may wait
abbrev pub most_of : Option AwaitableHelloOptions → ℕ
most_of (Some options) = options.max_await_time
most_of None = 0

-- the counter and the process of the version of its description that the driver has
abbrev pub counter_of : Option AwaitableHelloOptions → ℤ
counter_of (Some options) = options.topology_version.counter
counter_of None = pos 0

abbrev pub process_of : Option AwaitableHelloOptions → List ℕ
process_of (Some options) = options.topology_version.process_id.0
process_of None = replicate 12 0

-- a check sends a command, unless it reads what comes unasked
abbrev pub sends : Action → Bool
sends Connect = true
sends Read = false
sends (Hello options) = true

-- A command has the older name where the server is not known to know `hello`, and asks for that where nothing is known of it.
abbrev pub check_numbers : Option Bool → Begin → CheckNumbers
check_numbers hello_ok b = record {
  timeout = b.timeout;
  most = most_of (awaited_of b.action);
  counter = counter_of (awaited_of b.action);
  process = process_of (awaited_of b.action);
  action = action_number b.action;
  connection = b.driver_connection_id;
  awaits = flag_number (is_some (awaited_of b.action));
  legacy = flag_number (sends b.action && not (is_current None None hello_ok));
  asks = flag_number (sends b.action && is_none hello_ok);
}

-- the check of a server that is described so
abbrev pub check_with : Option ServerDescription → Begin → CheckNumbers
check_with server b = check_numbers (hello_ok_of b.action server) b

-- what the check of the server does that begins after the log, if a pool is open there
abbrev pub check_at : List Entry → ServerAddress → Option CheckNumbers
check_at log a = option_map (check_with (server_at a (described log).servers)) (check_after log a)

-- a check at once since the server may have restarted, a sleep, or a check at once since the server answers when something changes, counted from 1
abbrev pub next_number : Next → ℕ
next_number Retry = 1
next_number Sleep = 2
next_number Continue = 3
