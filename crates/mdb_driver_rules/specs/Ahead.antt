-- What follows a check of a server, by the history before its end.
use Rattle.std.specs.Prelude.{Bool, false, if◌then◌else◌, List, Option, Some, None, is_some}
use Rattle.mdb_base.specs.declared.address.ServerAddress.{ServerAddress}
use Rattle.mdb_base.specs.declared.options.Options.{Options}
use Rattle.mdb_describe.specs.declared.description.ServerDescription.{ServerDescription}
use Rattle.mdb_describe.specs.Fields.{is_known_type}
use Rattle.mdb_describe.specs.Topology.{server_at}
use Rattle.mdb_monitor.specs.declared.check.Next.{Next}
use Rattle.mdb_monitor.specs.Endings.{next_of}
use Rattle.mdb_log.specs.declared.checked.BeatenResult.{BeatenResult}
use Rattle.mdb_log.specs.History.{Item, open_pool}
use Rattle.mdb_driver_rules.specs.Description.{description_of}
use Rattle.mdb_driver_rules.specs.Monitors.{check_result, streams}

-- the type of the server is known
abbrev pub is_available : Option ServerDescription → Bool
is_available None = false
is_available (Some s) = is_known_type s.server_type

-- What the monitor of the pool that is open at the address does after a check that ended so.
abbrev pub next_after : Options → List Item → ServerAddress → BeatenResult → Option Next
next_after o h a came = if is_some (open_pool h a) then Some (next_of (check_result a came) (is_available (server_at a (description_of o h).servers)) (streams o)) else None
