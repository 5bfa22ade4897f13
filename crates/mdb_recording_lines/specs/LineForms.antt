-- What a line of a recording tells.
use Rattle.std.specs.Prelude.{ℕ, Bool, false, not, List, codes, Option, Some, None, is_some, option_map, option_and_then, if◌then◌else◌}
use Rattle.std.specs.Str.{bytes_eq, is_utf8}
use Rattle.json.specs.Json.{Json, document}
use Rattle.json.specs.Find.{get, as_bool, as_str, as_number, is_null}
use Rattle.mdb_recordings.specs.declared.event.CloseReason.{CloseReason}
use Rattle.mdb_recordings.specs.declared.event.CloseReason.TheVariants as closes
use Rattle.mdb_recordings.specs.declared.event.Event.{Event}
use Rattle.mdb_recordings.specs.declared.event.FailReason.{FailReason}
use Rattle.mdb_recordings.specs.declared.event.FailReason.TheVariants as fails
use Rattle.mdb_recordings.specs.declared.event.Limits.{Limits}
use Rattle.mdb_recordings.specs.declared.event.Told.{Told}
use Rattle.mdb_recordings.specs.declared.event.Told.TheVariants as told
use Rattle.mdb_recording_servers.specs.declared.event.ServerEvent.{ServerEvent}
use Rattle.mdb_recording_servers.specs.declared.event.ServerKind.{ServerKind}
use Rattle.mdb_recording_servers.specs.declared.event.ServerTold.{ServerTold}
use Rattle.mdb_recording_servers.specs.declared.event.ServerTold.TheVariants as server
use Rattle.mdb_recording_lines.specs.ServerNames.{check_named, kind_named, topology_named}
use Rattle.mdb_recording_lines.specs.EventNames.{event_named, close_reason, fail_reason}
use Rattle.mdb_recording_lines.specs.Numbers.{micros, whole}
use Rattle.mdb_recording_lines.specs.declared.event_name.EventName.{EventName}
use Rattle.mdb_recording_lines.specs.declared.event_name.EventName.TheVariants as names
use Rattle.mdb_recording_lines.specs.declared.line.Line.{Line}
use Rattle.mdb_recording_lines.specs.declared.line.Line.TheVariants as lines

-- a member of an object; one that is null is not there
abbrev pub unless_null : Json → Option Json
unless_null j = if is_null j then None else Some j

abbrev pub member : List ℕ → Json → Option Json
member key j = option_and_then unless_null (get key j)

-- the text, and the whole number, of a member of an object

abbrev pub text_at : List ℕ → Json → Option (List ℕ)
text_at key j = option_and_then as_str (get key j)

abbrev pub number_at : List ℕ → Json → Option ℕ
number_at key j = option_and_then (whole 0) (option_and_then as_number (get key j))

-- the whole number of a member, or this one where it has no such member
abbrev pub number_from : ℕ → Option Json → Option ℕ
number_from other None = Some other
number_from other (Some j) = option_and_then (whole 0) (as_number j)

abbrev pub number_or : List ℕ → ℕ → Json → Option ℕ
number_or key other j = number_from other (member key j)

-- whether a member is true; it is not where there is none
abbrev pub flag_from : Option Json → Option Bool
flag_from None = Some false
flag_from (Some j) = as_bool j

abbrev pub flag_at : List ℕ → Json → Option Bool
flag_at key j = flag_from (member key j)

abbrev pub has_text : List ℕ → Json → Bool
has_text key j = is_some (text_at key j)

-- What a line tells: nothing that can be read; something of a kind that is not judged; or an event of the pool or the server at an address, or of the topology.
pub data Said : Type 0 where
  malformed : Said
  passed : Said
  tells : List ℕ → Event → Said
  tells_server : List ℕ → ServerTold → Said
  tells_topology : ServerEvent → Said

abbrev pub limits_from : Option ℕ → Option ℕ → Option ℕ → Option Bool → Option Limits
limits_from (Some size) (Some connecting) (Some idle) (Some balanced) = Some (record { max_size = size; max_connecting = connecting; max_idle = idle; is_load_balanced = balanced })
limits_from _ _ _ _ = None

-- The options of a pool. Where the event has none, the size is the standard's 100; how many connections may be pending is not assumed, as
-- some drivers never tell it.
abbrev pub limits_at : Json → Option Limits
limits_at j = limits_from (number_or (codes "maxPoolSize") 100 j) (number_or (codes "maxConnecting") 0 j) (number_or (codes "maxIdleTimeMS") 0 j) (flag_at (codes "loadBalanced") j)

-- why a connection was closed, if it says so; nothing where that is no word of the standard
abbrev pub close_reason_from : Option Json → Option CloseReason
close_reason_from None = Some closes.Untold
close_reason_from (Some j) = option_and_then close_reason (as_str j)

abbrev pub close_reason_at : Json → Option CloseReason
close_reason_at j = close_reason_from (member (codes "reason") j)

-- why a check-out failed, if it says so; nothing where that is no word of the standard
abbrev pub fail_reason_from : Option Json → Option FailReason
fail_reason_from None = Some fails.Untold
fail_reason_from (Some j) = option_and_then fail_reason (as_str j)

abbrev pub fail_reason_at : Json → Option FailReason
fail_reason_at j = fail_reason_from (member (codes "reason") j)

-- a connection with that id was closed for that reason
abbrev pub closed_from : Option ℕ → Option CloseReason → Option Told
closed_from (Some i) (Some reason) = Some (told.ConnectionClosed i reason)
closed_from _ _ = None

abbrev pub id_at : Json → Option ℕ
id_at j = number_at (codes "connectionId") j

-- what an event of that name tells, if it has all that it needs
abbrev pub told_at : EventName → Json → Option Told
told_at names.PoolCreated j = option_map (λ limits. told.PoolCreated limits) (limits_at j)
told_at names.PoolReady j = Some told.PoolReady
told_at names.PoolCleared j = Some (told.PoolCleared (not (has_text (codes "serviceId") j)))
told_at names.PoolClosed j = Some told.PoolClosed
told_at names.ConnectionCreated j = option_map (λ i. told.ConnectionCreated i) (id_at j)
told_at names.ConnectionReady j = option_map (λ i. told.ConnectionReady i) (id_at j)
told_at names.ConnectionClosed j = closed_from (id_at j) (close_reason_at j)
told_at names.CheckOutStarted j = Some told.CheckOutStarted
told_at names.CheckOutFailed j = option_map (λ reason. told.CheckOutFailed reason) (fail_reason_at j)
told_at names.CheckedOut j = option_map (λ i. told.CheckedOut i) (id_at j)
told_at names.CheckedIn j = option_map (λ i. told.CheckedIn i) (id_at j)

-- when it came, if it says so; nothing where that is no number of seconds
abbrev pub time_from : Option Json → Option (Option ℕ)
time_from None = Some None
time_from (Some j) = option_map (λ at. Some at) (option_and_then micros (as_number j))

abbrev pub time_at : Json → Option (Option ℕ)
time_at j = time_from (member (codes "t") j)

-- the number of the check-out that it concerns, if it says so; nothing where that is no whole number
abbrev pub caller_from : Option Json → Option (Option ℕ)
caller_from None = Some None
caller_from (Some j) = option_map (λ i. Some i) (option_and_then (whole 0) (as_number j))

abbrev pub caller_at : Json → Option (Option ℕ)
caller_at j = caller_from (member (codes "caller") j)

-- an event that tells this at an address, a time and of a check-out, if all are there
abbrev pub told_from : Option (List ℕ) → Option Told → Option (Option ℕ) → Option (Option ℕ) → Said
told_from (Some address) (Some t) (Some at) (Some caller) = tells address (record { at = at; caller = caller; told = t })
told_from _ _ _ _ = malformed

abbrev pub named_from : Option EventName → Json → Said
named_from None j = malformed
named_from (Some name) j = told_from (text_at (codes "address") j) (told_at name j) (time_at j) (caller_at j)

-- an event of a pool, by its name
abbrev pub pool_from : Option (List ℕ) → Json → Said
pool_from None j = malformed
pool_from (Some name) j = named_from (event_named name) j

-- the kind of server that a member names, if it is there; nothing where it names none
abbrev pub kind_at_member : Option Json → Option (Option ServerKind)
kind_at_member None = Some None
kind_at_member (Some j) = option_map (λ kind. Some kind) (option_and_then kind_named (as_str j))

abbrev pub kind_at : List ℕ → Json → Option (Option ServerKind)
kind_at key j = kind_at_member (member key j)

-- a server changed between two kinds, as far as they are told
abbrev pub changed_from : Option (Option ServerKind) → Option (Option ServerKind) → Option ServerTold
changed_from (Some from) (Some to) = Some (server.Changed from to)
changed_from _ _ = None

abbrev pub changed_at : Json → Option ServerTold
changed_at j = changed_from (kind_at (codes "from") j) (kind_at (codes "to") j)

-- what an event of that name tells of a server
unfoldable pub server_named : List ℕ → Json → Option ServerTold
server_named name j =
    if bytes_eq name (codes "ServerDescriptionChanged") then changed_at j
    else if bytes_eq name (codes "ServerOpening") then Some server.Opened
    else if bytes_eq name (codes "ServerClosed") then Some server.Closed
    else None

abbrev pub server_at_address : Option (List ℕ) → ServerTold → Said
server_at_address None t = malformed
server_at_address (Some address) t = tells_server address t

-- an event of a server, which needs an address
abbrev pub server_from : Option ServerTold → Json → Said
server_from None j = malformed
server_from (Some t) j = server_at_address (text_at (codes "address") j) t

abbrev pub topology_or_server : Option ServerEvent → List ℕ → Json → Said
topology_or_server (Some e) name j = tells_topology e
topology_or_server None name j = server_from (server_named name j) j

-- an event of a server or of the topology, by its name
abbrev pub sdam_from : Option (List ℕ) → Json → Said
sdam_from None j = malformed
sdam_from (Some name) j = topology_or_server (topology_named name) name j

-- an event of a check of a server, by its name
abbrev pub check_from : Option (List ℕ) → Json → Said
check_from None j = malformed
check_from (Some name) j = server_from (check_named name) j

-- an object, by its kind
abbrev pub kind_from : Option (List ℕ) → Json → Said
kind_from None j = malformed
kind_from (Some kind) j =
    if bytes_eq kind (codes "pool") then pool_from (text_at (codes "event") j) j
    else if bytes_eq kind (codes "sdam") then sdam_from (text_at (codes "event") j) j
    else if bytes_eq kind (codes "beat") then check_from (text_at (codes "event") j) j
    else passed

abbrev pub object_from : Option Json → Said
object_from None = malformed
object_from (Some j) = kind_from (text_at (codes "kind") j) j

-- what a line tells
abbrev pub said : List ℕ → Said
said line = object_from (if is_utf8 line then document line else None)

-- what a line tells, as the code has it
abbrev pub line_view : Line → Said
line_view lines.Malformed = malformed
line_view lines.Passed = passed
line_view (lines.Told address event) = tells address.now event
line_view (lines.OfServer address t) = tells_server address.now t
line_view (lines.OfTopology e) = tells_topology e
