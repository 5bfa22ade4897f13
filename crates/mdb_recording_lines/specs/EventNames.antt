-- The words of a recording.
use Rattle.std.specs.Prelude.{List, ℕ, codes, Option, Some, None, ◌||◌, if◌then◌else◌}
use Rattle.std.specs.Option.{option_or}
use Rattle.std.specs.Str.{bytes_eq}
use Rattle.mdb_recordings.specs.declared.event.CloseReason.{CloseReason}
use Rattle.mdb_recordings.specs.declared.event.CloseReason.TheVariants as closes
use Rattle.mdb_recordings.specs.declared.event.FailReason.{FailReason}
use Rattle.mdb_recordings.specs.declared.event.FailReason.TheVariants as fails
use Rattle.mdb_recording_lines.specs.declared.event_name.EventName.{EventName}
use Rattle.mdb_recording_lines.specs.declared.event_name.EventName.TheVariants as names

unfoldable pub pool_event : List ℕ → Option EventName
pool_event word =
    if bytes_eq word (codes "ConnectionPoolCreated") then Some names.PoolCreated
    else if bytes_eq word (codes "ConnectionPoolReady") then Some names.PoolReady
    else if bytes_eq word (codes "ConnectionPoolCleared") then Some names.PoolCleared
    else if bytes_eq word (codes "ConnectionPoolClosed") then Some names.PoolClosed
    else None

unfoldable pub connection_event : List ℕ → Option EventName
connection_event word =
    if bytes_eq word (codes "ConnectionCreated") then Some names.ConnectionCreated
    else if bytes_eq word (codes "ConnectionReady") then Some names.ConnectionReady
    else if bytes_eq word (codes "ConnectionClosed") then Some names.ConnectionClosed
    else if bytes_eq word (codes "ConnectionCheckOutStarted") then Some names.CheckOutStarted
    else if bytes_eq word (codes "ConnectionCheckOutFailed") then Some names.CheckOutFailed
    else if bytes_eq word (codes "ConnectionCheckedOut") then Some names.CheckedOut
    else if bytes_eq word (codes "ConnectionCheckedIn") then Some names.CheckedIn
    else None

-- the event of this name
unfoldable pub event_named : List ℕ → Option EventName
event_named word = option_or (connection_event word) (pool_event word)

-- why a connection was closed, of the words of the standard; some drivers say connectionError for error
unfoldable pub close_reason : List ℕ → Option CloseReason
close_reason word =
    if bytes_eq word (codes "idle") then Some closes.Idle
    else if bytes_eq word (codes "stale") then Some closes.Stale
    else if bytes_eq word (codes "error") || bytes_eq word (codes "connectionError") then Some closes.Error
    else if bytes_eq word (codes "poolClosed") then Some closes.PoolClosed
    else None

-- why a check-out failed, of the words of the standard
unfoldable pub fail_reason : List ℕ → Option FailReason
fail_reason word =
    if bytes_eq word (codes "timeout") then Some fails.Timeout
    else if bytes_eq word (codes "connectionError") then Some fails.ConnectionError
    else if bytes_eq word (codes "poolClosed") then Some fails.PoolClosed
    else None
