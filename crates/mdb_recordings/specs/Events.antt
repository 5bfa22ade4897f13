-- What one event tells.
use Rattle.std.specs.Prelude.{ℕ, Bool, true, false, not, ◌==◌, Option, Some, None}
use Rattle.mdb_recordings.specs.declared.event.Told.{Told}
use Rattle.mdb_recordings.specs.declared.event.Told.TheVariants.{PoolCreated, PoolReady, PoolCleared, PoolClosed, ConnectionCreated, ConnectionReady, ConnectionClosed, CheckOutStarted, CheckOutFailed, CheckedOut, CheckedIn}
use Rattle.mdb_recordings.specs.declared.event.CloseReason.{CloseReason}
use Rattle.mdb_recordings.specs.declared.event.CloseReason.TheVariants.{Error, Stale}
use Rattle.mdb_recordings.specs.declared.event.CloseReason.TheVariants as reasons

-- of the pool

-- the pool was created
abbrev pub begins : Told → Bool
begins (PoolCreated limits) = true
begins _ = false

-- the pool turned ready
abbrev pub turns_ready : Told → Bool
turns_ready PoolReady = true
turns_ready _ = false

-- all connections were cleared, by which the pool is paused
abbrev pub clears : Told → Bool
clears (PoolCleared all) = all
clears _ = false

-- the pool is ready no more
abbrev pub pauses : Told → Bool
pauses PoolClosed = true
pauses (PoolCleared all) = all
pauses _ = false

-- the pool is created, or is ready no more
abbrev pub stops : Told → Bool
stops (PoolCreated limits) = true
stops PoolClosed = true
stops (PoolCleared all) = all
stops _ = false

abbrev pub closes_pool : Told → Bool
closes_pool PoolClosed = true
closes_pool _ = false

-- of a connection

abbrev pub creates_one : Told → Bool
creates_one (ConnectionCreated j) = true
creates_one _ = false

abbrev pub creates : ℕ → Told → Bool
creates i (ConnectionCreated j) = j == i
creates i _ = false

abbrev pub readies_one : Told → Bool
readies_one (ConnectionReady j) = true
readies_one _ = false

abbrev pub readies : ℕ → Told → Bool
readies i (ConnectionReady j) = j == i
readies i _ = false

abbrev pub closes_one : Told → Bool
closes_one (ConnectionClosed j reason) = true
closes_one _ = false

abbrev pub closes : ℕ → Told → Bool
closes i (ConnectionClosed j reason) = j == i
closes i _ = false

abbrev pub checks_out_one : Told → Bool
checks_out_one (CheckedOut j) = true
checks_out_one _ = false

abbrev pub checks_out : ℕ → Told → Bool
checks_out i (CheckedOut j) = j == i
checks_out i _ = false

abbrev pub checks_in_one : Told → Bool
checks_in_one (CheckedIn j) = true
checks_in_one _ = false

abbrev pub checks_in : ℕ → Told → Bool
checks_in i (CheckedIn j) = j == i
checks_in i _ = false

abbrev pub is_error : CloseReason → Bool
is_error Error = true
is_error _ = false

abbrev pub is_stale : CloseReason → Bool
is_stale Stale = true
is_stale _ = false

abbrev pub is_end : CloseReason → Bool
is_end reasons.PoolClosed = true
is_end _ = false

-- a connection was closed for an error
abbrev pub breaks_one : Told → Bool
breaks_one (ConnectionClosed j reason) = is_error reason
breaks_one _ = false

-- a check-out was started
abbrev pub starts_one : Told → Bool
starts_one CheckOutStarted = true
starts_one _ = false

-- connections to one service behind a load balancer were cleared
abbrev pub clears_service : Told → Bool
clears_service (PoolCleared all) = not all
clears_service _ = false

-- a connection was closed as stale
abbrev pub closes_stale : Told → Bool
closes_stale (ConnectionClosed j reason) = is_stale reason
closes_stale _ = false

-- a connection was closed for another reason than the end of its pool
abbrev pub closes_in_open : Told → Bool
closes_in_open (ConnectionClosed j reason) = not (is_end reason)
closes_in_open _ = false

-- a check-out ends: it gets a connection, or fails
abbrev pub ends_check_out : Told → Bool
ends_check_out (CheckedOut j) = true
ends_check_out (CheckOutFailed reason) = true
ends_check_out _ = false

-- a check-out is served: it gets a connection, or one is created for it
abbrev pub serves : Told → Bool
serves (CheckedOut j) = true
serves (ConnectionCreated j) = true
serves _ = false

-- the wait of a check-out ends: it is served, or fails
abbrev pub ends_wait : Told → Bool
ends_wait (CheckedOut j) = true
ends_wait (ConnectionCreated j) = true
ends_wait (CheckOutFailed reason) = true
ends_wait _ = false

-- a check-out failed
abbrev pub fails_one : Told → Bool
fails_one (CheckOutFailed reason) = true
fails_one _ = false

-- the connection is nobody's from now on: it is put back, or just created
abbrev pub frees : ℕ → Told → Bool
frees i (ConnectionCreated j) = j == i
frees i (CheckedIn j) = j == i
frees i _ = false

-- somebody has the connection from now on, or it is nobody's
abbrev pub moves : ℕ → Told → Bool
moves i (ConnectionCreated j) = j == i
moves i (CheckedOut j) = j == i
moves i (CheckedIn j) = j == i
moves i _ = false

-- the connection lies in the pool from now on
abbrev pub rests : ℕ → Told → Bool
rests i (ConnectionReady j) = j == i
rests i (CheckedIn j) = j == i
rests i _ = false

-- the connection that it names
abbrev pub id_of : Told → Option ℕ
id_of (ConnectionCreated i) = Some i
id_of (ConnectionReady i) = Some i
id_of (ConnectionClosed i reason) = Some i
id_of (CheckedOut i) = Some i
id_of (CheckedIn i) = Some i
id_of _ = None

-- uses of a connection, which has to be created before
abbrev pub uses_one : Told → Bool
uses_one (ConnectionReady i) = true
uses_one (ConnectionClosed i reason) = true
uses_one (CheckedOut i) = true
uses_one (CheckedIn i) = true
uses_one _ = false

-- what no closed connection does
abbrev pub goes_on : Told → Bool
goes_on (ConnectionReady i) = true
goes_on (CheckedOut i) = true
goes_on (CheckedIn i) = true
goes_on _ = false

-- what no closed pool does
abbrev pub needs_pool : Told → Bool
needs_pool PoolReady = true
needs_pool (PoolCleared all) = true
needs_pool PoolClosed = true
needs_pool (ConnectionCreated i) = true
needs_pool _ = false
