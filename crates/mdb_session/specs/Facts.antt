-- A fact as numbers.
use Rattle.std.specs.Prelude.{◌≡◌, ℕ, nat_le, Bool, true, false, List, [], ◌∷◌, ◌++◌, length, drop, map, replicate, slice_get, Option, Some, None, is_some, unwrap_or, option_and_then, if◌then◌else◌}
use Rattle.mdb_base.specs.Equality.{same_address}
use Rattle.mdb_base.specs.declared.address.ServerAddress.{ServerAddress}
use Rattle.mdb_base.specs.declared.object_id.ObjectId.{ObjectId}
use Rattle.mdb_events.specs.declared.cmap.CmapEvent.{CmapEvent}
use Rattle.mdb_events.specs.declared.cmap.CmapEvent.TheVariants as cmap
use Rattle.mdb_events.specs.declared.fact.Fact.{Fact}
use Rattle.mdb_events.specs.declared.fact.Fact.TheVariants as fact
use Rattle.mdb_events.specs.declared.reasons.ConnectionClosedReason.{ConnectionClosedReason}
use Rattle.mdb_events.specs.declared.reasons.ConnectionClosedReason.TheVariants as closed
use Rattle.mdb_events.specs.declared.reasons.ConnectionCheckoutFailedReason.{ConnectionCheckoutFailedReason}
use Rattle.mdb_events.specs.declared.reasons.ConnectionCheckoutFailedReason.TheVariants as failed
use Rattle.mdb_events.specs.declared.sdam.SdamEvent.{SdamEvent}
use Rattle.mdb_events.specs.declared.sdam.SdamEvent.TheVariants as sdam
use Rattle.mdb_log.specs.declared.log.Entry.{Entry}
use Rattle.mdb_log.specs.History.{Item, history_of, open_pool}
use Rattle.mdb_session.specs.Numbers.{end_number}
use Rattle.mdb_session.specs.Sessions.{IsLast}
use Rattle.mdb_session.specs.declared.fact_numbers.FactNumbers.{FactNumbers}

abbrev pub closed_number : ConnectionClosedReason → ℕ
closed_number closed.Stale = 1
closed_number closed.Idle = 2
closed_number closed.Error = 3
closed_number closed.Dropped = 4
closed_number closed.PoolClosed = 5

abbrev pub failed_number : ConnectionCheckoutFailedReason → ℕ
failed_number failed.Timeout = 1
failed_number failed.ConnectionError = 2

abbrev pub flag_number : Bool → ℕ
flag_number true = 1
flag_number false = 0

-- the bytes of the service, and zeros where there is none
abbrev pub service_bytes : Option ObjectId → List ℕ
service_bytes None = replicate 12 0
service_bytes (Some service) = service.0

-- the numbers, and the service that the fact names
abbrev pub with_service : FactNumbers → Option ObjectId → FactNumbers
with_service told service = record told { service = service_bytes service; has_service = flag_number (is_some service) }

-- A fact that has these numbers, of the pool, if there is one, and of no service.
abbrev pub fact_told : ℕ → ℕ → Option ℕ → ℕ → ℕ → ℕ → ℕ → FactNumbers
fact_told kind event pool id party why number = record {
  kind = kind;
  event = event;
  pool = unwrap_or pool 0;
  id = id;
  party = party;
  why = why;
  number = number;
  service = service_bytes None;
  has_service = 0;
  has_pool = flag_number (is_some pool);
}

-- an event of a pool that has these numbers
abbrev pub pool_told : ℕ → ℕ → ℕ → ℕ → ℕ → FactNumbers
pool_told pool event id why number = fact_told 2 event (Some pool) id 0 why number

abbrev pub pool_numbers : ℕ → CmapEvent → FactNumbers
pool_numbers p (cmap.PoolCreated e) = pool_told p 1 0 0 0
pool_numbers p (cmap.PoolReady e) = pool_told p 2 0 0 0
pool_numbers p (cmap.PoolCleared e) = with_service (pool_told p 3 0 0 (flag_number e.interrupt_in_use_connections)) e.service_id
pool_numbers p (cmap.PoolClosed e) = pool_told p 4 0 0 0
pool_numbers p (cmap.ConnectionCreated e) = pool_told p 5 e.connection_id 0 0
pool_numbers p (cmap.ConnectionReady e) = pool_told p 6 e.connection_id 0 e.duration
pool_numbers p (cmap.ConnectionClosed e) = with_service (pool_told p 7 e.connection_id (closed_number e.reason) 0) e.service_id
pool_numbers p (cmap.ConnectionCheckoutStarted e) = pool_told p 8 0 0 0
pool_numbers p (cmap.ConnectionCheckoutFailed e) = pool_told p 9 0 (failed_number e.reason) e.duration
pool_numbers p (cmap.ConnectionCheckedOut e) = pool_told p 10 e.connection_id 0 e.duration
pool_numbers p (cmap.ConnectionCheckedIn e) = pool_told p 11 e.connection_id 0 0

-- an event of the topology, or of the server of this number, that has these numbers
abbrev pub sdam_told : ℕ → Option ℕ → ℕ → Bool → ℕ → FactNumbers
sdam_told event server id awaited number = fact_told 6 event server id 0 (flag_number awaited) number

-- the address of the server that an event is of, if it is of one
abbrev pub sdam_address : SdamEvent → Option ServerAddress
sdam_address (sdam.ServerDescriptionChanged e) = Some e.address
sdam_address (sdam.ServerOpening e) = Some e.address
sdam_address (sdam.ServerClosed e) = Some e.address
sdam_address (sdam.TopologyDescriptionChanged e) = None
sdam_address (sdam.TopologyOpening e) = None
sdam_address (sdam.TopologyClosed e) = None
sdam_address (sdam.ServerHeartbeatStarted e) = Some e.server_address
sdam_address (sdam.ServerHeartbeatSucceeded e) = Some e.server_address
sdam_address (sdam.ServerHeartbeatFailed e) = Some e.server_address

abbrev pub sdam_numbers : Option ℕ → SdamEvent → FactNumbers
sdam_numbers server (sdam.ServerDescriptionChanged e) = sdam_told 32 server 0 false 0
sdam_numbers server (sdam.ServerOpening e) = sdam_told 33 server 0 false 0
sdam_numbers server (sdam.ServerClosed e) = sdam_told 34 server 0 false 0
sdam_numbers server (sdam.TopologyDescriptionChanged e) = sdam_told 35 server 0 false 0
sdam_numbers server (sdam.TopologyOpening e) = sdam_told 36 server 0 false 0
sdam_numbers server (sdam.TopologyClosed e) = sdam_told 37 server 0 false 0
sdam_numbers server (sdam.ServerHeartbeatStarted e) = sdam_told 38 server e.driver_connection_id e.awaited 0
sdam_numbers server (sdam.ServerHeartbeatSucceeded e) = sdam_told 39 server e.driver_connection_id e.awaited e.duration
sdam_numbers server (sdam.ServerHeartbeatFailed e) = sdam_told 40 server e.driver_connection_id e.awaited e.duration

-- a fact of this kind that is no event, of a pool, a connection and a party, with how a request ended
abbrev pub plain_told : ℕ → Option ℕ → ℕ → ℕ → ℕ → FactNumbers
plain_told kind pool id party why = fact_told kind 0 pool id party why 0

-- the numbers of a fact; `number` tells that of the server at an address
abbrev pub fact_numbers : (ServerAddress → Option ℕ) → Fact → FactNumbers
fact_numbers number (fact.Opened p a) = plain_told 1 (Some p) 0 0 0
fact_numbers number (fact.Pool p e) = pool_numbers p e
fact_numbers number (fact.Granted r p c) = plain_told 3 (Some p) c r 0
fact_numbers number (fact.Ended r e) = plain_told 4 None 0 r (end_number e)
fact_numbers number (fact.Raised p s e) = with_service (plain_told 5 (Some p) 0 0 0) s
fact_numbers number (fact.Sdam e) = sdam_numbers (option_and_then number (sdam_address e)) e
fact_numbers number (fact.CheckNow a) = plain_told 7 (number a) 0 0 0
fact_numbers number (fact.Cancel a) = plain_told 8 (number a) 0 0 0

-- the pool at the address that the fact closes, if it closes one
abbrev pub closed_by : Fact → ServerAddress → Option ℕ
closed_by (fact.Pool p (cmap.PoolClosed e)) a = if same_address e.address a then Some p else None
closed_by _ a = None

-- the first number, or the second where there is none
abbrev pub or_else : Option ℕ → Option ℕ → Option ℕ
or_else (Some p) second = Some p
or_else None second = second

-- the pool at the address that one of the facts closes
abbrev pub closed_at : List Fact → ServerAddress → Option ℕ
closed_at [] a = None
closed_at (fact ∷ facts) a = or_else (closed_by fact a) (closed_at facts a)

-- The number of a server is that of the pool at its address: the one that is open after the history, or that the facts at its end close.
abbrev pub server_number : List Item → List Fact → ServerAddress → Option ℕ
server_number h facts a = or_else (open_pool h a) (closed_at facts a)

-- the facts at the end of the history as numbers, in their order
abbrev pub told_facts : List Item → List Fact → List FactNumbers
told_facts h facts = map (fact_numbers (server_number h facts)) facts

-- These are the numbers of the facts of the last entry of the log, in their order.
abbrev pub AreLastFacts : List Entry → List FactNumbers → Type 0
AreLastFacts log told = (e : Entry) × IsLast log e × (told ≡ told_facts (history_of log) e.facts)

-- They are the numbers of the fact of this index, counted from 0, of the last entry of the log.
abbrev pub AreNumbersAt : List Entry → ℕ → FactNumbers → Type 0
AreNumbersAt log i told = (e : Entry) × (f : Fact) × IsLast log e × (slice_get e.facts i ≡ Some f) × (told ≡ fact_numbers (server_number (history_of log) e.facts) f)

-- The server at the address has this number after the log, if it has one.
abbrev pub IsServerNumber : List Entry → ServerAddress → Option ℕ → Type 0
IsServerNumber log a number = (e : Entry) × IsLast log e × (number ≡ server_number (history_of log) e.facts a)

-- what the room holds once the numbers were written to its beginning, where they fit there
abbrev pub filled : List FactNumbers → List FactNumbers → List FactNumbers
filled told room = if nat_le (length told) (length room) then told ++ drop (length told) room else room
