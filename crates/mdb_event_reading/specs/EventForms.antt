-- What reading gives for each event of a pool, from what stands behind its name.
use Rattle.std.specs.Prelude.{◌≡◌, ℕ, ◌<◌, ◌^◌, List, ◌++◌, codes, decimal, Option, Some, None, IfSome, Result, Bool, true, if◌then◌else◌, bytes_eq, MatchOption}
use Rattle.std.specs.Option.{option_or}
use Rattle.mdb_base.specs.AddressReading.{until, beyond}
use Rattle.mdb_base.specs.AddressRule.{is_address}
use Rattle.mdb_base.specs.Spelling.{address}
use Rattle.mdb_base.specs.declared.address.ServerAddress.{ServerAddress}
use Rattle.mdb_base.specs.declared.object_id.ObjectId.{ObjectId}
use Rattle.mdb_events.specs.EventText.{options_or_dash}
use Rattle.mdb_events.specs.Words.{service_or_dash, truth, closed_word, failed_word}
use Rattle.mdb_events.specs.declared.cmap.ConnectionPoolOptions.{ConnectionPoolOptions}
use Rattle.mdb_events.specs.declared.cmap.CmapEvent.{CmapEvent}
use Rattle.mdb_events.specs.declared.cmap.CmapEvent.TheVariants as event
use Rattle.mdb_events.specs.declared.reasons.ConnectionClosedReason.{ConnectionClosedReason}
use Rattle.mdb_events.specs.declared.reasons.ConnectionCheckoutFailedReason.{ConnectionCheckoutFailedReason}
use Rattle.mdb_event_reading.specs.declared.event_kind.EventKind.{EventKind}
use Rattle.mdb_event_reading.specs.declared.event_kind.EventKind.TheVariants as kind
use Rattle.mdb_event_reading.specs.EventTypes.{AreSizesOfTypes}
use Rattle.mdb_parts.specs.declared.line_error.LineError.{LineError}
use Rattle.mdb_parts.specs.Types.{IsIdOfTypes}
use Rattle.mdb_parts.specs.Reading.{Gives}

unfoldable pub pool_kind : List ℕ → Option EventKind
pool_kind word =
    if bytes_eq word (codes "PoolCreated") then Some kind.PoolCreated
    else if bytes_eq word (codes "PoolReady") then Some kind.PoolReady
    else if bytes_eq word (codes "PoolCleared") then Some kind.PoolCleared
    else if bytes_eq word (codes "PoolClosed") then Some kind.PoolClosed
    else None

unfoldable pub connection_kind : List ℕ → Option EventKind
connection_kind word =
    if bytes_eq word (codes "ConnectionCreated") then Some kind.ConnectionCreated
    else if bytes_eq word (codes "ConnectionReady") then Some kind.ConnectionReady
    else if bytes_eq word (codes "ConnectionClosed") then Some kind.ConnectionClosed
    else if bytes_eq word (codes "ConnectionCheckoutStarted") then Some kind.CheckoutStarted
    else if bytes_eq word (codes "ConnectionCheckoutFailed") then Some kind.CheckoutFailed
    else if bytes_eq word (codes "ConnectionCheckedOut") then Some kind.CheckedOut
    else if bytes_eq word (codes "ConnectionCheckedIn") then Some kind.CheckedIn
    else None

-- the event of this name
unfoldable pub event_kind : List ℕ → Option EventKind
event_kind word = option_or (pool_kind word) (connection_kind word)

-- an address alone
abbrev pub ReadsPlace : (ServerAddress → CmapEvent) → List ℕ → Result CmapEvent LineError → Type 0
ReadsPlace does text r = (a : ServerAddress) → is_address a ≡ true → text ≡ codes " " ++ address a → Gives (does a) r

-- an address and a connection
abbrev pub ReadsConnection : (ServerAddress → ℕ → CmapEvent) → List ℕ → Result CmapEvent LineError → Type 0
ReadsConnection does text r =
    (a : ServerAddress) (c : ℕ) → is_address a ≡ true → c < 2 ^ 32
    → text ≡ codes " " ++ (address a ++ (codes " " ++ decimal c)) → Gives (does a c) r

-- an address, a connection and milliseconds
abbrev pub ReadsTimed : (ServerAddress → ℕ → ℕ → CmapEvent) → List ℕ → Result CmapEvent LineError → Type 0
ReadsTimed does text r =
    (a : ServerAddress) (c m : ℕ) → is_address a ≡ true → c < 2 ^ 32 → m < 2 ^ 64
    → text ≡ codes " " ++ (address a ++ (codes " " ++ (decimal c ++ (codes " " ++ decimal m)))) → Gives (does a c m) r

abbrev pub ReadsCreated : List ℕ → Result CmapEvent LineError → Type 0
ReadsCreated text r =
    (a : ServerAddress) (sizes : Option ConnectionPoolOptions) → is_address a ≡ true → IfSome sizes AreSizesOfTypes
    → text ≡ codes " " ++ (address a ++ (codes " " ++ options_or_dash sizes))
    → Gives (event.PoolCreated (record { address = a; options = sizes })) r

abbrev pub ReadsReady : List ℕ → Result CmapEvent LineError → Type 0
ReadsReady = ReadsPlace (λ a. event.PoolReady (record { address = a }))

abbrev pub ReadsCleared : List ℕ → Result CmapEvent LineError → Type 0
ReadsCleared text r =
    (a : ServerAddress) (service : Option ObjectId) (interrupts : Bool) → is_address a ≡ true → IfSome service IsIdOfTypes
    → text ≡ codes " " ++ (address a ++ (codes " service=" ++ (service_or_dash service ++ (codes " interrupt=" ++ truth interrupts))))
    → Gives (event.PoolCleared (record { address = a; service_id = service; interrupt_in_use_connections = interrupts })) r

abbrev pub ReadsClosedPool : List ℕ → Result CmapEvent LineError → Type 0
ReadsClosedPool = ReadsPlace (λ a. event.PoolClosed (record { address = a }))

abbrev pub ReadsMade : List ℕ → Result CmapEvent LineError → Type 0
ReadsMade = ReadsConnection (λ a c. event.ConnectionCreated (record { address = a; connection_id = c }))

abbrev pub ReadsEstablished : List ℕ → Result CmapEvent LineError → Type 0
ReadsEstablished = ReadsTimed (λ a c m. event.ConnectionReady (record { address = a; connection_id = c; duration = m }))

abbrev pub ReadsClosed : List ℕ → Result CmapEvent LineError → Type 0
ReadsClosed text r =
    (a : ServerAddress) (c : ℕ) (reason : ConnectionClosedReason) (service : Option ObjectId) → is_address a ≡ true → c < 2 ^ 32 → IfSome service IsIdOfTypes
    → text ≡ codes " " ++ (address a ++ (codes " " ++ (decimal c ++ (codes " " ++ (closed_word reason ++ (codes " service=" ++ service_or_dash service))))))
    → Gives (event.ConnectionClosed (record { address = a; connection_id = c; reason = reason; service_id = service })) r

abbrev pub ReadsStarted : List ℕ → Result CmapEvent LineError → Type 0
ReadsStarted = ReadsPlace (λ a. event.ConnectionCheckoutStarted (record { address = a }))

abbrev pub ReadsFailed : List ℕ → Result CmapEvent LineError → Type 0
ReadsFailed text r =
    (a : ServerAddress) (reason : ConnectionCheckoutFailedReason) (m : ℕ) → is_address a ≡ true → m < 2 ^ 64
    → text ≡ codes " " ++ (address a ++ (codes " " ++ (failed_word reason ++ (codes " " ++ decimal m))))
    → Gives (event.ConnectionCheckoutFailed (record { address = a; reason = reason; duration = m })) r

abbrev pub ReadsCheckedOut : List ℕ → Result CmapEvent LineError → Type 0
ReadsCheckedOut = ReadsTimed (λ a c m. event.ConnectionCheckedOut (record { address = a; connection_id = c; duration = m }))

abbrev pub ReadsCheckedIn : List ℕ → Result CmapEvent LineError → Type 0
ReadsCheckedIn = ReadsConnection (λ a c. event.ConnectionCheckedIn (record { address = a; connection_id = c }))

abbrev pub ReadsEvent : EventKind → List ℕ → Result CmapEvent LineError → Type 0
ReadsEvent kind.PoolCreated text r = ReadsCreated text r
ReadsEvent kind.PoolReady text r = ReadsReady text r
ReadsEvent kind.PoolCleared text r = ReadsCleared text r
ReadsEvent kind.PoolClosed text r = ReadsClosedPool text r
ReadsEvent kind.ConnectionCreated text r = ReadsMade text r
ReadsEvent kind.ConnectionReady text r = ReadsEstablished text r
ReadsEvent kind.ConnectionClosed text r = ReadsClosed text r
ReadsEvent kind.CheckoutStarted text r = ReadsStarted text r
ReadsEvent kind.CheckoutFailed text r = ReadsFailed text r
ReadsEvent kind.CheckedOut text r = ReadsCheckedOut text r
ReadsEvent kind.CheckedIn text r = ReadsCheckedIn text r

-- An event is read by its name. One of no name gives nothing.
abbrev pub ReadsNamed : List ℕ → Result CmapEvent LineError → Type 0
ReadsNamed text r = MatchOption (event_kind (until 32 text)) (Unit {0}) (λ kind. ReadsEvent kind (beyond 32 text) r)
