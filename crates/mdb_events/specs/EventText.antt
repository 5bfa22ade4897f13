-- The text of each event of a pool: its name, its address, and its values.
use Rattle.std.specs.Prelude.{ℕ, List, ◌++◌, decimal, codes, Option, Some, None}
use Rattle.mdb_base.specs.Spelling.{address}
use Rattle.mdb_events.specs.Words.{number_or_dash, service_or_dash, truth, closed_word, failed_word}
use Rattle.mdb_events.specs.declared.cmap.ConnectionPoolOptions.{ConnectionPoolOptions}
use Rattle.mdb_events.specs.declared.cmap.PoolCreatedEvent.{PoolCreatedEvent}
use Rattle.mdb_events.specs.declared.cmap.PoolReadyEvent.{PoolReadyEvent}
use Rattle.mdb_events.specs.declared.cmap.PoolClearedEvent.{PoolClearedEvent}
use Rattle.mdb_events.specs.declared.cmap.PoolClosedEvent.{PoolClosedEvent}
use Rattle.mdb_events.specs.declared.cmap.ConnectionCreatedEvent.{ConnectionCreatedEvent}
use Rattle.mdb_events.specs.declared.cmap.ConnectionReadyEvent.{ConnectionReadyEvent}
use Rattle.mdb_events.specs.declared.cmap.ConnectionClosedEvent.{ConnectionClosedEvent}
use Rattle.mdb_events.specs.declared.cmap.ConnectionCheckoutStartedEvent.{ConnectionCheckoutStartedEvent}
use Rattle.mdb_events.specs.declared.cmap.ConnectionCheckoutFailedEvent.{ConnectionCheckoutFailedEvent}
use Rattle.mdb_events.specs.declared.cmap.ConnectionCheckedOutEvent.{ConnectionCheckedOutEvent}
use Rattle.mdb_events.specs.declared.cmap.ConnectionCheckedInEvent.{ConnectionCheckedInEvent}
use Rattle.mdb_events.specs.declared.cmap.CmapEvent.{CmapEvent}
use Rattle.mdb_events.specs.declared.cmap.CmapEvent.TheVariants.{PoolCreated, PoolReady, PoolCleared, PoolClosed, ConnectionCreated, ConnectionReady, ConnectionClosed, ConnectionCheckoutStarted, ConnectionCheckoutFailed, ConnectionCheckedOut, ConnectionCheckedIn}

abbrev pub pool_options : ConnectionPoolOptions → List ℕ
pool_options o = codes "max=" ++ (number_or_dash o.max_pool_size ++ (codes " min=" ++ (number_or_dash o.min_pool_size ++ (codes " idle=" ++ number_or_dash o.max_idle_time))))

abbrev pub options_or_dash : Option ConnectionPoolOptions → List ℕ
options_or_dash None = codes "-"
options_or_dash (Some o) = pool_options o

abbrev pub pool_created : PoolCreatedEvent → List ℕ
pool_created e = codes "PoolCreated " ++ (address e.address ++ (codes " " ++ options_or_dash e.options))

abbrev pub pool_ready : PoolReadyEvent → List ℕ
pool_ready e = codes "PoolReady " ++ address e.address

abbrev pub pool_cleared : PoolClearedEvent → List ℕ
pool_cleared e = codes "PoolCleared " ++ (address e.address ++ (codes " service=" ++ (service_or_dash e.service_id ++ (codes " interrupt=" ++ truth e.interrupt_in_use_connections))))

abbrev pub pool_closed : PoolClosedEvent → List ℕ
pool_closed e = codes "PoolClosed " ++ address e.address

abbrev pub connection_created : ConnectionCreatedEvent → List ℕ
connection_created e = codes "ConnectionCreated " ++ (address e.address ++ (codes " " ++ decimal e.connection_id))

abbrev pub connection_ready : ConnectionReadyEvent → List ℕ
connection_ready e = codes "ConnectionReady " ++ (address e.address ++ (codes " " ++ (decimal e.connection_id ++ (codes " " ++ decimal e.duration))))

abbrev pub connection_closed : ConnectionClosedEvent → List ℕ
connection_closed e = codes "ConnectionClosed " ++ (address e.address ++ (codes " " ++ (decimal e.connection_id ++ (codes " " ++ (closed_word e.reason ++ (codes " service=" ++ service_or_dash e.service_id))))))

abbrev pub connection_checkout_started : ConnectionCheckoutStartedEvent → List ℕ
connection_checkout_started e = codes "ConnectionCheckoutStarted " ++ address e.address

abbrev pub connection_checkout_failed : ConnectionCheckoutFailedEvent → List ℕ
connection_checkout_failed e = codes "ConnectionCheckoutFailed " ++ (address e.address ++ (codes " " ++ (failed_word e.reason ++ (codes " " ++ decimal e.duration))))

abbrev pub connection_checked_out : ConnectionCheckedOutEvent → List ℕ
connection_checked_out e = codes "ConnectionCheckedOut " ++ (address e.address ++ (codes " " ++ (decimal e.connection_id ++ (codes " " ++ decimal e.duration))))

abbrev pub connection_checked_in : ConnectionCheckedInEvent → List ℕ
connection_checked_in e = codes "ConnectionCheckedIn " ++ (address e.address ++ (codes " " ++ decimal e.connection_id))

-- the text of an event of a pool
abbrev pub event_text : CmapEvent → List ℕ
event_text (PoolCreated e) = pool_created e
event_text (PoolReady e) = pool_ready e
event_text (PoolCleared e) = pool_cleared e
event_text (PoolClosed e) = pool_closed e
event_text (ConnectionCreated e) = connection_created e
event_text (ConnectionReady e) = connection_ready e
event_text (ConnectionClosed e) = connection_closed e
event_text (ConnectionCheckoutStarted e) = connection_checkout_started e
event_text (ConnectionCheckoutFailed e) = connection_checkout_failed e
event_text (ConnectionCheckedOut e) = connection_checked_out e
event_text (ConnectionCheckedIn e) = connection_checked_in e
