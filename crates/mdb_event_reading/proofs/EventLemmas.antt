-- The text of an event is read as that event.
use Rattle.std.proofs.Common.{◌≡◌, true, Result, refl}
use Rattle.mdb_base.specs.AddressReading.{until, beyond}
use Rattle.mdb_events.specs.EventText.{event_text}
use Rattle.mdb_events.specs.declared.cmap.CmapEvent.{CmapEvent}
use Rattle.mdb_events.specs.declared.cmap.CmapEvent.TheVariants as event
use Rattle.mdb_parts.specs.declared.line_error.LineError.{LineError}
use Rattle.mdb_parts.specs.Reading.{Gives}
use Rattle.mdb_event_reading.specs.EventTypes.{is_event, IsEventOfTypes}
use Rattle.mdb_event_reading.specs.EventForms.{event_kind, pool_kind, connection_kind, ReadsNamed}

pub event_read : (e : CmapEvent) (r : Result CmapEvent LineError) → IsEventOfTypes e → is_event e ≡ true → ReadsNamed (event_text e) r → Gives e r
unfolding until beyond event_kind pool_kind connection_kind
event_read (event.PoolCreated e) r types rules reads = reads e.address e.options rules types refl
event_read (event.PoolReady e) r types rules reads = reads e.address rules refl
event_read (event.PoolCleared e) r types rules reads = reads e.address e.service_id e.interrupt_in_use_connections rules types refl
event_read (event.PoolClosed e) r types rules reads = reads e.address rules refl
event_read (event.ConnectionCreated e) r types rules reads = reads e.address e.connection_id rules types refl
event_read (event.ConnectionReady e) r types rules reads = reads e.address e.connection_id e.duration rules types.0 types.1 refl
event_read (event.ConnectionClosed e) r types rules reads = reads e.address e.connection_id e.reason e.service_id rules types.0 types.1 refl
event_read (event.ConnectionCheckoutStarted e) r types rules reads = reads e.address rules refl
event_read (event.ConnectionCheckoutFailed e) r types rules reads = reads e.address e.reason e.duration rules types refl
event_read (event.ConnectionCheckedOut e) r types rules reads = reads e.address e.connection_id e.duration rules types.0 types.1 refl
event_read (event.ConnectionCheckedIn e) r types rules reads = reads e.address e.connection_id rules types refl
