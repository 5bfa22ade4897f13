-- Which events of pools a text spells: the address keeps the rules of addresses, and each number is one of its type.
use Rattle.std.specs.Prelude.{◌<◌, ◌^◌, IfSome, Bool}
use Rattle.mdb_base.specs.AddressRule.{is_address}
use Rattle.mdb_base.specs.declared.address.ServerAddress.{ServerAddress}
use Rattle.mdb_events.specs.declared.cmap.ConnectionPoolOptions.{ConnectionPoolOptions}
use Rattle.mdb_events.specs.declared.cmap.CmapEvent.{CmapEvent}
use Rattle.mdb_events.specs.declared.cmap.CmapEvent.TheVariants as event
use Rattle.mdb_parts.specs.Types.{IsIdOfTypes}

abbrev pub event_address : CmapEvent → ServerAddress
event_address (event.PoolCreated e) = e.address
event_address (event.PoolReady e) = e.address
event_address (event.PoolCleared e) = e.address
event_address (event.PoolClosed e) = e.address
event_address (event.ConnectionCreated e) = e.address
event_address (event.ConnectionReady e) = e.address
event_address (event.ConnectionClosed e) = e.address
event_address (event.ConnectionCheckoutStarted e) = e.address
event_address (event.ConnectionCheckoutFailed e) = e.address
event_address (event.ConnectionCheckedOut e) = e.address
event_address (event.ConnectionCheckedIn e) = e.address

abbrev pub is_event : CmapEvent → Bool
is_event e = is_address (event_address e)

pub record AreSizesOfTypes (o : ConnectionPoolOptions) : Type 0 where
  pub max : IfSome o.max_pool_size (λ n. n < 2 ^ 32)
  pub min : IfSome o.min_pool_size (λ n. n < 2 ^ 32)
  pub idle : IfSome o.max_idle_time (λ n. n < 2 ^ 64)

abbrev pub IsEventOfTypes : CmapEvent → Type 0
IsEventOfTypes (event.PoolCreated e) = IfSome e.options AreSizesOfTypes
IsEventOfTypes (event.PoolReady e) = Unit {0}
IsEventOfTypes (event.PoolCleared e) = IfSome e.service_id IsIdOfTypes
IsEventOfTypes (event.PoolClosed e) = Unit {0}
IsEventOfTypes (event.ConnectionCreated e) = e.connection_id < 2 ^ 32
IsEventOfTypes (event.ConnectionReady e) = (e.connection_id < 2 ^ 32) × (e.duration < 2 ^ 64)
IsEventOfTypes (event.ConnectionClosed e) = (e.connection_id < 2 ^ 32) × IfSome e.service_id IsIdOfTypes
IsEventOfTypes (event.ConnectionCheckoutStarted e) = Unit {0}
IsEventOfTypes (event.ConnectionCheckoutFailed e) = e.duration < 2 ^ 64
IsEventOfTypes (event.ConnectionCheckedOut e) = (e.connection_id < 2 ^ 32) × (e.duration < 2 ^ 64)
IsEventOfTypes (event.ConnectionCheckedIn e) = e.connection_id < 2 ^ 32
