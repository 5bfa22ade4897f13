-- What a fact names: an address, and the types before and after a change.
use Rattle.std.specs.Prelude.{ℕ, List, slice_get, Option, Some, None, option_map, option_and_then}
use Rattle.mdb_base.specs.Spelling.{address}
use Rattle.mdb_base.specs.declared.address.ServerAddress.{ServerAddress}
use Rattle.mdb_events.specs.declared.cmap.CmapEvent.{CmapEvent}
use Rattle.mdb_events.specs.declared.cmap.CmapEvent.TheVariants as cmap
use Rattle.mdb_events.specs.declared.fact.Fact.{Fact}
use Rattle.mdb_events.specs.declared.fact.Fact.TheVariants as fact
use Rattle.mdb_events.specs.declared.sdam.SdamEvent.{SdamEvent}
use Rattle.mdb_events.specs.declared.sdam.SdamEvent.TheVariants as sdam
use Rattle.mdb_session.specs.Facts.{sdam_address}
use Rattle.mdb_c.specs.Types.{server_type_number, topology_type_number}
use Rattle.mdb_c.specs.declared.fact_parts.TypesNumbers.{TypesNumbers}

abbrev pub pool_address : CmapEvent → ServerAddress
pool_address (cmap.PoolCreated e) = e.address
pool_address (cmap.PoolReady e) = e.address
pool_address (cmap.PoolCleared e) = e.address
pool_address (cmap.PoolClosed e) = e.address
pool_address (cmap.ConnectionCreated e) = e.address
pool_address (cmap.ConnectionReady e) = e.address
pool_address (cmap.ConnectionClosed e) = e.address
pool_address (cmap.ConnectionCheckoutStarted e) = e.address
pool_address (cmap.ConnectionCheckoutFailed e) = e.address
pool_address (cmap.ConnectionCheckedOut e) = e.address
pool_address (cmap.ConnectionCheckedIn e) = e.address

-- the address that a fact names, if it names one
abbrev pub fact_address : Fact → Option ServerAddress
fact_address (fact.Opened p a) = Some a
fact_address (fact.Pool p e) = Some (pool_address e)
fact_address (fact.Granted r p c) = None
fact_address (fact.Ended r e) = None
fact_address (fact.Raised p s e) = None
fact_address (fact.Sdam e) = sdam_address e
fact_address (fact.CheckNow a) = Some a
fact_address (fact.Cancel a) = Some a

abbrev pub sdam_types : SdamEvent → Option TypesNumbers
sdam_types (sdam.ServerDescriptionChanged e) = Some (record { before = server_type_number e.previous_description.server_type; after = server_type_number e.new_description.server_type })
sdam_types (sdam.TopologyDescriptionChanged e) = Some (record { before = topology_type_number e.previous_description.topology_type; after = topology_type_number e.new_description.topology_type })
sdam_types _ = None

-- the types before and after the change of a server or of the topology that a fact tells of, if it tells of one
abbrev pub fact_types : Fact → Option TypesNumbers
fact_types (fact.Sdam e) = sdam_types e
fact_types _ = None

-- the text of the address that the fact of this number names, counted from 0
abbrev pub address_at : List Fact → ℕ → Option (List ℕ)
address_at facts i = option_map address (option_and_then fact_address (slice_get facts i))

-- the types before and after the change that the fact of this number tells of
abbrev pub types_at : List Fact → ℕ → Option TypesNumbers
types_at facts i = option_and_then fact_types (slice_get facts i)
