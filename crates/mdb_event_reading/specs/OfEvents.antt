-- What the text of an event shows.
use Rattle.std.specs.Prelude.{length}
use Rattle.mdb_events.specs.declared.sdam.SdamEvent.{SdamEvent}
use Rattle.mdb_events.specs.declared.sdam.SdamEvent.TheVariants.{ServerDescriptionChanged, ServerOpening, ServerClosed, TopologyDescriptionChanged, TopologyOpening, TopologyClosed, ServerHeartbeatStarted, ServerHeartbeatSucceeded, ServerHeartbeatFailed}
use Rattle.mdb_event_reading.specs.declared.shown_sdam.ShownSdam.{ShownSdam}
use Rattle.mdb_event_reading.specs.declared.shown_sdam.ShownSdam.TheVariants as shown

-- of descriptions the types, and how many servers there are
abbrev pub shown_of_sdam : SdamEvent → ShownSdam
shown_of_sdam (ServerDescriptionChanged e) = shown.ServerChanged e.address e.previous_description.server_type e.new_description.server_type
shown_of_sdam (ServerOpening e) = shown.ServerOpening e.address
shown_of_sdam (ServerClosed e) = shown.ServerClosed e.address
shown_of_sdam (TopologyDescriptionChanged e) =
    shown.TopologyChanged e.previous_description.topology_type (length e.previous_description.servers) e.new_description.topology_type (length e.new_description.servers)
shown_of_sdam (TopologyOpening e) = shown.TopologyOpening
shown_of_sdam (TopologyClosed e) = shown.TopologyClosed
shown_of_sdam (ServerHeartbeatStarted e) =
    shown.Started (record { address = e.server_address; awaited = e.awaited; driver = e.driver_connection_id; server = e.server_connection_id })
shown_of_sdam (ServerHeartbeatSucceeded e) =
    shown.Succeeded (record { address = e.server_address; awaited = e.awaited; driver = e.driver_connection_id; server = e.server_connection_id }) e.duration
shown_of_sdam (ServerHeartbeatFailed e) =
    shown.Failed (record { address = e.server_address; awaited = e.awaited; driver = e.driver_connection_id; server = e.server_connection_id }) e.duration e.failure
