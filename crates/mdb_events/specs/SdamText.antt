-- The text of each event of a server or a topology: its name, and its values.
use Rattle.std.specs.Prelude.{ℕ, List, ◌++◌, decimal, codes, length}
use Rattle.mdb_base.specs.Spelling.{address}
use Rattle.mdb_base.specs.ErrorText.{error_text}
use Rattle.mdb_srv.specs.Polling.{topology_name}
use Rattle.mdb_describe.specs.InfoText.{type_name}
use Rattle.mdb_events.specs.Words.{signed_or_dash, truth}
use Rattle.mdb_events.specs.declared.sdam.ServerDescriptionChangedEvent.{ServerDescriptionChangedEvent}
use Rattle.mdb_events.specs.declared.sdam.ServerOpeningEvent.{ServerOpeningEvent}
use Rattle.mdb_events.specs.declared.sdam.ServerClosedEvent.{ServerClosedEvent}
use Rattle.mdb_events.specs.declared.sdam.TopologyDescriptionChangedEvent.{TopologyDescriptionChangedEvent}
use Rattle.mdb_events.specs.declared.sdam.TopologyOpeningEvent.{TopologyOpeningEvent}
use Rattle.mdb_events.specs.declared.sdam.TopologyClosedEvent.{TopologyClosedEvent}
use Rattle.mdb_events.specs.declared.sdam.ServerHeartbeatStartedEvent.{ServerHeartbeatStartedEvent}
use Rattle.mdb_events.specs.declared.sdam.ServerHeartbeatSucceededEvent.{ServerHeartbeatSucceededEvent}
use Rattle.mdb_events.specs.declared.sdam.ServerHeartbeatFailedEvent.{ServerHeartbeatFailedEvent}
use Rattle.mdb_events.specs.declared.sdam.SdamEvent.{SdamEvent}
use Rattle.mdb_events.specs.declared.sdam.SdamEvent.TheVariants.{ServerDescriptionChanged, ServerOpening, ServerClosed, TopologyDescriptionChanged, TopologyOpening, TopologyClosed, ServerHeartbeatStarted, ServerHeartbeatSucceeded, ServerHeartbeatFailed}

abbrev pub server_description_changed : ServerDescriptionChangedEvent → List ℕ
server_description_changed e = codes "ServerDescriptionChanged " ++ (address e.address ++ (codes " " ++ (type_name e.previous_description.server_type ++ (codes " " ++ type_name e.new_description.server_type))))

abbrev pub server_opening : ServerOpeningEvent → List ℕ
server_opening e = codes "ServerOpening " ++ address e.address

abbrev pub server_closed : ServerClosedEvent → List ℕ
server_closed e = codes "ServerClosed " ++ address e.address

-- a topology's type, and how many servers it has
abbrev pub topology_description_changed : TopologyDescriptionChangedEvent → List ℕ
topology_description_changed e = codes "TopologyDescriptionChanged " ++ (topology_name e.previous_description.topology_type ++ (codes "/" ++ (decimal (length e.previous_description.servers) ++ (codes " " ++ (topology_name e.new_description.topology_type ++ (codes "/" ++ decimal (length e.new_description.servers)))))))

abbrev pub topology_opening : TopologyOpeningEvent → List ℕ
topology_opening e = codes "TopologyOpening"

abbrev pub topology_closed : TopologyClosedEvent → List ℕ
topology_closed e = codes "TopologyClosed"

abbrev pub heartbeat_started : ServerHeartbeatStartedEvent → List ℕ
heartbeat_started e = codes "ServerHeartbeatStarted " ++ (address e.server_address ++ (codes " awaited=" ++ (truth e.awaited ++ (codes " driver=" ++ (decimal e.driver_connection_id ++ (codes " server=" ++ signed_or_dash e.server_connection_id))))))

abbrev pub heartbeat_succeeded : ServerHeartbeatSucceededEvent → List ℕ
heartbeat_succeeded e = codes "ServerHeartbeatSucceeded " ++ (address e.server_address ++ (codes " awaited=" ++ (truth e.awaited ++ (codes " driver=" ++ (decimal e.driver_connection_id ++ (codes " server=" ++ (signed_or_dash e.server_connection_id ++ (codes " duration=" ++ decimal e.duration))))))))

abbrev pub heartbeat_failed : ServerHeartbeatFailedEvent → List ℕ
heartbeat_failed e = codes "ServerHeartbeatFailed " ++ (address e.server_address ++ (codes " awaited=" ++ (truth e.awaited ++ (codes " driver=" ++ (decimal e.driver_connection_id ++ (codes " server=" ++ (signed_or_dash e.server_connection_id ++ (codes " duration=" ++ (decimal e.duration ++ (codes " " ++ error_text e.failure))))))))))

-- the text of an event of a server or a topology
abbrev pub sdam_text : SdamEvent → List ℕ
sdam_text (ServerDescriptionChanged e) = server_description_changed e
sdam_text (ServerOpening e) = server_opening e
sdam_text (ServerClosed e) = server_closed e
sdam_text (TopologyDescriptionChanged e) = topology_description_changed e
sdam_text (TopologyOpening e) = topology_opening e
sdam_text (TopologyClosed e) = topology_closed e
sdam_text (ServerHeartbeatStarted e) = heartbeat_started e
sdam_text (ServerHeartbeatSucceeded e) = heartbeat_succeeded e
sdam_text (ServerHeartbeatFailed e) = heartbeat_failed e
