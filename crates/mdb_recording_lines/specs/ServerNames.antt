-- The words of a recording that tell of servers and of the topology.
use Rattle.std.specs.Prelude.{List, ℕ, codes, Option, Some, None, ◌||◌, if◌then◌else◌}
use Rattle.std.specs.Str.{bytes_eq}
use Rattle.mdb_recording_servers.specs.declared.event.ServerKind.{ServerKind}
use Rattle.mdb_recording_servers.specs.declared.event.ServerKind.TheVariants as kinds
use Rattle.mdb_recording_servers.specs.declared.event.ServerTold.{ServerTold}
use Rattle.mdb_recording_servers.specs.declared.event.ServerTold.TheVariants.{CheckStarted, CheckEnded}
use Rattle.mdb_recording_servers.specs.declared.event.ServerEvent.{ServerEvent}
use Rattle.mdb_recording_servers.specs.declared.event.ServerEvent.TheVariants.{TopologyOpened, TopologyChanged, TopologyClosed}

unfoldable pub other_kind_named : List ℕ → Option ServerKind
other_kind_named word =
    if bytes_eq word (codes "RSArbiter") then Some kinds.Arbiter
    else if bytes_eq word (codes "RSOther") then Some kinds.Other
    else if bytes_eq word (codes "RSGhost") then Some kinds.Ghost
    else if bytes_eq word (codes "PossiblePrimary") then Some kinds.PossiblePrimary
    else if bytes_eq word (codes "LoadBalancer") then Some kinds.LoadBalancer
    else None

-- the kind of server with this name; none for other words
unfoldable pub kind_named : List ℕ → Option ServerKind
kind_named word =
    if bytes_eq word (codes "Unknown") then Some kinds.Unknown
    else if bytes_eq word (codes "RSPrimary") then Some kinds.Primary
    else if bytes_eq word (codes "RSSecondary") then Some kinds.Secondary
    else if bytes_eq word (codes "Standalone") then Some kinds.Standalone
    else if bytes_eq word (codes "Mongos") then Some kinds.Mongos
    else other_kind_named word

-- the event of the topology with this name
unfoldable pub topology_named : List ℕ → Option ServerEvent
topology_named word =
    if bytes_eq word (codes "TopologyDescriptionChanged") then Some TopologyChanged
    else if bytes_eq word (codes "TopologyOpening") then Some TopologyOpened
    else if bytes_eq word (codes "TopologyClosed") then Some TopologyClosed
    else None

-- what an event of this name tells of a check
unfoldable pub check_named : List ℕ → Option ServerTold
check_named word =
    if bytes_eq word (codes "ServerHeartbeatStarted") then Some CheckStarted
    else if bytes_eq word (codes "ServerHeartbeatSucceeded") || bytes_eq word (codes "ServerHeartbeatFailed") then Some CheckEnded
    else None
