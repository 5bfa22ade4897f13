-- What one event tells of a server, or of the topology.
use Rattle.std.specs.Prelude.{ℕ, Bool, true, false, ◌==◌, Option, Some, None}
use Rattle.mdb_recording_servers.specs.declared.event.ServerKind.{ServerKind}
use Rattle.mdb_recording_servers.specs.declared.event.ServerKind.TheVariants as kinds
use Rattle.mdb_recording_servers.specs.declared.event.ServerTold.TheVariants.{Opened, Closed, Changed, CheckStarted, CheckEnded}
use Rattle.mdb_recording_servers.specs.declared.event.ServerEvent.{ServerEvent}
use Rattle.mdb_recording_servers.specs.declared.event.ServerEvent.TheVariants.{Server, TopologyOpened, TopologyChanged, TopologyClosed}

-- the kinds are told apart by numbers
abbrev pub kind_number : ServerKind → ℕ
kind_number kinds.Unknown = 0
kind_number kinds.Standalone = 1
kind_number kinds.Mongos = 2
kind_number kinds.PossiblePrimary = 3
kind_number kinds.Primary = 4
kind_number kinds.Secondary = 5
kind_number kinds.Arbiter = 6
kind_number kinds.Other = 7
kind_number kinds.Ghost = 8
kind_number kinds.LoadBalancer = 9

-- the server that it names
abbrev pub server_of_event : ServerEvent → Option ℕ
server_of_event (Server s told) = Some s
server_of_event _ = None

-- of any server

abbrev pub opens_one : ServerEvent → Bool
opens_one (Server s Opened) = true
opens_one _ = false

-- a server is closed, or changes
abbrev pub uses_one : ServerEvent → Bool
uses_one (Server s Closed) = true
uses_one (Server s (Changed from to)) = true
uses_one _ = false

-- a check of a server begins
abbrev pub starts_check_one : ServerEvent → Bool
starts_check_one (Server s CheckStarted) = true
starts_check_one _ = false

abbrev pub ends_check_one : ServerEvent → Bool
ends_check_one (Server s CheckEnded) = true
ends_check_one _ = false

-- the kind from which it says that its server changed
abbrev pub from_told : ServerEvent → Option ServerKind
from_told (Server s (Changed from to)) = from
from_told _ = None

-- of one server

abbrev pub opens : ℕ → ServerEvent → Bool
opens s (Server p Opened) = p == s
opens s _ = false

abbrev pub closes : ℕ → ServerEvent → Bool
closes s (Server p Closed) = p == s
closes s _ = false

-- it tells what the server is
abbrev pub tells_kind : ℕ → ServerEvent → Bool
tells_kind s (Server p Opened) = p == s
tells_kind s (Server p Closed) = p == s
tells_kind s (Server p (Changed from to)) = p == s
tells_kind s _ = false

-- what its server is from now on: nothing is known of one that was just opened, and nothing is told of a closed one
abbrev pub kind_told : ServerEvent → Option ServerKind
kind_told (Server p Opened) = Some kinds.Unknown
kind_told (Server p (Changed from to)) = to
kind_told _ = None

abbrev pub starts_check : ℕ → ServerEvent → Bool
starts_check s (Server p CheckStarted) = p == s
starts_check s _ = false

abbrev pub ends_check : ℕ → ServerEvent → Bool
ends_check s (Server p CheckEnded) = p == s
ends_check s _ = false

-- a check of the server ends, or it is opened, from where on no check of it runs
abbrev pub stops_checks : ℕ → ServerEvent → Bool
stops_checks s (Server p CheckEnded) = p == s
stops_checks s (Server p Opened) = p == s
stops_checks s _ = false

-- of the topology

abbrev pub opens_topology : ServerEvent → Bool
opens_topology TopologyOpened = true
opens_topology _ = false

abbrev pub closes_topology : ServerEvent → Bool
closes_topology TopologyClosed = true
closes_topology _ = false

abbrev pub changes_topology : ServerEvent → Bool
changes_topology TopologyChanged = true
changes_topology _ = false

-- a cause for which the topology may change: it is opened, or a server is opened, closed or changed
abbrev pub causes_change : ServerEvent → Bool
causes_change TopologyOpened = true
causes_change (Server s Opened) = true
causes_change (Server s Closed) = true
causes_change (Server s (Changed from to)) = true
causes_change _ = false

-- a server is opened or closed
abbrev pub comes_or_goes : ServerEvent → Bool
comes_or_goes (Server s Opened) = true
comes_or_goes (Server s Closed) = true
comes_or_goes _ = false

-- the topology changes once more, or ends
abbrev pub ends_change : ServerEvent → Bool
ends_change TopologyChanged = true
ends_change TopologyClosed = true
ends_change _ = false

-- what a closed topology does not do: a server is opened, closed or changed, or it is changed or closed itself
abbrev pub needs_topology : ServerEvent → Bool
needs_topology (Server s Opened) = true
needs_topology (Server s Closed) = true
needs_topology (Server s (Changed from to)) = true
needs_topology TopologyChanged = true
needs_topology TopologyClosed = true
needs_topology _ = false

-- the topology is opened, or something is told of it or of a server, but for checks and its end
abbrev pub begins_topology : ServerEvent → Bool
begins_topology (Server s Opened) = true
begins_topology (Server s Closed) = true
begins_topology (Server s (Changed from to)) = true
begins_topology TopologyOpened = true
begins_topology TopologyChanged = true
begins_topology _ = false

-- it is no event of a check
abbrev pub tells_state : ServerEvent → Bool
tells_state (Server s CheckStarted) = false
tells_state (Server s CheckEnded) = false
tells_state _ = true
