-- What the events tell of a server and of the topology, newest first.
use Rattle.std.specs.Prelude.{ℕ, ◌+◌, ◌-◌, Bool, true, false, ◌||◌, if◌then◌else◌, List, [], ◌∷◌, Option, Some, None}
use Rattle.mdb_recording_servers.specs.ServerEvents.{opens, closes, tells_kind, kind_told, starts_check, ends_check, stops_checks, causes_change, changes_topology, comes_or_goes, opens_topology, closes_topology, begins_topology, tells_state}
use Rattle.mdb_recording_servers.specs.declared.event.Seen.{Seen}
use Rattle.mdb_recording_servers.specs.declared.event.ServerEvent.{ServerEvent}
use Rattle.mdb_recording_servers.specs.declared.event.ServerKind.{ServerKind}
use Rattle.mdb_recording_servers.specs.declared.server.Server.{Server}
use Rattle.mdb_recording_servers.specs.declared.server_lines.ServerLines.{ServerLines}
use Rattle.mdb_recording_servers.specs.declared.topology.Topology.{Topology}
use Rattle.mdb_recording_servers.specs.declared.topology_lines.TopologyLines.{TopologyLines}

-- some event is of that kind
abbrev pub was : (ServerEvent → Bool) → List Seen → Bool
was is [] = false
was is (e ∷ h) = is e.event || was is h

-- the newest event of either kind is of the first
abbrev pub is_on : (ServerEvent → Bool) → (ServerEvent → Bool) → List Seen → Bool
is_on on off [] = false
is_on on off (e ∷ h) = if on e.event then true else (if off e.event then false else is_on on off h)

-- the line of the newest event of that kind
abbrev pub line_of : (ServerEvent → Bool) → List Seen → Option ℕ
line_of is [] = None
line_of is (e ∷ h) = if is e.event then Some e.line else line_of is h

-- what a server is, as far as that was told
abbrev pub kind_of : ℕ → List Seen → Option ServerKind
kind_of s [] = None
kind_of s (e ∷ h) = if tells_kind s e.event then kind_told e.event else kind_of s h

-- how many checks of a server began and did not end
abbrev pub checks : ℕ → List Seen → ℕ
checks s [] = 0
checks s (e ∷ h) = if starts_check s e.event then 1 + checks s h else (if ends_check s e.event then checks s h - 1 else checks s h)

-- the lines of the newest events that say what state a server is in
abbrev pub server_lines_of : ℕ → List Seen → ServerLines
server_lines_of s h = record {
  opened = line_of (opens s) h;
  closed = line_of (closes s) h;
  kind_told = line_of (tells_kind s) h;
  check_started = line_of (starts_check s) h;
  check_ended = line_of (ends_check s) h;
}

-- what the events tell of a server
abbrev pub server_of : ℕ → List Seen → Server
server_of s h = record {
  is_open = is_on (opens s) (closes s) h;
  is_checked = is_on (starts_check s) (stops_checks s) h;
  checks = checks s h;
  kind = kind_of s h;
  lines = server_lines_of s h;
}

-- what they tell of the server that is named, if one is
abbrev pub server_named : Option ℕ → List Seen → Server
server_named None h = server_of 0 []
server_named (Some s) h = server_of s h

-- the topology had a cause when it changed last, that it had not when it changed before, or did not change yet
abbrev pub had_cause : List Seen → Bool
had_cause [] = true
had_cause (e ∷ h) = if changes_topology e.event then is_on causes_change changes_topology h else had_cause h

-- the lines of the newest events that say what state the topology is in
abbrev pub topology_lines_of : List Seen → TopologyLines
topology_lines_of h = record { begun = line_of begins_topology h; changed = line_of changes_topology h; closed = line_of closes_topology h }

-- what they tell of the topology: whether they tell of servers at all, whether something was told since it was closed last, whether it is
-- closed, whether it has a cause to change that it had not when it changed last, whether it had one then, and whether a server was opened
-- or closed since
abbrev pub topology_of : List Seen → Topology
topology_of h = record {
  is_told = was tells_state h;
  is_begun = is_on begins_topology closes_topology h;
  is_closed = is_on closes_topology opens_topology h;
  has_cause = is_on causes_change changes_topology h;
  had_cause = had_cause h;
  has_move = is_on comes_or_goes changes_topology h;
  lines = topology_lines_of h;
}
