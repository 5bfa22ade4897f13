-- What one event more changes in what is known of its server and of the topology.
use Rattle.std.specs.Prelude.{ℕ, ◌+◌, ◌-◌, true, false, Some, None}
use Rattle.mdb_recording_servers.specs.declared.event.ServerKind.TheVariants as kinds
use Rattle.mdb_recording_servers.specs.declared.event.ServerTold.{ServerTold}
use Rattle.mdb_recording_servers.specs.declared.event.ServerTold.TheVariants as told
use Rattle.mdb_recording_servers.specs.declared.event.ServerEvent.{ServerEvent}
use Rattle.mdb_recording_servers.specs.declared.event.ServerEvent.TheVariants as events
use Rattle.mdb_recording_servers.specs.declared.server.Server.{Server}
use Rattle.mdb_recording_servers.specs.declared.server_lines.ServerLines.{ServerLines}
use Rattle.mdb_recording_servers.specs.declared.topology.Topology.{Topology}
use Rattle.mdb_recording_servers.specs.declared.topology_lines.TopologyLines.{TopologyLines}

-- the lines of a server after an event of it on the line n
abbrev pub server_lines_after : ServerTold → ℕ → ServerLines → ServerLines
server_lines_after told.Opened n x = record x { opened = Some n; kind_told = Some n }
server_lines_after told.Closed n x = record x { closed = Some n; kind_told = Some n }
server_lines_after (told.Changed from to) n x = record x { kind_told = Some n }
server_lines_after told.CheckStarted n x = record x { check_started = Some n }
server_lines_after told.CheckEnded n x = record x { check_ended = Some n }

-- the lines of the topology after an event on the line n
abbrev pub topology_lines_after : ServerEvent → ℕ → TopologyLines → TopologyLines
topology_lines_after (events.Server s told.CheckStarted) n x = x
topology_lines_after (events.Server s told.CheckEnded) n x = x
topology_lines_after (events.Server s (told.Changed from to)) n x = record x { begun = Some n }
topology_lines_after (events.Server s told.Opened) n x = record x { begun = Some n }
topology_lines_after (events.Server s told.Closed) n x = record x { begun = Some n }
topology_lines_after events.TopologyOpened n x = record x { begun = Some n }
topology_lines_after events.TopologyChanged n x = record x { begun = Some n; changed = Some n }
topology_lines_after events.TopologyClosed n x = record x { closed = Some n }

-- the state of a server after an event of it
abbrev pub server_state_after : ServerTold → Server → Server
server_state_after told.Opened x = record x { is_open = true; is_checked = false; kind = Some kinds.Unknown }
server_state_after told.Closed x = record x { is_open = false; kind = None }
server_state_after (told.Changed from to) x = record x { kind = to }
server_state_after told.CheckStarted x = record x { is_checked = true; checks = 1 + x.checks }
server_state_after told.CheckEnded x = record x { is_checked = false; checks = x.checks - 1 }

-- a server after an event of it on the line n
abbrev pub server_after : ServerTold → ℕ → Server → Server
server_after t n x = record (server_state_after t x) { lines = server_lines_after t n x.lines }

-- the state of the topology after an event
abbrev pub topology_state_after : ServerEvent → Topology → Topology
topology_state_after (events.Server s told.CheckStarted) x = x
topology_state_after (events.Server s told.CheckEnded) x = x
topology_state_after (events.Server s (told.Changed from to)) x = record x { is_told = true; is_begun = true; has_cause = true }
topology_state_after (events.Server s told.Opened) x = record x { is_told = true; is_begun = true; has_cause = true; has_move = true }
topology_state_after (events.Server s told.Closed) x = record x { is_told = true; is_begun = true; has_cause = true; has_move = true }
topology_state_after events.TopologyOpened x = record x { is_told = true; is_begun = true; is_closed = false; has_cause = true }
topology_state_after events.TopologyChanged x = record x { is_told = true; is_begun = true; has_cause = false; had_cause = x.has_cause; has_move = false }
topology_state_after events.TopologyClosed x = record x { is_told = true; is_begun = false; is_closed = true }

-- the topology after an event on the line n
abbrev pub topology_after : ServerEvent → ℕ → Topology → Topology
topology_after e n x = record (topology_state_after e x) { lines = topology_lines_after e n x.lines }
