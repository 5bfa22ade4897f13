-- The rules: when an event breaks one, by what the events before it tell of its server and of the topology.
use Rattle.std.specs.Prelude.{ℕ, Bool, false, not, ◌&&◌, ◌||◌, ◌==◌, List, Option, Some}
use Rattle.mdb_recording_servers.specs.ServerEvents.{kind_number, server_of_event, opens_one, uses_one, starts_check_one, ends_check_one, from_told, ends_change, opens_topology, needs_topology}
use Rattle.mdb_recording_servers.specs.ServerLives.{server_named, topology_of}
use Rattle.mdb_recording_servers.specs.declared.event.Seen.{Seen}
use Rattle.mdb_recording_servers.specs.declared.event.ServerEvent.{ServerEvent}
use Rattle.mdb_recording_servers.specs.declared.event.ServerKind.{ServerKind}
use Rattle.mdb_recording_servers.specs.declared.known.Known.{Known}
use Rattle.mdb_recording_servers.specs.declared.rule.ServerRule.{ServerRule}
use Rattle.mdb_recording_servers.specs.declared.rule.ServerRule.TheVariants.{OpenedTwice, NotOpen, FromDiffers, NotChecked, CheckedTwice, HasNoCause, OpenedLate, IsClosed}

-- the two kinds differ, as far as both were told
abbrev pub differs : Option ServerKind → Option ServerKind → Bool
differs (Some a) (Some b) = not (kind_number a == kind_number b)
differs _ _ = false

-- An event breaks a rule, where so much is known of its server and of the topology.
abbrev pub is_broken : ServerRule → Known → ServerEvent → Bool
-- a server is opened, and not while it is open
is_broken OpenedTwice k e = opens_one e && k.server.is_open
-- a server is open when it is closed or changed, and, where the recording tells of servers, when a check of it begins
is_broken NotOpen k e = (uses_one e || (starts_check_one e && k.topology.is_told)) && not k.server.is_open
-- a server changes from what it was
is_broken FromDiffers k e = differs (from_told e) k.server.kind
-- a check ends that began
is_broken NotChecked k e = ends_check_one e && k.server.checks == 0
-- one check of a server runs at a time, where the recording tells when servers are opened
is_broken CheckedTwice k e = starts_check_one e && (k.topology.is_told && k.server.is_checked)
-- the topology changes for a cause that came after the change before, or for a server that is opened or closed right behind it
is_broken HasNoCause k e = ends_change e && not (k.topology.had_cause || k.topology.has_move)
-- the topology is opened first, and once
is_broken OpenedLate k e = opens_topology e && k.topology.is_begun
-- its end is told last, and once
is_broken IsClosed k e = needs_topology e && k.topology.is_closed

-- all that is known when an event comes after these
abbrev pub known_of : List Seen → ServerEvent → Known
known_of h e = record { server = server_named (server_of_event e) h; topology = topology_of h }

-- The event breaks the rule, after these events, the last of them newest.
abbrev pub breaks : ServerRule → List Seen → ServerEvent → Bool
breaks rule h e = is_broken rule (known_of h e) e

-- The line of the event that a finding contradicts, where so much is known before it; none where something is missing.
abbrev pub contradicted : ServerRule → Known → Option ℕ
-- the server was opened there last
contradicted OpenedTwice k = k.server.lines.opened
-- it was closed there last
contradicted NotOpen k = k.server.lines.closed
-- it was opened, closed or changed there last, and so is of a kind
contradicted FromDiffers k = k.server.lines.kind_told
-- a check of it ended there last
contradicted NotChecked k = k.server.lines.check_ended
-- a check of it began there last
contradicted CheckedTwice k = k.server.lines.check_started
-- the topology changed there last
contradicted HasNoCause k = k.topology.lines.changed
-- something was told there last of the topology or of a server
contradicted OpenedLate k = k.topology.lines.begun
-- the topology was closed there last
contradicted IsClosed k = k.topology.lines.closed

-- the line of the event that an event contradicts which breaks the rule after these events
abbrev pub against : ServerRule → List Seen → ServerEvent → Option ℕ
against rule h e = contradicted rule (known_of h e)
