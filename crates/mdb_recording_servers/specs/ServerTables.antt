-- What stands in the table of servers.
use Rattle.std.specs.Prelude.{◌≡◌, ℕ, ◌==◌, [], unwrap_or, if◌then◌else◌}
use Rattle.std.specs.HashMap.{get}
use Rattle.mdb_recording_servers.specs.ServerLives.{server_of}
use Rattle.mdb_recording_servers.specs.ServerSteps.{server_after}
use Rattle.mdb_recording_servers.specs.declared.event.ServerEvent.{ServerEvent}
use Rattle.mdb_recording_servers.specs.declared.event.ServerEvent.TheVariants as events
use Rattle.mdb_recording_servers.specs.declared.server.Server.{Server}
use Rattle.mdb_recording_servers.specs.declared.servers.Servers.{Servers}

-- a server of which nothing was told
abbrev pub no_server : Server
no_server = server_of 0 []

abbrev pub server_at : Servers → ℕ → Server
server_at t s = unwrap_or (get (λ x y. x == y) t.map s) no_server

-- the server that an event on the line n names was replaced by what it is after it, if one is named; before, so much was known of it
abbrev pub SetsServer : ServerEvent → ℕ → Server → Servers → Servers → Type 0
SetsServer (events.Server p told) n x old new = (s : ℕ) → server_at new s ≡ if p == s then server_after told n x else server_at old s
SetsServer _ n x old new = new ≡ old
