-- Times of checks, in milliseconds.
use Rattle.std.specs.Prelude.{ℕ}

-- between two checks of a server, where the options name no time
abbrev pub default_heartbeat : ℕ
default_heartbeat = 10000

-- between two checks of a server, at the least
abbrev pub least_heartbeat : ℕ
least_heartbeat = 500
