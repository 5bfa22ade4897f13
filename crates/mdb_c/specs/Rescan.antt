-- After how many seconds SRV records are looked up again.
use Rattle.std.specs.Prelude.{ℕ, ◌==◌, max, if◌then◌else◌}

-- the seconds after a lookup by which so many hosts were accepted: the time to live of their records, or the seconds between two heartbeats where there is none
abbrev pub rescan : ℕ → ℕ → ℕ → ℕ
rescan accepted ttl heartbeat = max (if accepted == 0 then heartbeat else ttl) 60
