-- What the auditor's counts say of places, of who waits and of who comes first.
use Rattle.std.specs.Prelude.{ℕ, ◌+◌, Bool, not, ◌&&◌, ◌||◌, if◌then◌else◌, ◌==◌, nat_lt, nat_le}
use Rattle.mdb_log.specs.Connections.{one_if}
use Rattle.mdb_log.specs.History.{is_number}
use Rattle.mdb_log.specs.State.{max_size, max_connecting}
use Rattle.mdb_log.specs.declared.options.PoolOptions.{PoolOptions}
use Rattle.mdb_tallies.specs.Changes.{pending_now}
use Rattle.mdb_tallies.specs.declared.connection.Connection.{Connection}
use Rattle.mdb_tallies.specs.declared.party.Party.{Party}
use Rattle.mdb_tallies.specs.declared.pools.Pool.{Pool}

-- how many parties hold the connection
abbrev pub held_now : Connection → ℕ
held_now x = x.kept + (if pending_now x then 0 else x.lent)

-- how many places it has, by whether it stands at its pin
abbrev pub places_now : Connection → Bool → ℕ
places_now x pinned = one_if (pending_now x) + one_if x.is_available + held_now x + one_if pinned

-- as many places as creations beyond its closings, and one at most
abbrev pub in_place_now : Connection → Bool → Bool
in_place_now x pinned = if nat_lt 0 x.creations then ((places_now x pinned + x.closings == x.creations) && nat_le (places_now x pinned) 1) else (x.closings == 0)

-- it asked, and was neither granted a connection nor did its request end
abbrev pub queued_now : Party → Bool
queued_now x = x.is_asked && not (x.is_granted || x.is_ended)

-- a caller of the pool p that was neither granted a connection nor ended
abbrev pub waits_now : ℕ → Party → Bool
waits_now p x = (is_number x.pool p && not (x.is_granted || x.is_ended)) && not x.is_warm

abbrev pub may_create_now : PoolOptions → Pool → Bool
may_create_now o x = nat_lt x.created o.limit_id && (nat_lt x.created (max_size o + x.closed) && nat_lt x.pending (max_connecting o))

abbrev pub could_grant_now : PoolOptions → Pool → Bool
could_grant_now o x = (x.is_opened && x.is_ready) && (nat_lt 0 x.available || may_create_now o x)
