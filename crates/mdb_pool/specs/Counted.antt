-- What a pool's items say of how many connections are in use.
use Rattle.std.specs.Prelude.{ℕ, ◌-◌, List, length}
use Rattle.mdb_log.specs.Connections.{available_list, live_total, pending_list}
use Rattle.mdb_log.specs.History.{PoolItem}

-- in use: live, and neither available nor pending
abbrev pub in_use_total : List PoolItem → ℕ
in_use_total xs = (live_total xs - length (available_list xs)) - length (pending_list xs)
