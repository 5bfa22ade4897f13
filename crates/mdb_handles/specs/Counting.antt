-- Operations of a server, as they begin and end.
use Rattle.std.specs.Prelude.{ℕ, ◌+◌, ◌-◌, ◌^◌, ◌==◌, Bool, not, ◌||◌, Option, Some, None, Result, Ok, Err, if◌then◌else◌}
use Rattle.mdb_handles.specs.declared.counts.OpToken.{OpToken}
use Rattle.mdb_handles.specs.declared.counts.Server.{Server}

abbrev pub token_of : Server → OpToken
token_of s = record { pool = s.pool }

abbrev pub with_count : Server → ℕ → Server
with_count s n = record { address = s.address; pool = s.pool; operation_count = n }

-- no more operations can be counted
abbrev pub is_full : Server → Bool
is_full s = s.operation_count == 2 ^ 32 - 1

abbrev pub begun_token : Server → Option OpToken
begun_token s = if is_full s then None else Some (token_of s)

abbrev pub begun : Server → Server
begun s = if is_full s then s else with_count s (s.operation_count + 1)

-- no operation runs, or the token is of another server
abbrev pub is_foreign : Server → OpToken → Bool
is_foreign s token = (s.operation_count == 0) || not (token.pool == s.pool)

abbrev pub ended_answer : Server → OpToken → Result (Unit {0}) OpToken
ended_answer s token = if is_foreign s token then Err token else Ok tt

abbrev pub ended : Server → OpToken → Server
ended s token = if is_foreign s token then s else with_count s (s.operation_count - 1)
