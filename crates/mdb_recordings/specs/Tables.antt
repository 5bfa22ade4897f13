-- What stands in the tables of pools and connections.
use Rattle.std.specs.Prelude.{ℕ, Bool, ◌&&◌, ◌==◌, [], unwrap_or}
use Rattle.std.specs.BTreeMap.{get}
use Rattle.std.specs.HashMap as hashed
use Rattle.std.specs.Ordering.{nat_cmp, ordering_then}
use Rattle.mdb_recordings.specs.Lives.{caller_of, connection_of, facts_of, former_of, turns_of}
use Rattle.mdb_recordings.specs.declared.caller.Caller.{Caller}
use Rattle.mdb_recordings.specs.declared.callers.Callers.{Callers}
use Rattle.mdb_recordings.specs.declared.connection.Connection.{Connection}
use Rattle.mdb_recordings.specs.declared.connections.Connections.{Connections}
use Rattle.mdb_recordings.specs.declared.pools.Pool.{Pool}
use Rattle.mdb_recordings.specs.declared.pools.Pools.{Pools}

-- the two keys are the same
abbrev pub same_key : ℕ → ℕ → ℕ → ℕ → ℕ → ℕ → Bool
same_key a b c x y z = ((a == x) && (b == y)) && (c == z)

-- a connection of which nothing was told
abbrev pub no_connection : Connection
no_connection = connection_of 0 []

-- the connection i of the pool that was created so often at address p; keys are in the order of their first numbers, then of the second, then of the third
abbrev pub connection_at : Connections → ℕ → ℕ → ℕ → Connection
connection_at t p n i = unwrap_or (get (λ x y. ordering_then (ordering_then (nat_cmp x.0 y.0) (nat_cmp x.1 y.1)) (nat_cmp x.2 y.2)) t.map (p, n, i)) no_connection

-- a check-out of which nothing was told
abbrev pub no_caller : Caller
no_caller = caller_of 0 []

-- the check-out i of the pool that was created so often at address p
abbrev pub caller_at : Callers → ℕ → ℕ → ℕ → Caller
caller_at t p n i = unwrap_or (get (λ x y. ordering_then (ordering_then (nat_cmp x.0 y.0) (nat_cmp x.1 y.1)) (nat_cmp x.2 y.2)) t.map (p, n, i)) no_caller

-- an address at which nothing was told
abbrev pub no_pool : Pool
no_pool = record { lives = 0; former = former_of 0 []; facts = facts_of []; turns = turns_of [] }

abbrev pub pool_at : Pools → ℕ → Pool
pool_at t p = unwrap_or (hashed.get (λ x y. x == y) t.map p) no_pool
