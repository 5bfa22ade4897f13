-- What any history, newest item first, says of pools: which were opened, their state, and whether they could grant a connection.
use Rattle.std.specs.List.{list_any}
use Rattle.std.specs.Prelude.{ℕ, ◌+◌, Bool, false, ◌&&◌, ◌||◌, if◌then◌else◌, nat_lt, List, [], ◌∷◌, map, Option, Some, None}
use Rattle.mdb_log.specs.declared.options.PoolOptions.{PoolOptions}
use Rattle.mdb_log.specs.Homes.{homes}
use Rattle.mdb_log.specs.History.{Item, PoolItem, raised, pool_created, pool_ready, pool_closed, of_pool}
use Rattle.mdb_log.specs.Connections.{has, created_total}
use Rattle.mdb_log.specs.State.{State, is_new, is_ready, is_paused, is_closed, ready, max_size, max_connecting}
use Rattle.mdb_log.specs.PlainConnections.{connections, is_available, pending_total, closed_total}

-- the numbers of the pools that were opened
abbrev pub pools : List Item → List ℕ
pools h = map (λ x. x.number) (homes h)

-- the last of its creation, its being marked ready, its clears as a whole and its close
abbrev pub last_state : PoolOptions → List PoolItem → Option State
last_state o [] = None
last_state o (pool_created ∷ xs) = Some (if o.load_balanced then is_ready else is_new)
last_state o (pool_ready ∷ xs) = Some is_ready
last_state o (raised None error ∷ xs) = Some (is_paused error)
last_state o (pool_closed ∷ xs) = Some is_closed
last_state o (_ ∷ xs) = last_state o xs

-- The state of a pool; one that no Opened fact names has none.
abbrev pub state_of : PoolOptions → ℕ → List Item → Option State
state_of o p h = if has p (pools h) then last_state o (of_pool p h) else None

abbrev pub has_ready : Option State → Bool
has_ready None = false
has_ready (Some s) = ready s

abbrev pub is_ready_pool : PoolOptions → ℕ → List Item → Bool
is_ready_pool o p h = has_ready (state_of o p h)

-- a connection may be created for a caller: an id is left, and neither the live nor the pending are at their limit
abbrev pub may_create : PoolOptions → List PoolItem → Bool
may_create o xs = nat_lt (created_total xs) o.limit_id && (nat_lt (created_total xs) (max_size o + closed_total xs) && nat_lt (pending_total xs) (max_connecting o))

-- a caller could be granted a connection: the pool is ready, and some connection of it is available or may be created
abbrev pub could_be_granted : PoolOptions → ℕ → List Item → Bool
could_be_granted o p h =
    let xs : List PoolItem = of_pool p h in
    is_ready_pool o p h && (list_any (is_available xs) (connections xs) || may_create o xs)
