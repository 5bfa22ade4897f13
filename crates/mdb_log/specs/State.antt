-- What a pool's items say of the pool: its state, its generations, its sizes, and whether it could grant a connection.
use Rattle.std.specs.Prelude.{ℕ, ◌+◌, ◌-◌, Bool, true, false, not, ◌&&◌, ◌||◌, if◌then◌else◌, ◌==◌, nat_lt, nat_le, is_some, List, [], ◌∷◌, length, Option, Some, None, unwrap_or}
use Rattle.mdb_base.specs.declared.object_id.ObjectId.{ObjectId}
use Rattle.mdb_base.specs.declared.error.Error.{Error}
use Rattle.mdb_log.specs.declared.options.PoolOptions.{PoolOptions}
use Rattle.mdb_log.specs.History.{PoolItem, created, raised, pool_created, pool_ready, pool_closed, same_service}
use Rattle.mdb_log.specs.Connections.{one_if, live_total, created_total, pending_list, available_list, since, service_of, held, pins, timeouts_since}

pub data State : Type 0 where
  is_new : State
  is_ready : State
  is_paused : Error → State
  is_closed : State

-- the last of its creation, its being marked ready, its clears as a whole and its close decides
abbrev pub state_of : PoolOptions → List PoolItem → State
state_of o [] = is_new
state_of o (pool_created ∷ xs) = if o.load_balanced then is_ready else is_new
state_of o (pool_ready ∷ xs) = is_ready
state_of o (raised None error ∷ xs) = is_paused error
state_of o (pool_closed ∷ xs) = is_closed
state_of o (_ ∷ xs) = state_of o xs

abbrev pub ready : State → Bool
ready is_ready = true
ready _ = false

-- how often the pool was cleared for the service, or as a whole where there is none
abbrev pub generation_of : List PoolItem → Option ObjectId → ℕ
generation_of [] s = 0
generation_of (raised t error ∷ xs) s = generation_of xs s + one_if (same_service t s)
generation_of (_ ∷ xs) s = generation_of xs s

-- the generation before the connection was created
abbrev pub generation_before : List PoolItem → ℕ → Option ObjectId → ℕ
generation_before [] c s = 0
generation_before (created d m ∷ xs) c s = if d == c then generation_of xs s else generation_before xs c s
generation_before (_ ∷ xs) c s = generation_before xs c s

-- Stale: the generation isn't the one before the connection was created; never so under load balancing without a service.
abbrev pub is_stale : PoolOptions → List PoolItem → ℕ → Bool
is_stale o xs c =
    let s : Option ObjectId = if o.load_balanced then service_of xs c else None in
    not (o.load_balanced && not (is_some s)) && not (generation_before xs c s == generation_of xs s)

-- Idle: available for at least the limit, where there is one.
abbrev pub is_idle : PoolOptions → ℕ → List PoolItem → ℕ → Bool
is_idle o m xs c = is_over o.max_idle_time
  where
    is_over : Option ℕ → Bool
    is_over None = false
    is_over (Some limit) = nat_lt 0 limit && nat_le limit (m - since xs c)

-- Interrupted: in a normal pool a party has the connection, no pin stands, and a clear by a network timeout came after the last of its grant, take and unpin.
abbrev pub is_interrupted : PoolOptions → List PoolItem → ℕ → Bool
is_interrupted o xs c = not o.load_balanced && (nat_lt 0 (held xs c) && ((pins xs c == 0) && nat_lt 0 (timeouts_since xs c)))

-- The sizes, with their defaults.
abbrev pub max_size : PoolOptions → ℕ
max_size o = unwrap_or o.max_pool_size 10

abbrev pub min_size : PoolOptions → ℕ
min_size o = unwrap_or o.min_pool_size 0

abbrev pub max_connecting : PoolOptions → ℕ
max_connecting o = unwrap_or o.max_connecting 2

-- a connection may be created for a caller: an id is left, and neither the live nor the pending are at their limit
abbrev pub may_create : PoolOptions → List PoolItem → Bool
may_create o xs = nat_lt (created_total xs) o.limit_id && (nat_lt (live_total xs) (max_size o) && nat_lt (length (pending_list xs)) (max_connecting o))

abbrev pub is_empty : {A : Type 0} → List A → Bool
is_empty [] = true
is_empty (x ∷ xs) = false

-- a caller could be granted a connection: the pool is ready, and some connection is available or may be created
abbrev pub could_be_granted : PoolOptions → List PoolItem → Bool
could_be_granted o xs = ready (state_of o xs) && (not (is_empty (available_list xs)) || may_create o xs)
