-- What a pool says of itself now, each by one query. Whoever stands above a pool names these alone, and nothing of what it keeps: the queries unfold nowhere but in mdb_pool, which names `queries` where it proves something of them.
use Rattle.std.specs.Prelude.{ℕ, ℤ, Bool, true, false, not, ◌&&◌, nat_le, nat_lt, ◌==◌, is_some, length, Option, Some, None, ⊤}
use Rattle.mdb_base.specs.declared.error.Error.{Error}
use Rattle.mdb_base.specs.declared.object_id.ObjectId.{ObjectId}
use Rattle.mdb_log.specs.declared.generation.ConnectionGeneration.{ConnectionGeneration}
use Rattle.mdb_log.specs.Connections.{has}
use Rattle.mdb_log.specs.State.{State, is_new, is_ready, is_paused, is_closed}
use Rattle.mdb_pool.specs.declared.kept.status.PoolState.{PoolState}
use Rattle.mdb_pool.specs.declared.kept.status.PoolState.TheVariants.{New as NewState, Ready as ReadyState, Paused as PausedState, Closed as ClosedState}
use Rattle.mdb_pool.specs.Core.{PoolCore}
use Rattle.mdb_pool.specs.Kept.Values.{clears_before, clears_for, connection_at, first_unclaimed, generation_at, held_connection, id_at, is_asked_at, is_held_at, is_pending_at, is_shut, kept_requests, pins_at, request_at, service_at, state_in, wire_at}

-- the moment of its last step, and whether it stands alone, and so keeps the numbers of all its parties
unfoldable pub last_now : PoolCore → ℕ
last_now s = s.kept.last

unfoldable pub alone_now : PoolCore → Bool
alone_now s = s.kept.alone

-- its state, and whether it is closed for good
unfoldable pub state_now : PoolCore → State
state_now s = state_in s.kept.status

unfoldable pub is_closed_now : PoolCore → Bool
is_closed_now s = is_shut s.kept.status

-- the name of a state, and why a pool in it is paused
abbrev pub name_of : State → PoolState
name_of is_new = NewState
name_of is_ready = ReadyState
name_of (is_paused error) = PausedState
name_of is_closed = ClosedState

abbrev pub cause_of : State → Option Error
cause_of (is_paused error) = Some error
cause_of _ = None

-- it is the name of the state in which a pool is closed
abbrev pub is_closed_name : PoolState → Bool
is_closed_name ClosedState = true
is_closed_name _ = false

-- the party asked, or took a pinned connection
unfoldable pub knows_now : PoolCore → ℕ → Bool
knows_now s r = is_some (request_at s r)

-- the party asked, and did not take a pinned connection
unfoldable pub asked_now : PoolCore → ℕ → Bool
asked_now s r = is_asked_at (request_at s r)

-- the outcome of the request was told, or its caller gave up or came back
unfoldable pub settled_now : PoolCore → ℕ → Bool
settled_now s r = has r s.kept.settled

-- the request is open: asked, and not settled
abbrev pub is_open_now : PoolCore → ℕ → Bool
is_open_now s r = asked_now s r && not (settled_now s r)

-- the connection that the party holds, whether it holds one, and whether the one that it holds has a pin
unfoldable pub held_now : PoolCore → ℕ → Option ℕ
held_now s r = id_at (held_connection s r)

unfoldable pub holds_now : PoolCore → ℕ → Bool
holds_now s r = is_some (held_connection s r)

unfoldable pub is_pinned_now : PoolCore → ℕ → Bool
is_pinned_now s r = nat_lt 0 (pins_at (held_connection s r))

-- the connection lives, isn't established yet, or is had by a party since it was established
unfoldable pub is_live_now : PoolCore → ℕ → Bool
is_live_now s c = is_some (connection_at s c)

unfoldable pub is_pending_now : PoolCore → ℕ → Bool
is_pending_now s c = is_pending_at (connection_at s c)

unfoldable pub is_held_now : PoolCore → ℕ → Bool
is_held_now s c = is_held_at (connection_at s c)

-- how many pins the connection has
unfoldable pub pins_now : PoolCore → ℕ → ℕ
pins_now s c = pins_at (connection_at s c)

-- a claim was told to establish the connection
unfoldable pub claimed_now : PoolCore → ℕ → Bool
claimed_now s c = has c s.kept.claimed

-- some pending connection was told by no claim
unfoldable pub has_job_now : PoolCore → Bool
has_job_now s = is_some (first_unclaimed s)

-- what establishing the connection told: its wire version and its service
unfoldable pub wire_now : PoolCore → ℕ → Option ℤ
wire_now s c = wire_at (connection_at s c)

unfoldable pub service_now : PoolCore → ℕ → Option ObjectId
service_now s c = service_at (connection_at s c)

-- how often the pool was cleared for the service, or as a whole where there is none, and how often before the connection was created
unfoldable pub clears_now : PoolCore → Option ObjectId → ℕ
clears_now s t = clears_for t s.kept.clears

unfoldable pub clears_before_now : PoolCore → ℕ → Option ObjectId → ℕ
clears_before_now s c t = clears_before c t s.kept.clears

-- the generation that the connection carries
unfoldable pub generation_now : PoolCore → ℕ → Option ConnectionGeneration
generation_now s c = generation_at s c (connection_at s c)

-- one more clear would pass the limit of the generation
abbrev pub exhausted_now : PoolCore → Option ObjectId → Bool
exhausted_now s service = not (is_closed_now s) && nat_le s.options.limit_generation (clears_now s service)

-- the pool is closed and nothing of it lives: it has no connection, and each of its requests has left
unfoldable pub is_spent : PoolCore → Bool
is_spent s = is_closed_now s && ((length s.kept.connections == 0) && (length (kept_requests s) == 0))

-- what a proof of mdb_pool unfolds to see what the queries are read from
unfoldable pub queries : ⊤
unfolding last_now alone_now state_now is_closed_now knows_now asked_now settled_now held_now holds_now is_pinned_now is_live_now is_pending_now is_held_now pins_now claimed_now has_job_now wire_now service_now clears_now clears_before_now generation_now is_spent
queries = tt
