-- What the state of a pool has of connections and requests.
use Rattle.std.specs.List.{list_any}
use Rattle.std.specs.Prelude.{ℕ, nat_le, true, Bool, false, ◌&&◌, if◌then◌else◌, nat_lt, ◌-◌, ◌==◌, List, [], ◌∷◌, length, map, filter, find, count_by, Option, Some, None, not, is_some, ◌||◌, ℤ}
use Rattle.mdb_log.specs.declared.reply.Reply.{Reply}
use Rattle.mdb_log.specs.declared.reply.Reply.TheVariants.{Waiting, Establishing as EstablishingReply, Pooled, Job, NoJob, Ended as EndedReply}
use Rattle.mdb_pool.specs.declared.kept.connection.Connection.{Connection}
use Rattle.mdb_pool.specs.declared.kept.connection.Place.{Place}
use Rattle.mdb_pool.specs.declared.kept.request.Request.{Request}
use Rattle.mdb_pool.specs.declared.kept.request.Phase.{Phase}
use Rattle.mdb_pool.specs.declared.kept.request.Phase.TheVariants.{Queued, Given, Over, Ended as EndedPhase}
use Rattle.mdb_pool.specs.Core.{PoolCore}
use Rattle.mdb_pool.specs.Dues.{first_from, limit_after, timer_by}
use Rattle.mdb_pool.specs.declared.dues.Timer.{Timer}
use Rattle.mdb_pool.specs.Kept.Places.{is_done, is_pending, is_available, is_held, is_at_pin, is_queued}
use Rattle.mdb_slots.specs.Keyed.{entry_at}
use Rattle.mdb_log.specs.Generations.{carried}
use Rattle.mdb_log.specs.declared.generation.ConnectionGeneration.{ConnectionGeneration}
use Rattle.mdb_log.specs.State.{State, is_new, is_ready, is_paused, is_closed, min_size, max_size, max_connecting}
use Rattle.mdb_log.specs.Connections.{has, is_dropped, is_fault}
use Rattle.mdb_base.specs.declared.object_id.ObjectId.{ObjectId}
use Rattle.mdb_events.specs.declared.end.End.{End}
use Rattle.mdb_events.specs.declared.reasons.ConnectionClosedReason.{ConnectionClosedReason}
use Rattle.mdb_events.specs.declared.reasons.ConnectionClosedReason.TheVariants.{Stale, Idle, Error as ErrorReason, Dropped as DroppedReason, PoolClosed as PoolClosedReason}
use Rattle.mdb_pool.specs.declared.kept.status.Status.{Status}
use Rattle.mdb_pool.specs.declared.kept.status.Status.TheVariants.{New, Ready, Paused, Closed}
use Rattle.mdb_pool.specs.declared.kept.status.Clear.{Clear}
use Rattle.mdb_log.specs.History.{same_service}
use Rattle.mdb_log.specs.declared.step.Use.{Use}

-- the connection with the id, and the request with the number
abbrev pub connection_in : List Connection → ℕ → Option Connection
connection_in cs c = entry_at (λ x. x.id) c cs

abbrev pub request_in : List Request → ℕ → Option Request
request_in qs r = entry_at (λ q. q.number) r qs

-- the pool with these connections, or these requests
abbrev pub with_connections : PoolCore → List Connection → PoolCore
with_connections s cs = record s { kept = record s.kept { connections = cs } }

abbrev pub with_requests : PoolCore → List Request → PoolCore
with_requests s qs = record s { kept = record s.kept { requests = qs } }

abbrev pub connection_at : PoolCore → ℕ → Option Connection
connection_at s c = connection_in s.kept.connections c

abbrev pub request_at : PoolCore → ℕ → Option Request
request_at s r = request_in s.kept.requests r

abbrev pub first_queued : PoolCore → Option Request
first_queued s = find (λ q. is_queued q.phase) s.kept.requests

-- the last of them that is available, or the one before them
abbrev pub last_from : Option Connection → List Connection → Option Connection
last_from before [] = before
last_from before (x ∷ xs) = last_from (if is_available x.place then Some x else before) xs

abbrev pub last_available : PoolCore → Option Connection
last_available s = last_from None s.kept.connections

abbrev pub pending_count : PoolCore → ℕ
pending_count s = count_by (λ x. is_pending x.place) s.kept.connections

abbrev pub available_count : PoolCore → ℕ
available_count s = count_by (λ x. is_available x.place) s.kept.connections

-- the available connection that became so first
abbrev pub first_available : PoolCore → Option Connection
first_available s = find (λ x. is_available x.place) s.kept.connections

-- neither available nor pending
abbrev pub in_use_count : PoolCore → ℕ
in_use_count s = (length s.kept.connections - available_count s) - pending_count s

abbrev pub queued_count : PoolCore → ℕ
queued_count s = count_by (λ q. is_queued q.phase) s.kept.requests

-- the queued callers
abbrev pub waiting_count : PoolCore → ℕ
waiting_count s = queued_count s - count_by (λ q. is_queued q.phase && q.warm) s.kept.requests

abbrev pub has_room : PoolCore → Bool
has_room s = nat_lt s.kept.created s.options.limit_id && (nat_lt (length s.kept.connections) (max_size s.options) && nat_lt (pending_count s) (max_connecting s.options))

abbrev pub is_ready_now : Status → Bool
is_ready_now Ready = true
is_ready_now _ = false

-- warm requests are to get connections
abbrev pub wants_now : PoolCore → Bool
wants_now s = nat_lt (length s.kept.connections) (min_size s.options) && (nat_lt (length s.kept.connections) (max_size s.options) && nat_lt s.kept.created s.options.limit_id)

-- and only the number of pending connections hinders them
abbrev pub blocked_now : PoolCore → Bool
blocked_now s = wants_now s && not (nat_lt (pending_count s) (max_connecting s.options))

-- the first queued caller
abbrev pub first_caller : PoolCore → Option Request
first_caller s = find (λ q. is_queued q.phase && not q.warm) s.kept.requests

-- the first of the queued requests that is no blocked warm one
abbrev pub candidate_now : PoolCore → Option Request
candidate_now s = find (λ q. is_queued q.phase && not (q.warm && blocked_now s)) s.kept.requests

-- maintenance may create a connection
abbrev pub fills_now : PoolCore → Bool
fills_now s = is_ready_now s.kept.status && (nat_lt (length s.kept.connections) (min_size s.options) && (nat_lt (pending_count s) (max_connecting s.options) && nat_lt s.kept.created s.options.limit_id))

abbrev pub given_in : Phase → Option ℕ
given_in Queued = None
given_in (Given c) = Some c
given_in Over = None
given_in (EndedPhase end) = None

abbrev pub given_of : Option Request → Option ℕ
given_of None = None
given_of (Some q) = given_in q.phase

abbrev pub end_in : Phase → Option End
end_in Queued = None
end_in (Given c) = None
end_in Over = None
end_in (EndedPhase end) = Some end

abbrev pub end_at : Option Request → Option End
end_at None = None
end_at (Some q) = end_in q.phase

abbrev pub is_ended_at : Option Request → Bool
is_ended_at o = is_some (end_at o)

abbrev pub asked_at_of : Option Request → ℕ
asked_at_of None = 0
asked_at_of (Some q) = q.asked_at

-- when it asked
abbrev pub asked_in : Option Request → Option ℕ
asked_in None = None
asked_in (Some q) = Some q.asked_at

-- since when it is available
abbrev pub since_in : Option Connection → Option ℕ
since_in None = None
since_in (Some x) = Some x.since

-- the request is a warm one
abbrev pub warm_of : Option Request → Bool
warm_of None = false
warm_of (Some q) = q.warm

abbrev pub if_held : Option Connection → Option Connection
if_held None = None
if_held (Some x) = if is_held x.place then Some x else None

-- the connection that was given, where a party holds it
abbrev pub held_given : PoolCore → Option ℕ → Option Connection
held_given s None = None
held_given s (Some c) = if_held (connection_at s c)

-- the connection that the party holds
abbrev pub held_connection : PoolCore → ℕ → Option Connection
held_connection s r = held_given s (given_of (request_at s r))

abbrev pub if_pending : Option Connection → Option Connection
if_pending None = None
if_pending (Some x) = if is_pending x.place then Some x else None

-- the pending connection that the party is given
abbrev pub pending_connection : PoolCore → ℕ → Option Connection
pending_connection s r = of_given (given_of (request_at s r))
  where
    of_given : Option ℕ → Option Connection
    of_given None = None
    of_given (Some c) = if_pending (connection_at s c)

abbrev pub id_at : Option Connection → Option ℕ
id_at None = None
id_at (Some x) = Some x.id

-- the request that will have the connection
abbrev pub holder_request : PoolCore → Connection → Option Request
holder_request s x = of_holder x.holder
  where
    of_holder : Option ℕ → Option Request
    of_holder None = None
    of_holder (Some r) = request_at s r

-- the party asked for a connection, and did not take a pinned one
abbrev pub is_asked_at : Option Request → Bool
is_asked_at None = false
is_asked_at (Some q) = not q.took

-- the pending connection that came first among those that no claim was told of
abbrev pub first_unclaimed : PoolCore → Option Connection
first_unclaimed s = find (λ x. is_pending x.place && not (has x.id s.kept.claimed)) s.kept.connections

-- what a claim is told
abbrev pub job_now : PoolCore → Reply
job_now s = on (first_unclaimed s)
  where
    on : Option Connection → Reply
    on None = NoJob
    on (Some x) = Job s.pool x.id

abbrev pub is_pending_at : Option Connection → Bool
is_pending_at None = false
is_pending_at (Some x) = is_pending x.place

abbrev pub is_held_at : Option Connection → Bool
is_held_at None = false
is_held_at (Some x) = is_held x.place

-- what the request is told
abbrev pub outcome_now : PoolCore → ℕ → Reply
outcome_now s r = on (end_at (request_at s r)) (given_of (request_at s r))
  where
    on : Option End → Option ℕ → Reply
    on (Some end) c = EndedReply end
    on None None = Waiting
    on None (Some c) = if is_pending_at (connection_at s c) then EstablishingReply s.pool c else Pooled s.pool c

-- what the kept values say
abbrev pub ids_where : (Place → Bool) → List Connection → List ℕ
ids_where test xs = map (λ x. x.id) (filter (λ x. test x.place) xs)

abbrev pub numbers_where : (Phase → Bool) → List Request → List ℕ
numbers_where test qs = map (λ q. q.number) (filter (λ q. test q.phase) qs)

-- the parties that asked
abbrev pub numbers_asked : List Request → List ℕ
numbers_asked qs = map (λ q. q.number) (filter (λ q. not q.took) qs)

abbrev pub one_party : Option ℕ → List ℕ
one_party None = []
one_party (Some r) = r ∷ []

abbrev pub holder_at : Option Connection → Option ℕ
holder_at None = None
holder_at (Some x) = x.holder

abbrev pub service_at : Option Connection → Option ObjectId
service_at None = None
service_at (Some x) = x.service

abbrev pub wire_at : Option Connection → Option ℤ
wire_at None = None
wire_at (Some x) = x.wire

abbrev pub pins_at : Option Connection → ℕ
pins_at None = 0
pins_at (Some x) = x.pins

abbrev pub is_pinned_at : Option Connection → Bool
is_pinned_at None = false
is_pinned_at (Some x) = is_at_pin x.place

abbrev pub errored_at : Option Connection → Bool
errored_at None = false
errored_at (Some x) = x.errored

abbrev pub dropped_at : Option Connection → Bool
dropped_at None = false
dropped_at (Some x) = is_dropped x.used

-- the connection is live, or was never created
abbrev pub lasts_in : ℕ → List Connection → ℕ → Bool
lasts_in made cs c = is_some (connection_in cs c) || nat_lt made c

abbrev pub lasts : PoolCore → ℕ → Bool
lasts s c = lasts_in s.kept.created s.kept.connections c

-- what the pool is
abbrev pub state_in : Status → State
state_in New = is_new
state_in Ready = is_ready
state_in (Paused error) = is_paused error
state_in Closed = is_closed

abbrev pub is_shut : Status → Bool
is_shut Closed = true
is_shut _ = false

-- how often the service was cleared, or the pool as a whole where there is none
abbrev pub clears_for : Option ObjectId → List Clear → ℕ
clears_for t ks = count_by (λ k. same_service k.service t) ks

-- how often so before the connection was created
abbrev pub clears_before : ℕ → Option ObjectId → List Clear → ℕ
clears_before c t ks = count_by (λ k. same_service k.service t && nat_lt k.after c) ks

-- how often the pool was cleared so before the connection was created, 0 where it isn't live
abbrev pub count_at : PoolCore → ℕ → Option ObjectId → ℕ
count_at s c t = if is_some (connection_at s c) then clears_before c t s.kept.clears else 0

-- such a clear came after the connection was created
abbrev pub cleared_since : ℕ → Option ObjectId → List Clear → Bool
cleared_since c t ks = list_any (λ k. same_service k.service t && not (nat_lt k.after c)) ks

-- how many of the clears were by a network timeout
abbrev pub timeouts_in : List Clear → ℕ
timeouts_in ks = count_by (λ k. k.timeout) ks

-- the connection is interrupted
abbrev pub interrupted_at : PoolCore → Option Connection → Bool
interrupted_at s None = false
interrupted_at s (Some x) = not s.options.load_balanced && (is_held x.place && ((x.pins == 0) && nat_lt x.timeouts (timeouts_in s.kept.clears)))

-- the generation that the connection carries
abbrev pub generation_at : PoolCore → ℕ → Option Connection → Option ConnectionGeneration
generation_at s c None = None
generation_at s c (Some x) = Some (carried s.options.load_balanced (λ t. clears_before c t s.kept.clears) x.service)

-- a connection with the service would be stale
abbrev pub stale_for : PoolCore → ℕ → Option ObjectId → Bool
stale_for s c service =
    let t : Option ObjectId = if s.options.load_balanced then service else None in
    not (s.options.load_balanced && not (is_some t)) && cleared_since c t s.kept.clears

-- a connection that is available since then would be idle at the moment m
abbrev pub idle_since : Option ℕ → ℕ → ℕ → Bool
idle_since None m since = false
idle_since (Some limit) m since = nat_lt 0 limit && nat_le limit (m - since)

-- why an available connection that is met at the moment m is closed
abbrev pub perished_now : PoolCore → ℕ → Connection → Option ConnectionClosedReason
perished_now s m x =
    if stale_for s x.id x.service then Some Stale
    else (if idle_since s.options.max_idle_time m x.since then Some Idle
    else None)

-- the available connection that a new caller gets at once: the pool is ready, nobody waits in it, and the one that came back last has not perished
abbrev pub ready_connection : PoolCore → ℕ → Option Connection
ready_connection s m = if is_ready_now s.kept.status && not (is_some (first_queued s)) then if_fresh (last_available s) else None
  where
    if_fresh : Option Connection → Option Connection
    if_fresh None = None
    if_fresh (Some x) = if is_some (perished_now s m x) then None else Some x

-- the available connection that came back first among those that have perished
abbrev pub first_perished : PoolCore → ℕ → Option Connection
first_perished s m = find (λ x. is_available x.place && is_some (perished_now s m x)) s.kept.connections

-- a caller that asked then has waited for too long at the moment m
abbrev pub overdue_since : Option ℕ → ℕ → ℕ → Bool
overdue_since None m asked = false
overdue_since (Some limit) m asked = nat_lt 0 limit && nat_le limit (m - asked)

-- the request is a queued caller that has waited for too long
abbrev pub overdue_now : PoolCore → ℕ → Request → Bool
overdue_now s m q = is_queued q.phase && (not q.warm && overdue_since s.options.max_wait m q.asked_at)

-- the first of them in the queue
abbrev pub first_overdue : PoolCore → ℕ → Option Request
first_overdue s m = find (overdue_now s m) s.kept.requests

-- the connection with one more use
abbrev pub used_as : Connection → Use → Connection
used_as x used = record x { errored = is_fault used || x.errored; used = used }

-- why a connection is closed when it comes back: it is errored, else stale, else its last use dropped it
abbrev pub reason_of : Bool → Bool → Bool → Option ConnectionClosedReason
reason_of errored stale dropped =
    if errored then Some ErrorReason
    else (if stale then Some Stale
    else (if dropped then Some DroppedReason
    else None))

-- why a connection is closed at its check-in, in the pool as it is
abbrev pub reason_now : PoolCore → Connection → Option ConnectionClosedReason
reason_now s x = if is_shut s.kept.status then Some PoolClosedReason else reason_of x.errored (stale_for s x.id x.service) (is_dropped x.used)

-- nothing was handed to a request that is so: it is queued, or its connection is pending
abbrev pub unserved_in : PoolCore → Phase → Bool
unserved_in s Queued = true
unserved_in s (Given c) = is_pending_at (connection_at s c)
unserved_in s Over = false
unserved_in s (EndedPhase end) = false

-- A request leaves once it is settled, and is over or has ended.
abbrev pub lingers : List ℕ → Request → Bool
lingers ks q = not (has q.number ks && is_done q.phase)

abbrev pub if_lingers : List ℕ → Option Request → Option Request
if_lingers ks None = None
if_lingers ks (Some q) = if lingers ks q then Some q else None

-- it was there, and has left
abbrev pub is_gone : List ℕ → Option Request → Bool
is_gone ks None = false
is_gone ks (Some q) = not (lingers ks q)

-- the request with the number, where it has not left
abbrev pub kept_request : PoolCore → ℕ → Option Request
kept_request s r = if_lingers s.kept.settled (request_at s r)

-- the request that will have the connection, where it has not left
abbrev pub kept_holder : PoolCore → Connection → Option Request
kept_holder s x = of_holder x.holder
  where
    of_holder : Option ℕ → Option Request
    of_holder None = None
    of_holder (Some r) = kept_request s r

-- those that have not left
abbrev pub kept_requests : PoolCore → List Request
kept_requests s = filter (lingers s.kept.settled) s.kept.requests

-- when the first caller that is queued has waited for too long
abbrev pub expiry_now : PoolCore → Option ℕ
expiry_now s = limit_after s.options.max_wait (asked_in (first_caller s))

-- when maintenance changes something, from the moment m on
abbrev pub maintenance_now : PoolCore → ℕ → Option ℕ
maintenance_now s m = if fills_now s || is_some (first_perished s m) then Some m else limit_after s.options.max_idle_time (since_in (first_available s))

-- the timer that changes something at the moment m, and the first moment from m on at which one does
abbrev pub timer_now : PoolCore → ℕ → Option Timer
timer_now s m = timer_by m (expiry_now s) (maintenance_now s m)

abbrev pub due_now : PoolCore → ℕ → Option ℕ
due_now s m = first_from m (expiry_now s) (maintenance_now s m)
