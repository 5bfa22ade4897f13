-- The single changes of the state of a pool, and the facts that they make.
use Rattle.std.specs.Prelude.{ℕ, Bool, ◌==◌, ◌||◌, ◌+◌, ◌-◌, List, [], ◌∷◌, ◌++◌, Option, Some, None, if◌then◌else◌, map, filter, true, false}
use Rattle.mdb_events.specs.declared.fact.Fact.{Fact}
use Rattle.mdb_events.specs.declared.fact.Fact.TheVariants.{Granted, Ended}
use Rattle.mdb_base.specs.declared.error.Error.{Error}
use Rattle.mdb_base.specs.Errors.{is_timeout}
use Rattle.mdb_pool.specs.declared.kept.status.Status.{Status}
use Rattle.mdb_pool.specs.declared.kept.status.Status.TheVariants.{New, Ready, Paused, Closed}
use Rattle.mdb_pool_rules.specs.Facts.{new_pool_error, checked_in_fact, checked_out_fact, checkout_failed_fact, failure_of, closed_fact, created_fact, pool_closed_fact, pool_ready_fact}
use Rattle.mdb_events.specs.declared.reasons.ConnectionClosedReason.{ConnectionClosedReason}
use Rattle.mdb_events.specs.declared.reasons.ConnectionClosedReason.TheVariants.{PoolClosed as PoolClosedReason}
use Rattle.mdb_events.specs.declared.end.End.{End}
use Rattle.mdb_events.specs.declared.end.End.TheVariants.{GaveUp, Cleared, Closed as ClosedEnd, Warmed, Filled}
use Rattle.mdb_base.specs.declared.object_id.ObjectId.{ObjectId}
use Rattle.mdb_pool.specs.declared.kept.request.Phase.{Phase}
use Rattle.mdb_pool.specs.declared.kept.connection.Connection.{Connection}
use Rattle.mdb_pool.specs.declared.kept.connection.Place.TheVariants.{Pending, Available, Held, Pinned}
use Rattle.mdb_pool.specs.declared.kept.request.Request.{Request}
use Rattle.mdb_pool.specs.declared.kept.request.Phase.TheVariants.{Queued, Given, Over, Ended as EndedPhase}
use Rattle.mdb_pool.specs.Core.{PoolCore}
use Rattle.mdb_slots.specs.Keyed.{put, others, swap}
use Rattle.mdb_pool.specs.Kept.Keyed.{marked}
use Rattle.mdb_pool.specs.Kept.Values.{first_unclaimed, outcome_now, perished_now, wants_now, is_shut, is_ready_now, unserved_in, timeouts_in, with_connections, with_requests}
use Rattle.mdb_pool.specs.Kept.Places.{is_pending, is_available, stays}
use Rattle.mdb_log.specs.Requests.{is_outcome}
use Rattle.mdb_log.specs.declared.step.Established.{Established}
use Rattle.mdb_log.specs.declared.step.Use.TheVariants.{Ok}

-- the facts of a check-in: on a closed pool there is the close alone
abbrev pub back_facts : PoolCore → Connection → Option ConnectionClosedReason → List Fact
back_facts s x None = checked_in_fact s.pool s.address x.id ∷ []
back_facts s x (Some why) = if is_shut s.kept.status then (closed_fact s.pool s.address x.id why x.service ∷ []) else (checked_in_fact s.pool s.address x.id ∷ closed_fact s.pool s.address x.id why x.service ∷ [])

-- the end of a request; the checkout of a caller fails right after it
abbrev pub over_facts : PoolCore → ℕ → Bool → ℕ → End → List Fact
over_facts s r warm waited end = if warm then (Ended r end ∷ []) else (Ended r end ∷ checkout_failed_fact s.pool s.address (failure_of end) waited ∷ [])

-- how a request ends at once, and what that makes
abbrev pub away_end : Status → Option End
away_end New = Some (Cleared new_pool_error)
away_end (Paused error) = Some (Cleared error)
away_end _ = None

abbrev pub away_facts : PoolCore → ℕ → Bool → Option End → List Fact
away_facts s r warm None = []
away_facts s r warm (Some end) = over_facts s r warm 0 end

-- a connection that comes back is available, or is closed where there is a reason
abbrev pub placed : ℕ → Connection → Option ConnectionClosedReason → List Connection → List Connection
placed m x None xs = put (λ y. y.id) (record x { place = Available; holder = None; since = m }) xs
placed m x (Some why) xs = others (λ y. y.id) x.id xs

-- the moves of the state
abbrev pub asking : PoolCore → ℕ → ℕ → Bool → PoolCore
asking s r m warm = record s {
  kept = record s.kept {
    last = m;
    requests = put (λ q. q.number) (record { number = r; asked_at = m; warm = warm; took = false; phase = Queued }) s.kept.requests;
  };
}

abbrev pub ending : PoolCore → Request → End → PoolCore
ending s q end = with_requests s (swap (λ q. q.number) (record q { phase = EndedPhase end }) s.kept.requests)

abbrev pub away : PoolCore → ℕ → ℕ → Bool → Option End → PoolCore
away s r m warm None = s
away s r m warm (Some end) = ending s (record { number = r; asked_at = m; warm = warm; took = false; phase = Queued }) end

-- a new connection, for a party or in the background
abbrev pub pending_for : ℕ → ℕ → Option ℕ → ℕ → Connection
pending_for c m party t = record { id = c; created_at = m; place = Pending; party = party; holder = party; service = None; wire = None; since = m; pins = 0; used = Ok; errored = false; timeouts = t }

abbrev pub creating : PoolCore → ℕ → Request → PoolCore
creating s m q = record s {
  kept = record s.kept {
    created = s.kept.created + 1;
    connections = put (λ x. x.id) (pending_for (s.kept.created + 1) m (Some q.number) (timeouts_in s.kept.clears)) s.kept.connections;
    requests = swap (λ q. q.number) (record q { phase = Given (s.kept.created + 1) }) s.kept.requests;
  };
}

-- a connection is created in the background
abbrev pub spawning : PoolCore → ℕ → PoolCore
spawning s m = record s {
  kept = record s.kept {
    created = s.kept.created + 1;
    connections = put (λ x. x.id) (pending_for (s.kept.created + 1) m None 0) s.kept.connections;
  };
}

-- a warm request gets a new connection, or ends as none is wanted
abbrev pub warming : PoolCore → ℕ → Request → PoolCore
warming s m q = if wants_now s then creating s m q else ending s q Warmed

abbrev pub warming_facts : PoolCore → Request → List Fact
warming_facts s q = if wants_now s then (created_fact s.pool s.address (s.kept.created + 1) ∷ Granted q.number s.pool (s.kept.created + 1) ∷ []) else (Ended q.number Warmed ∷ [])

-- the connection where the request's caller has it
abbrev pub handed : PoolCore → Connection → ℕ → Connection
handed s x r = record x { place = Held; party = Some r; holder = Some r; timeouts = timeouts_in s.kept.clears }

abbrev pub granting : PoolCore → Connection → Request → PoolCore
granting s x q = record s {
  kept = record s.kept {
    connections = swap (λ x. x.id) (handed s x q.number) s.kept.connections;
    requests = swap (λ q. q.number) (record q { phase = Given x.id }) s.kept.requests;
  };
}

-- a new caller gets an available connection at once, and is told so
abbrev pub granting_at_once : PoolCore → ℕ → ℕ → Connection → PoolCore
granting_at_once s m r x = record s {
  kept = record s.kept {
    last = m;
    connections = swap (λ y. y.id) (handed s x r) s.kept.connections;
    requests = put (λ q. q.number) (record { number = r; asked_at = m; warm = false; took = false; phase = Given x.id }) s.kept.requests;
    settled = marked r s.kept.settled;
  };
}

-- a connection is closed, and nobody has it
abbrev pub discarding : PoolCore → Connection → PoolCore
discarding s x = with_connections s (others (λ x. x.id) x.id s.kept.connections)

abbrev pub establishing : PoolCore → ℕ → Connection → Established → PoolCore
establishing s m x how = record s {
  kept = record s.kept {
    last = m;
    connections = put (λ x. x.id) (record x { place = Held; service = how.service_id; wire = Some how.wire }) s.kept.connections;
  };
}

abbrev pub pooling : PoolCore → ℕ → Connection → Established → PoolCore
pooling s m x how = record s {
  kept = record s.kept {
    last = m;
    connections = put (λ x. x.id) (record x { place = Available; holder = None; service = how.service_id; wire = Some how.wire; since = m }) s.kept.connections;
  };
}

-- a caller meets an available connection: it is closed where it has perished, and else granted
abbrev pub met : PoolCore → Connection → Request → Option ConnectionClosedReason → PoolCore
met s x q (Some why) = discarding s x
met s x q None = granting s x q

abbrev pub meeting : PoolCore → ℕ → Connection → Request → PoolCore
meeting s m x q = met s x q (perished_now s m x)

abbrev pub met_facts : PoolCore → ℕ → Connection → Request → Option ConnectionClosedReason → List Fact
met_facts s m x q (Some why) = closed_fact s.pool s.address x.id why x.service ∷ []
met_facts s m x q None = Granted q.number s.pool x.id ∷ checked_out_fact s.pool s.address x.id (m - q.asked_at) ∷ []

abbrev pub meeting_facts : PoolCore → ℕ → Connection → Request → List Fact
meeting_facts s m x q = met_facts s m x q (perished_now s m x)

-- a request whose connection is pending ends
abbrev pub parting : PoolCore → Connection → Request → End → PoolCore
parting s x q end = record s {
  kept = record s.kept {
    connections = swap (λ x. x.id) (record x { holder = None }) s.kept.connections;
    requests = swap (λ q. q.number) (record q { phase = EndedPhase end }) s.kept.requests;
  };
}

-- the request is over, and no longer open
abbrev pub finishing : PoolCore → ℕ → Request → Phase → PoolCore
finishing s m q phase = record s {
  kept = record s.kept {
    last = m;
    requests = swap (λ q. q.number) (record q { phase = phase }) s.kept.requests;
    settled = marked q.number s.kept.settled;
  };
}

abbrev pub returning : PoolCore → ℕ → Connection → Request → PoolCore
returning s m x q = with_connections (finishing s m q Over) (put (λ x. x.id) (record x { place = Available; holder = None; since = m }) s.kept.connections)

abbrev pub dropping : PoolCore → ℕ → Connection → Request → PoolCore
dropping s m x q = with_connections (finishing s m q Over) (others (λ x. x.id) x.id s.kept.connections)

abbrev pub forgetting : PoolCore → ℕ → Connection → PoolCore
forgetting s m x = record s { kept = record s.kept { last = m; connections = others (λ x. x.id) x.id s.kept.connections } }

-- as there is a reason to close it or not
abbrev pub returning_for : PoolCore → ℕ → Connection → Request → Option ConnectionClosedReason → PoolCore
returning_for s m x q None = returning s m x q
returning_for s m x q (Some why) = dropping s m x q

abbrev pub pooling_for : PoolCore → ℕ → Connection → Established → Option ConnectionClosedReason → PoolCore
pooling_for s m x how None = pooling s m x how
pooling_for s m x how (Some why) = forgetting s m x

-- the connection of a warm request is established, and goes into the pool
abbrev pub filling_for : PoolCore → ℕ → Connection → Established → Request → Option ConnectionClosedReason → PoolCore
filling_for s m x how q o = ending (pooling_for s m x how o) q Filled

abbrev pub quitting : PoolCore → ℕ → Request → PoolCore
quitting s m q = finishing s m q (EndedPhase GaveUp)

abbrev pub leaving : PoolCore → ℕ → Connection → Request → PoolCore
leaving s m x q = with_connections (finishing s m q (EndedPhase GaveUp)) (swap (λ x. x.id) (record x { holder = None; used = Ok }) s.kept.connections)

abbrev pub handing : PoolCore → ℕ → Connection → Request → PoolCore
handing s m x q = with_connections (finishing s m q (EndedPhase GaveUp)) (put (λ x. x.id) (record x { place = Available; holder = None; since = m }) s.kept.connections)

abbrev pub losing : PoolCore → ℕ → Connection → Request → PoolCore
losing s m x q = with_connections (finishing s m q (EndedPhase GaveUp)) (others (λ x. x.id) x.id s.kept.connections)

abbrev pub handing_for : PoolCore → ℕ → Connection → Request → Option ConnectionClosedReason → PoolCore
handing_for s m x q None = handing s m x q
handing_for s m x q (Some why) = losing s m x q

-- a held connection goes to its pin, and the request of its party is over
abbrev pub to_pin : PoolCore → ℕ → Connection → Request → Phase → PoolCore
to_pin s m x q phase = with_connections (finishing s m q phase) (swap (λ y. y.id) (record x { place = Pinned; holder = None }) s.kept.connections)

-- a connection has one pin more
abbrev pub pinning : PoolCore → ℕ → Connection → PoolCore
pinning s m x = record s { kept = record s.kept { last = m; connections = swap (λ y. y.id) (record x { pins = x.pins + 1 }) s.kept.connections } }

-- a new party takes a connection from its pin
abbrev pub taking : PoolCore → ℕ → ℕ → Connection → PoolCore
taking s m r x = record s {
  kept = record s.kept {
    last = m;
    connections = swap (λ y. y.id) (record x { place = Held; holder = Some r; timeouts = timeouts_in s.kept.clears }) s.kept.connections;
    requests = put (λ q. q.number) (record { number = r; asked_at = 0; warm = false; took = true; phase = Given x.id }) s.kept.requests;
  };
}

-- a connection with one pin less
abbrev pub unpinned_once : PoolCore → Connection → Connection
unpinned_once s x = record x { pins = x.pins - 1; timeouts = timeouts_in s.kept.clears }

abbrev pub unpinning : PoolCore → ℕ → Connection → PoolCore
unpinning s m x = record s { kept = record s.kept { last = m; connections = swap (λ y. y.id) (unpinned_once s x) s.kept.connections } }

-- a connection at its pin loses the last one, and is available or closed
abbrev pub pin_ending : PoolCore → ℕ → Connection → Option ConnectionClosedReason → PoolCore
pin_ending s m x o = record s { kept = record s.kept { last = m; connections = placed m (unpinned_once s x) o s.kept.connections } }

-- a pending connection failed, and its request ends
abbrev pub failing : PoolCore → ℕ → Connection → Request → End → PoolCore
failing s m x q end = record s {
  kept = record s.kept {
    last = m;
    connections = others (λ x. x.id) x.id s.kept.connections;
    requests = swap (λ q. q.number) (record q { phase = EndedPhase end }) s.kept.requests;
  };
}

-- a request was told how it stands
abbrev pub telling : PoolCore → ℕ → PoolCore
telling s r = record s { kept = record s.kept { settled = if is_outcome (outcome_now s r) then marked r s.kept.settled else s.kept.settled } }

-- a worker was told a job
abbrev pub claiming : PoolCore → PoolCore
claiming s = record s { kept = record s.kept { claimed = on (first_unclaimed s) } }
  where
    on : Option Connection → List ℕ
    on None = s.kept.claimed
    on (Some x) = marked x.id s.kept.claimed

-- a pool is marked ready, which says nothing where it is ready or closed
abbrev pub readied_to : PoolCore → ℕ → PoolCore
readied_to s m = record s { kept = record s.kept { last = m; status = if is_ready_now s.kept.status || is_shut s.kept.status then s.kept.status else Ready } }

abbrev pub readied_facts : PoolCore → List Fact
readied_facts s = if is_ready_now s.kept.status || is_shut s.kept.status then [] else (pool_ready_fact s.pool s.address ∷ [])

-- a pool is cleared for a service, or as a whole, and is then paused
abbrev pub cleared_status : PoolCore → Option ObjectId → Error → Status
cleared_status s None error = Paused error
cleared_status s (Some t) error = s.kept.status

abbrev pub raising : PoolCore → ℕ → Option ObjectId → Error → PoolCore
raising s m service error = record s {
  kept = record s.kept {
    last = m;
    status = cleared_status s service error;
    clears = s.kept.clears ++ record { service = service; after = s.kept.created; timeout = is_timeout error.kind } ∷ [];
  };
}

-- a pool is closed: connections stay where somebody holds them or they are at their pins, and requests end that nothing was handed to
abbrev pub ended_request : PoolCore → Request → Request
ended_request s q = if unserved_in s q.phase then record q { phase = EndedPhase ClosedEnd } else q

-- of the requests the one with the number ends, where nothing was handed to it
abbrev pub ended_one : PoolCore → ℕ → List Request
ended_one s r = map (λ q. if q.number == r then ended_request s q else q) s.kept.requests

abbrev pub closing : PoolCore → ℕ → PoolCore
closing s m = record s {
  kept = record s.kept {
    last = m;
    status = Closed;
    connections = filter (λ x. stays x.place) s.kept.connections;
    requests = map (ended_request s) s.kept.requests;
  };
}

abbrev pub shut_facts : PoolCore → List Connection → List Fact
shut_facts s xs = map (λ x. closed_fact s.pool s.address x.id PoolClosedReason x.service) xs

abbrev pub off_facts : PoolCore → ℕ → List Request → List Fact
off_facts s m [] = []
off_facts s m (q ∷ qs) = over_facts s q.number q.warm (m - q.asked_at) ClosedEnd ++ off_facts s m qs

abbrev pub available_ones : PoolCore → List Connection
available_ones s = filter (λ x. is_available x.place) s.kept.connections

abbrev pub pending_ones : PoolCore → List Connection
pending_ones s = filter (λ x. is_pending x.place) s.kept.connections

abbrev pub unserved_ones : PoolCore → List Request
unserved_ones s = filter (λ q. unserved_in s q.phase) s.kept.requests

abbrev pub closing_facts : PoolCore → ℕ → List Fact
closing_facts s m = shut_facts s (available_ones s ++ pending_ones s) ++ off_facts s m (unserved_ones s) ++ pool_closed_fact s.pool s.address ∷ []
