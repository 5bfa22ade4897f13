-- The facts that an accepted act makes in its pool, before the serving.
use Rattle.std.specs.Prelude.{ℕ, zero, suc, ◌+◌, ◌-◌, Bool, false, ◌&&◌, if◌then◌else◌, ◌==◌, nat_lt, nat_le, is_some, List, [], ◌∷◌, ◌++◌, length, map, filter, Option, Some, None, codes}
use Rattle.mdb_base.specs.declared.address.ServerAddress.{ServerAddress}
use Rattle.mdb_base.specs.declared.object_id.ObjectId.{ObjectId}
use Rattle.mdb_base.specs.declared.error.Error.{Error}
use Rattle.mdb_base.specs.declared.error.ErrorKind.TheVariants.{Other}
use Rattle.mdb_base.specs.Errors.{is_timeout}
use Rattle.mdb_events.specs.declared.cmap.CmapEvent.TheVariants.{PoolReady, PoolCleared, PoolClosed, ConnectionCreated, ConnectionReady, ConnectionClosed, ConnectionCheckoutStarted, ConnectionCheckoutFailed, ConnectionCheckedOut, ConnectionCheckedIn}
use Rattle.mdb_events.specs.declared.reasons.ConnectionClosedReason.{ConnectionClosedReason}
use Rattle.mdb_events.specs.declared.reasons.ConnectionClosedReason.TheVariants.{Stale, Idle, Error as ErrorReason, Dropped as DroppedReason, PoolClosed as PoolClosedReason}
use Rattle.mdb_events.specs.declared.reasons.ConnectionCheckoutFailedReason.{ConnectionCheckoutFailedReason}
use Rattle.mdb_events.specs.declared.reasons.ConnectionCheckoutFailedReason.TheVariants.{Timeout, ConnectionError}
use Rattle.mdb_events.specs.declared.fact.Fact.{Fact}
use Rattle.mdb_events.specs.declared.fact.Fact.TheVariants.{Pool, Ended, Raised}
use Rattle.mdb_events.specs.declared.end.End.{End}
use Rattle.mdb_events.specs.declared.end.End.TheVariants.{Cleared, Failed as FailedEnd, Closed, Filled, GaveUp, TimedOut}
use Rattle.mdb_log.specs.declared.options.PoolOptions.{PoolOptions}
use Rattle.mdb_log.specs.declared.step.Act.{Act}
use Rattle.mdb_log.specs.declared.step.Act.TheVariants.{Request, Warm, GiveUp, Established, Failed, Return, Unpin, Maintain, Expire, Ready, Clear, Close}
use Rattle.mdb_log.specs.History.{PoolItem, after_facts}
use Rattle.mdb_log.specs.Connections.{live_total, created_total, created_at, pending_list, holding, pins, is_pinned, granted_to, available_list, known_service, last_use, is_errored, is_dropped}
use Rattle.mdb_log.specs.Requests.{requests, queued, waiting, is_warm, asked_at, end_of, is_unserved}
use Rattle.mdb_log.specs.State.{State, is_new, is_ready, is_paused, is_closed, state_of, ready, is_stale, is_idle, min_size, max_connecting}

-- the error of a request to a pool that was never ready
abbrev pub new_pool_error : Error
new_pool_error = record { kind = Other; labels = []; topology_version = None; message = codes "check out attempted from new pool" }

-- Why a connection that was just checked in is closed: it is errored, else stale, else its last use dropped it.
abbrev pub close_reason : PoolOptions → List PoolItem → ℕ → Option ConnectionClosedReason
close_reason o xs c =
    if is_errored xs c then Some ErrorReason
    else (if is_stale o xs c then Some Stale
    else (if is_dropped (last_use xs c) then Some DroppedReason
    else None))

-- Why an available connection that is met at the moment m is closed: it is stale, else idle.
abbrev pub perished : PoolOptions → ℕ → List PoolItem → ℕ → Option ConnectionClosedReason
perished o m xs c =
    if is_stale o xs c then Some Stale
    else (if is_idle o m xs c then Some Idle
    else None)

-- the moment n plus the limit of waiting, where there is one above 0, is at most the moment m
abbrev pub is_over : Option ℕ → ℕ → ℕ → Bool
is_over None n m = false
is_over (Some limit) n m = nat_lt 0 limit && nat_le (n + limit) m

-- Overdue: the callers that wait, and have waited for the limit at the moment m. In the order of their steps.
abbrev pub overdue : PoolOptions → ℕ → List PoolItem → List ℕ
overdue o m xs = filter (λ r. is_over o.max_wait (asked_at xs r) m) (waiting xs)

-- why the checkout of a caller failed that ended so
abbrev pub failure_of : End → ConnectionCheckoutFailedReason
failure_of TimedOut = Timeout
failure_of _ = ConnectionError

-- The events of the pool p at the address a.
module _ (p : ℕ) (a : ServerAddress) where
  abbrev pub created_fact : ℕ → Fact
  created_fact c = Pool p (ConnectionCreated (record { address = a; connection_id = c }))

  abbrev pub ready_fact : ℕ → ℕ → Fact
  ready_fact c took = Pool p (ConnectionReady (record { address = a; connection_id = c; duration = took }))

  abbrev pub closed_fact : ℕ → ConnectionClosedReason → Option ObjectId → Fact
  closed_fact c why service = Pool p (ConnectionClosed (record { address = a; connection_id = c; reason = why; service_id = service }))

  abbrev pub started_fact : Fact
  started_fact = Pool p (ConnectionCheckoutStarted (record { address = a }))

  abbrev pub checked_out_fact : ℕ → ℕ → Fact
  checked_out_fact c took = Pool p (ConnectionCheckedOut (record { address = a; connection_id = c; duration = took }))

  abbrev pub checkout_failed_fact : ConnectionCheckoutFailedReason → ℕ → Fact
  checkout_failed_fact why took = Pool p (ConnectionCheckoutFailed (record { address = a; reason = why; duration = took }))

  -- closed where there is a reason; a close tells the service of a connection that was established
  abbrev pub closes : List PoolItem → ℕ → Option ConnectionClosedReason → List Fact
  closes xs c None = []
  closes xs c (Some why) = closed_fact c why (known_service xs c) ∷ []

  abbrev pub checked_in_fact : ℕ → Fact
  checked_in_fact c = Pool p (ConnectionCheckedIn (record { address = a; connection_id = c }))

  abbrev pub pool_ready_fact : Fact
  pool_ready_fact = Pool p (PoolReady (record { address = a }))

  abbrev pub pool_closed_fact : Fact
  pool_closed_fact = Pool p (PoolClosed (record { address = a }))

  abbrev pub cleared_fact : Option ObjectId → Error → Fact
  cleared_fact service error = Pool p (PoolCleared (record { address = a; service_id = service; interrupt_in_use_connections = is_timeout error.kind }))

-- Durations run from the creation or the request to the moment m.
module _ (p : ℕ) (a : ServerAddress) (m : ℕ) where
  -- the end of a request; the checkout of a caller fails right after it
  abbrev pub end_facts : List PoolItem → ℕ → End → List Fact
  end_facts xs r end =
      if is_warm xs r
      then (Ended r end ∷ [])
      else (Ended r end ∷ checkout_failed_fact p a (failure_of end) (m - asked_at xs r) ∷ [])

  abbrev pub all_ends : List PoolItem → End → List ℕ → List Fact
  all_ends xs end [] = []
  all_ends xs end (r ∷ rs) = end_facts xs r end ++ all_ends xs end rs

-- Check-ins. The connection may be closed right after it; on a closed pool there is the close alone.
module _ (p : ℕ) (a : ServerAddress) (o : PoolOptions) where
  abbrev pub check_in : List PoolItem → ℕ → List Fact
  check_in xs c = on (state_of o xs)
    where
      on : State → List Fact
      on is_closed = closed_fact p a c PoolClosedReason (known_service xs c) ∷ []
      on _ = checked_in_fact p a c ∷ closes p a xs c (close_reason o xs c)

  -- a connection that comes back goes to its pin, or is checked in
  abbrev pub come_back : List PoolItem → Option ℕ → List Fact
  come_back xs None = []
  come_back xs (Some c) = if nat_lt 0 (pins xs c) then [] else check_in xs c

-- From here on m is the moment of the step.
module _ (p : ℕ) (a : ServerAddress) (o : PoolOptions) (m : ℕ) where
  -- an established connection goes to its caller; where that one gave up, and for a warm request, it is checked in; in the background nothing more is said of it
  abbrev pub hand_over : List PoolItem → ℕ → Option ℕ → List Fact
  hand_over xs c None = []
  hand_over xs c (Some r) =
      if is_some (end_of xs r) then check_in p a o xs c
      else (if is_warm xs r then (check_in p a o xs c ++ Ended r Filled ∷ [])
      else (checked_out_fact p a c (m - asked_at xs r) ∷ []))

  -- the requester of a connection that failed ends, unless it has ended
  abbrev pub fail_requester : List PoolItem → Error → Option ℕ → List Fact
  fail_requester xs error None = []
  fail_requester xs error (Some r) = if is_some (end_of xs r) then [] else end_facts p a m xs r (FailedEnd error)

  -- maintenance closes the available connections that have perished, oldest first
  abbrev pub sweep : List PoolItem → List ℕ → List Fact
  sweep xs [] = []
  sweep xs (c ∷ cs) = closes p a xs c (perished o m xs c) ++ sweep xs cs

  -- and then creates connections in the background while there are too few, at most n of them
  abbrev pub fill : ℕ → List PoolItem → List Fact
  fill zero xs = []
  fill (suc n) xs =
      if ready (state_of o xs) && (nat_lt (live_total xs) (min_size o) && (nat_lt (length (pending_list xs)) (max_connecting o) && nat_lt (created_total xs) o.limit_id))
      then (created_fact p a (created_total xs + 1) ∷ fill n (after_facts p m (created_fact p a (created_total xs + 1) ∷ []) xs))
      else []

  -- a clear of the whole pool ends the queued requests of a ready one; a clear for a service ends none
  abbrev pub clear_facts : List PoolItem → Option ObjectId → Error → List Fact
  clear_facts xs service error = on (state_of o xs) service
    where
      on : State → Option ObjectId → List Fact
      on is_closed s = []
      on is_ready None = Raised p service error ∷ cleared_fact p a service error ∷ all_ends p a m xs (Cleared error) (queued xs)
      on _ (Some s) = Raised p service error ∷ cleared_fact p a service error ∷ []
      on _ None = Raised p service error ∷ []

  -- a close ends the available and then the pending connections, and all requests that nothing was handed to
  abbrev pub close_facts : List PoolItem → List Fact
  close_facts xs = on (state_of o xs)
    where
      on : State → List Fact
      on is_closed = []
      on _ =
          map (λ c. closed_fact p a c PoolClosedReason (known_service xs c)) (available_list xs ++ pending_list xs)
          ++ all_ends p a m xs Closed (filter (is_unserved xs) (requests xs))
          ++ pool_closed_fact p a ∷ []

  -- a request to a new or paused pool ends at once
  abbrev pub turned_away : List PoolItem → ℕ → List Fact
  turned_away xs r = on (state_of o xs)
    where
      on : State → List Fact
      on is_new = end_facts p a m xs r (Cleared new_pool_error)
      on (is_paused error) = end_facts p a m xs r (Cleared error)
      on _ = []

  -- a new or paused pool becomes ready
  abbrev pub readied : List PoolItem → List Fact
  readied xs = on (state_of o xs)
    where
      on : State → List Fact
      on is_new = pool_ready_fact p a ∷ []
      on (is_paused error) = pool_ready_fact p a ∷ []
      on _ = []

  -- the facts of an act; xs is what the pool knew, and ys what it knows with the act
  abbrev pub act_facts : List PoolItem → List PoolItem → Act → List Fact
  act_facts xs ys (Request r b) = started_fact p a ∷ turned_away ys r
  act_facts xs ys (Warm r b) = turned_away ys r
  act_facts xs ys (GiveUp r) = if is_some (end_of xs r) then [] else (Ended r GaveUp ∷ come_back p a o ys (holding xs r))
  act_facts xs ys (Established q c how) = ready_fact p a c (m - created_at ys c) ∷ hand_over ys c (granted_to ys c)
  act_facts xs ys (Failed q c at error) = closed_fact p a c ErrorReason (known_service ys c) ∷ fail_requester ys error (granted_to ys c)
  act_facts xs ys (Return r used) = come_back p a o ys (holding xs r)
  act_facts xs ys (Unpin q c) = if is_pinned xs c && (pins ys c == 0) then check_in p a o ys c else []
  act_facts xs ys (Maintain b) = let closed : List Fact = sweep ys (available_list ys) in closed ++ fill (min_size o) (after_facts p m closed ys)
  act_facts xs ys (Expire b) = all_ends p a m ys TimedOut (overdue o m ys)
  act_facts xs ys (Ready q) = readied ys
  act_facts xs ys (Clear q service error) = clear_facts ys service error
  act_facts xs ys (Close q) = close_facts ys
  act_facts xs ys _ = []
