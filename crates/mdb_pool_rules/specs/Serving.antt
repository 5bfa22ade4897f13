-- The serving of a pool's queue, which follows each accepted step.
use Rattle.std.specs.Prelude.{◌≡◌, ℕ, zero, suc, ◌+◌, ◌-◌, Bool, not, ◌&&◌, if◌then◌else◌, nat_lt, List, [], ◌∷◌, ◌++◌, length, Option, Some, None}
use Rattle.mdb_base.specs.declared.address.ServerAddress.{ServerAddress}
use Rattle.mdb_events.specs.declared.reasons.ConnectionClosedReason.{ConnectionClosedReason}
use Rattle.mdb_events.specs.declared.fact.Fact.{Fact}
use Rattle.mdb_events.specs.declared.fact.Fact.TheVariants.{Granted, Ended}
use Rattle.mdb_events.specs.declared.end.End.TheVariants.{Warmed}
use Rattle.mdb_log.specs.declared.options.PoolOptions.{PoolOptions}
use Rattle.mdb_log.specs.History.{PoolItem, after_facts}
use Rattle.mdb_log.specs.Connections.{live_total, created_total, pending_list, available_list, known_service}
use Rattle.mdb_log.specs.Requests.{queued, is_warm, asked_at}
use Rattle.mdb_log.specs.State.{state_of, ready, min_size, max_size, max_connecting, may_create}
use Rattle.mdb_pool_rules.specs.Facts.{created_fact, closed_fact, checked_out_fact, perished}

-- the last of the list
abbrev pub last_of : List ℕ → Option ℕ
last_of [] = None
last_of (c ∷ cs) = on (last_of cs)
  where
    on : Option ℕ → Option ℕ
    on None = Some c
    on (Some d) = Some d

-- warm requests are to get connections: too few are live, and neither the maximum nor the ids stand against one more
abbrev pub wants_connection : PoolOptions → List PoolItem → Bool
wants_connection o xs = nat_lt (live_total xs) (min_size o) && (nat_lt (live_total xs) (max_size o) && nat_lt (created_total xs) o.limit_id)

-- nothing but the number of pending connections hinders the warm request
abbrev pub is_blocked : PoolOptions → List PoolItem → ℕ → Bool
is_blocked o xs r = is_warm xs r && (wants_connection o xs && not (nat_lt (length (pending_list xs)) (max_connecting o)))

-- the first of the requests that is no blocked warm one
abbrev pub candidate : PoolOptions → List PoolItem → List ℕ → Option ℕ
candidate o xs [] = None
candidate o xs (r ∷ rs) = if is_blocked o xs r then candidate o xs rs else Some r

-- a new connection for the request
abbrev pub creation : ℕ → ServerAddress → List PoolItem → ℕ → List Fact
creation p a xs r = created_fact p a (created_total xs + 1) ∷ Granted r p (created_total xs + 1) ∷ []

-- a warm candidate gets a new connection, or ends as none is wanted
abbrev pub warm_move : ℕ → ServerAddress → PoolOptions → List PoolItem → ℕ → List Fact
warm_move p a o xs r = if wants_connection o xs then creation p a xs r else (Ended r Warmed ∷ [])

module _ (p : ℕ) (a : ServerAddress) (o : PoolOptions) (m : ℕ) where
  -- the available connection that a caller meets is closed where it has perished, and else granted
  abbrev pub meet : List PoolItem → ℕ → ℕ → Option ConnectionClosedReason → List Fact
  meet xs r c (Some why) = closed_fact p a c why (known_service xs c) ∷ []
  meet xs r c None = Granted r p c ∷ checked_out_fact p a c (m - asked_at xs r) ∷ []

  -- a caller meets the available connection that came back last; with none left one is created, where that may be
  abbrev pub caller_move : List PoolItem → ℕ → Option ℕ → List Fact
  caller_move xs r (Some c) = meet xs r c (perished o m xs c)
  caller_move xs r None = if may_create o xs then creation p a xs r else []

  abbrev pub move_for : List PoolItem → Option ℕ → List Fact
  move_for xs None = []
  move_for xs (Some r) = if is_warm xs r then warm_move p a o xs r else caller_move xs r (last_of (available_list xs))

  -- the next move, empty where there is none
  abbrev pub next_move : List PoolItem → List Fact
  next_move xs = if ready (state_of o xs) then move_for xs (candidate o xs (queued xs)) else []

  -- at most n moves
  abbrev pub serve : ℕ → List PoolItem → List Fact
  serve zero xs = []
  serve (suc n) xs = let facts : List Fact = next_move xs in facts ++ serve n (after_facts p m facts xs)

  -- Moves until none is left: each takes a queued request or an available connection away.
  abbrev pub serving : List PoolItem → List Fact
  serving xs = serve (length (queued xs) + length (available_list xs)) xs

-- the pool has no next move, whatever its number, its address and the moment
abbrev pub IsServed : PoolOptions → List PoolItem → Type 0
IsServed o xs = (p : ℕ) (a : ServerAddress) (n : ℕ) → next_move p a o n xs ≡ []
