-- What a pool's items say of when time changes something in it, and by which timer.
use Rattle.std.specs.List.{list_any}
use Rattle.std.specs.Prelude.{ℕ, ◌+◌, ◌-◌, Bool, false, ◌&&◌, ◌||◌, nat_le, nat_lt, min, max, if◌then◌else◌, is_some, List, [], ◌∷◌, length, Option, Some, None}
use Rattle.mdb_log.specs.declared.options.PoolOptions.{PoolOptions}
use Rattle.mdb_log.specs.Connections.{available_list, created_total, live_total, pending_list, since}
use Rattle.mdb_log.specs.History.{PoolItem}
use Rattle.mdb_log.specs.Requests.{asked_at, waiting}
use Rattle.mdb_log.specs.State.{max_connecting, min_size, ready, state_of}
use Rattle.mdb_pool.specs.declared.dues.Timer.{Timer}
use Rattle.mdb_pool.specs.declared.dues.Timer.TheVariants.{Expire, Maintain}
use Rattle.mdb_pool_rules.specs.Facts.{perished}

-- when the first of these requests asked
abbrev pub asked_by_first : List PoolItem → List ℕ → Option ℕ
asked_by_first xs [] = None
asked_by_first xs (r ∷ rs) = Some (asked_at xs r)

-- when the first of the callers that wait asked
abbrev pub first_asked : List PoolItem → Option ℕ
first_asked xs = asked_by_first xs (waiting xs)

-- since when the first of these connections is available
abbrev pub since_by_first : List PoolItem → List ℕ → Option ℕ
since_by_first xs [] = None
since_by_first xs (c ∷ cs) = Some (since xs c)

-- since when the available connection is available that became so first
abbrev pub first_since : List PoolItem → Option ℕ
first_since xs = since_by_first xs (available_list xs)

-- some available connection has perished at the moment m
abbrev pub some_perished : PoolOptions → ℕ → List PoolItem → Bool
some_perished o m xs = list_any (λ c. is_some (perished o m xs c)) (available_list xs)

-- maintenance creates a connection
abbrev pub wants_filling : PoolOptions → List PoolItem → Bool
wants_filling o xs = ready (state_of o xs) && (nat_lt (live_total xs) (min_size o) && (nat_lt (length (pending_list xs)) (max_connecting o) && nat_lt (created_total xs) o.limit_id))

-- the moment that is a limit above 0 after another, where moments reach so far
abbrev pub limit_after : Option ℕ → Option ℕ → Option ℕ
limit_after (Some limit) (Some began) = if nat_lt 0 limit && nat_le limit (18446744073709551615 - began) then Some (began + limit) else None
limit_after _ _ = None

-- when the first of the callers that wait has waited for too long
abbrev pub next_expiry : PoolOptions → List PoolItem → Option ℕ
next_expiry o xs = limit_after o.max_wait (first_asked xs)

-- when maintenance changes something, from the moment m on: then, or when the first of the available connections has been idle for too long
abbrev pub next_maintenance : PoolOptions → ℕ → List PoolItem → Option ℕ
next_maintenance o m xs = if wants_filling o xs || some_perished o m xs then Some m else limit_after o.max_idle_time (first_since xs)

-- there is such a moment, and it is no later than m
abbrev pub is_by : ℕ → Option ℕ → Bool
is_by m None = false
is_by m (Some n) = nat_le n m

-- the timer that has something to do at the moment m, the expiry before the maintenance, where these are due then
abbrev pub timer_by : ℕ → Option ℕ → Option ℕ → Option Timer
timer_by m expiry maintenance = if is_by m expiry then Some Expire else if is_by m maintenance then Some Maintain else None

-- the first of two moments, and m where it has passed
abbrev pub first_from : ℕ → Option ℕ → Option ℕ → Option ℕ
first_from m None None = None
first_from m (Some a) None = Some (max m a)
first_from m None (Some b) = Some (max m b)
first_from m (Some a) (Some b) = Some (max m (min a b))

-- the timer that changes something in the pool at the moment m
abbrev pub timer_at : PoolOptions → ℕ → List PoolItem → Option Timer
timer_at o m xs = timer_by m (next_expiry o xs) (next_maintenance o m xs)

-- the first moment from m on at which a timer changes something in the pool
abbrev pub next_due : PoolOptions → ℕ → List PoolItem → Option ℕ
next_due o m xs = first_from m (next_expiry o xs) (next_maintenance o m xs)
