-- Which item may come after which items of a pool: what every history of a pool keeps, by cases. The items are newest first.
use Rattle.std.specs.Prelude.{ℕ, ◌≡◌, ◌+◌, ◌<◌, Bool, true, false, not, ◌&&◌, ◌||◌, ◌==◌, is_some, List, [], ◌∷◌, Option, Some, None, ⊤}
use Rattle.std.specs.List.{list_any}
use Rattle.mdb_events.specs.declared.end.End.{End}
use Rattle.mdb_events.specs.declared.end.End.TheVariants.{Cleared, Failed, Closed, Warmed, Filled, GaveUp, TimedOut}
use Rattle.mdb_log.specs.History.{PoolItem, asked, warmed, gave_up, returned, pinned_by, established, failed, replicated, taken, unpinned, created, closed, checked_in, granted, ended, raised, pool_created, pool_ready, pool_closed, given, has_asked, has_party}
use Rattle.mdb_log.specs.Connections.{has, is_live, created_total, pending_list, available_list, parties, holding, pins, is_pinned}
use Rattle.mdb_log.specs.Requests.{queued, waiting, is_warm, end_of}
use Rattle.mdb_log.specs.Legal.{IsNext}

-- the pool was closed
abbrev pub was_closed : List PoolItem → Bool
was_closed [] = false
was_closed (pool_closed ∷ xs) = true
was_closed (_ ∷ xs) = was_closed xs

-- the last item created the connection
abbrev pub just_created : List PoolItem → ℕ → Bool
just_created (created d m ∷ xs) c = d == c
just_created _ c = false

-- the last item but for a clear and ends says that it could not be established: such a failure may clear the pool before its connection is closed
abbrev pub just_failed : List PoolItem → ℕ → Bool
just_failed (failed d service ∷ xs) c = d == c
just_failed (raised service error ∷ xs) c = just_failed xs c
just_failed (ended r end ∷ xs) c = just_failed xs c
just_failed _ c = false

-- the last item is the give-up of the party
abbrev pub just_gave_up : List PoolItem → ℕ → Bool
just_gave_up (gave_up q ∷ xs) r = q == r
just_gave_up _ r = false

-- the party gave up or returned
abbrev pub has_left : List PoolItem → ℕ → Bool
has_left [] r = false
has_left (gave_up q ∷ xs) r = (q == r) || has_left xs r
has_left (returned q used ∷ xs) r = (q == r) || has_left xs r
has_left (_ ∷ xs) r = has_left xs r

-- In use: a caller holds the connection, not a warm request, and it isn't the one that just failed, whose request is about to end.
-- That no one holds a connection that is closed would be too much: by created 1, granted 2 1, failed 1 the request 2 holds it, for it ends only after closed 1; and a warm request ends as filled only after the check-in.
abbrev pub in_use : List PoolItem → ℕ → Bool
in_use xs c = not (has c (pending_list xs)) && (not (just_failed xs c) && list_any (λ r. not (is_warm xs r)) (parties xs c))

-- the connection that the request has was closed while it waited for it; so it is not pending any more when the request ends
abbrev pub lost : List PoolItem → ℕ → Bool
lost xs r = on (given xs r)
  where
    on : Option ℕ → Bool
    on None = false
    on (Some c) = not (is_live xs c)

-- the connection that the request has was established
abbrev pub is_filled : List PoolItem → ℕ → Bool
is_filled xs r = on (given xs r)
  where
    on : Option ℕ → Bool
    on None = false
    on (Some c) = not (has c (pending_list xs))

-- A party holds a connection, which lives. Between a pool's close and the ends of its requests the pending connections are held and closed.
pub record Holds (xs : List PoolItem) (r : ℕ) : Type 0 where
  pub connection : ℕ
  pub holds : holding xs r ≡ Some connection
  pub lives : is_live xs connection ≡ true

-- A request or a warm one is made by a new party, and not at a closed pool.
pub record MayAsk (xs : List PoolItem) (r : ℕ) : Type 0 where
  pub fresh : has_party xs r ≡ false
  pub unshut : was_closed xs ≡ false

-- Who asked gives up, and neither gave up nor returned before.
pub record MayGiveUp (xs : List PoolItem) (r : ℕ) : Type 0 where
  pub asked_for : has_asked xs r ≡ true
  pub stays : has_left xs r ≡ false

-- A new party takes a connection that lives, is at its pin, and that nobody has.
pub record MayTake (xs : List PoolItem) (r c : ℕ) : Type 0 where
  pub fresh : has_party xs r ≡ false
  pub lives : is_live xs c ≡ true
  pub pinned : is_pinned xs c ≡ true
  pub free : parties xs c ≡ []

-- A connection is created with the next id, and not by a closed pool.
pub record MayCreate (xs : List PoolItem) (c : ℕ) : Type 0 where
  pub next : c ≡ created_total xs + 1
  pub unshut : was_closed xs ≡ false

-- A connection is closed that lives, that no caller uses, and that has no pin.
pub record MayClose (xs : List PoolItem) (c : ℕ) : Type 0 where
  pub lives : is_live xs c ≡ true
  pub unused : in_use xs c ≡ false
  pub unpinned : pins xs c ≡ 0

-- A connection is checked in that lives, that no caller uses, that has no pin, and that is neither pending nor available already; and not by a closed pool.
pub record MayCheckIn (xs : List PoolItem) (c : ℕ) : Type 0 where
  pub lives : is_live xs c ≡ true
  pub unused : in_use xs c ≡ false
  pub unpinned : pins xs c ≡ 0
  pub ready : has c (pending_list xs) ≡ false
  pub away : has c (available_list xs) ≡ false
  pub unshut : was_closed xs ≡ false

-- A connection is granted that is available or was just created and that nobody has, to the caller that waits longest or to a queued warm request; to a warm request only one that was just created; and not by a closed pool.
pub record MayGrant (xs : List PoolItem) (r c : ℕ) : Type 0 where
  pub next : IsNext xs r
  pub there : just_created xs c || has c (available_list xs) ≡ true
  pub free : parties xs c ≡ []
  pub warmly : is_warm xs r ≡ true → just_created xs c ≡ true
  pub unshut : was_closed xs ≡ false

-- A pool is closed once; then none of its connections is pending or available, and no request is queued.
pub record MayShut (xs : List PoolItem) : Type 0 where
  pub unshut : was_closed xs ≡ false
  pub none_pending : pending_list xs ≡ []
  pub none_available : available_list xs ≡ []
  pub none_queued : queued xs ≡ []

-- How a request ends: cleared or closed while it is queued, after too long a wait as a caller, as a warm one that isn't wanted or whose connection is established, with its connection, or right at its give-up.
abbrev pub EndsSo : List PoolItem → ℕ → End → Type 0
EndsSo xs r (Cleared error) = has r (queued xs) ≡ true
EndsSo xs r TimedOut = has r (waiting xs) ≡ true
EndsSo xs r Warmed = has r (queued xs) && is_warm xs r ≡ true
EndsSo xs r Filled = is_filled xs r && is_warm xs r ≡ true
EndsSo xs r (Failed error) = lost xs r ≡ true
EndsSo xs r Closed = has r (queued xs) || lost xs r ≡ true
EndsSo xs r GaveUp = just_gave_up xs r && (has r (queued xs) || is_some (given xs r)) ≡ true

-- A request ends that was made, that has not ended, and that ends as this end says.
pub record MayEnd (xs : List PoolItem) (r : ℕ) (end : End) : Type 0 where
  pub asked_for : has_asked xs r ≡ true
  pub unended : end_of xs r ≡ None
  pub so : EndsSo xs r end

-- The item may come after the items.
abbrev pub IsSound : List PoolItem → PoolItem → Type 0
-- parties: new ones ask and take; who asked gives up; who holds a connection returns and pins it
IsSound xs (asked r m) = MayAsk xs r
IsSound xs (warmed r m) = MayAsk xs r
IsSound xs (gave_up r) = MayGiveUp xs r
IsSound xs (returned r used) = Holds xs r
IsSound xs (pinned_by r) = Holds xs r
-- connections: a pending one is established or fails; one that has a pin gets more and loses some
IsSound xs (established c how m) = has c (pending_list xs) ≡ true
IsSound xs (failed c service) = has c (pending_list xs) ≡ true
IsSound xs (replicated c) = 0 < pins xs c
IsSound xs (taken r c) = MayTake xs r c
IsSound xs (unpinned c) = 0 < pins xs c
-- facts
IsSound xs (created c m) = MayCreate xs c
IsSound xs (closed c) = MayClose xs c
IsSound xs (checked_in c m) = MayCheckIn xs c
IsSound xs (granted r c) = MayGrant xs r c
IsSound xs (ended r end) = MayEnd xs r end
-- the pool: created first of all, and once closed neither cleared nor ready again, nor closed again
IsSound xs (raised service error) = was_closed xs ≡ false
IsSound xs pool_created = xs ≡ []
IsSound xs pool_ready = was_closed xs ≡ false
IsSound xs pool_closed = MayShut xs

-- Sound: each of the items may come after those before it.
abbrev pub Sound : List PoolItem → Type 0
Sound [] = ⊤
Sound (x ∷ xs) = IsSound xs x × Sound xs
