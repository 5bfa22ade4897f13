-- What any history, newest item first, says of requests: a number that was asked twice was asked by the first accepted step.
use Rattle.std.specs.Prelude.{ℕ, Bool, true, false, not, ◌&&◌, ◌||◌, if◌then◌else◌, ◌==◌, List, [], ◌∷◌, ◌++◌, filter, Option, Some, None}
use Rattle.mdb_events.specs.declared.fact.Fact.TheVariants.{Granted, Ended}
use Rattle.mdb_events.specs.declared.end.End.{End}
use Rattle.mdb_log.specs.declared.step.Act.{Act}
use Rattle.mdb_log.specs.declared.step.Act.TheVariants.{Request, Warm}
use Rattle.mdb_log.specs.History.{Item, did, made, open_pool, is_number}
use Rattle.mdb_log.specs.Connections.{has}
use Rattle.mdb_log.specs.Requests.{some_act, was_asked}

-- the requests of all pools, in the order of their first steps
abbrev pub requests : List Item → List ℕ
requests [] = []
requests (did step reply ∷ h) = with_request step.act (requests h)
  where
    with_one : ℕ → List ℕ → List ℕ
    with_one r rs = if has r rs then rs else (rs ++ r ∷ [])

    with_request : Act → List ℕ → List ℕ
    with_request (Request r a) rs = with_one r rs
    with_request (Warm r a) rs = with_one r rs
    with_request _ rs = rs
requests (made m fact ∷ h) = requests h

-- the pool that the step asks: the one that is open at its address
abbrev pub asked_now : List Item → Act → Option ℕ
asked_now h (Request r a) = open_pool h a
asked_now h (Warm r a) = open_pool h a
asked_now h _ = None

-- The pool of a request: the one that was open at its address at its first step.
abbrev pub pool_of : List Item → ℕ → Option ℕ
pool_of [] r = None
pool_of (did step reply ∷ h) r = if some_act was_asked h r then pool_of h r else (if was_asked step.act r then asked_now h step.act else None)
pool_of (made m fact ∷ h) r = pool_of h r

abbrev pub warms : Act → Bool
warms (Warm r a) = true
warms _ = false

-- the request is a warm one: its first step was
abbrev pub is_warm : List Item → ℕ → Bool
is_warm [] r = false
is_warm (did step reply ∷ h) r = if some_act was_asked h r then is_warm h r else (was_asked step.act r && warms step.act)
is_warm (made m fact ∷ h) r = is_warm h r

-- some fact grants the request a connection
abbrev pub is_granted : List Item → ℕ → Bool
is_granted [] r = false
is_granted (made m (Granted q p c) ∷ h) r = (q == r) || is_granted h r
is_granted (_ ∷ h) r = is_granted h r

-- how the request ended
abbrev pub end_of : List Item → ℕ → Option End
end_of [] r = None
end_of (made m (Ended q end) ∷ h) r = if q == r then Some end else end_of h r
end_of (_ ∷ h) r = end_of h r

abbrev pub is_ended : List Item → ℕ → Bool
is_ended [] r = false
is_ended (made m (Ended q end) ∷ h) r = (q == r) || is_ended h r
is_ended (_ ∷ h) r = is_ended h r

-- Queued: the requests of the pool that are neither granted nor ended, in the order of their steps.
abbrev pub queued : ℕ → List Item → List ℕ
queued p h = filter (λ r. is_number (pool_of h r) p && not (is_granted h r || is_ended h r)) (requests h)

-- Waiting: the callers among them.
abbrev pub waiting : ℕ → List Item → List ℕ
waiting p h = filter (λ r. not (is_warm h r)) (queued p h)
