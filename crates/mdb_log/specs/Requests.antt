-- What a history says of requests: who waits, how they ended, and what was told.
use Rattle.std.specs.Prelude.{ℕ, ◌+◌, Bool, true, false, not, ◌&&◌, ◌||◌, if◌then◌else◌, ◌==◌, is_some, List, [], ◌∷◌, ◌++◌, filter, Option, Some, None}
use Rattle.mdb_events.specs.declared.end.End.{End}
use Rattle.mdb_log.specs.declared.step.Act.{Act}
use Rattle.mdb_log.specs.declared.step.Act.TheVariants.{Request, Warm, Collect, GiveUp, Return, Take}
use Rattle.mdb_log.specs.declared.reply.Reply.{Reply}
use Rattle.mdb_log.specs.declared.reply.Reply.TheVariants.{Pooled, Establishing, Waiting, Ended, Job}
use Rattle.mdb_log.specs.History.{Item, did, made, PoolItem, asked, warmed, granted, ended, without, given}
use Rattle.mdb_log.specs.Connections.{has, pending_list}

-- the requests, in the order of their steps
abbrev pub requests : List PoolItem → List ℕ
requests [] = []
requests (asked r n ∷ xs) = requests xs ++ r ∷ []
requests (warmed r n ∷ xs) = requests xs ++ r ∷ []
requests (_ ∷ xs) = requests xs

-- Queued: asked, and neither granted nor ended. In the order of their steps.
abbrev pub queued : List PoolItem → List ℕ
queued [] = []
queued (asked r m ∷ xs) = queued xs ++ r ∷ []
queued (warmed r m ∷ xs) = queued xs ++ r ∷ []
queued (granted r c ∷ xs) = without r (queued xs)
queued (ended r end ∷ xs) = without r (queued xs)
queued (_ ∷ xs) = queued xs

-- the request is a warm one, which only fills the pool
abbrev pub is_warm : List PoolItem → ℕ → Bool
is_warm [] r = false
is_warm (asked q m ∷ xs) r = if q == r then false else is_warm xs r
is_warm (warmed q m ∷ xs) r = if q == r then true else is_warm xs r
is_warm (_ ∷ xs) r = is_warm xs r

-- Waiting: the callers among the queued.
abbrev pub waiting : List PoolItem → List ℕ
waiting xs = filter (λ r. not (is_warm xs r)) (queued xs)

-- the moment of the request
abbrev pub asked_at : List PoolItem → ℕ → ℕ
asked_at [] r = 0
asked_at (asked q m ∷ xs) r = if q == r then m else asked_at xs r
asked_at (warmed q m ∷ xs) r = if q == r then m else asked_at xs r
asked_at (_ ∷ xs) r = asked_at xs r

-- how the request ended
abbrev pub end_of : List PoolItem → ℕ → Option End
end_of [] r = None
end_of (ended q end ∷ xs) r = if q == r then Some end else end_of xs r
end_of (_ ∷ xs) r = end_of xs r

-- the request is queued, or its connection is pending and it has not ended
abbrev pub is_unserved : List PoolItem → ℕ → Bool
is_unserved xs r = has r (queued xs) || (not (is_some (end_of xs r)) && waits (given xs r))
  where
    waits : Option ℕ → Bool
    waits None = false
    waits (Some c) = has c (pending_list xs)

-- The outcome of a request: how it ended, else the connection that it has, pending or not, else it waits.
abbrev pub outcome_of : ℕ → List PoolItem → ℕ → Reply
outcome_of p xs r = on (end_of xs r) (given xs r)
  where
    on : Option End → Option ℕ → Reply
    on (Some end) c = Ended end
    on None None = Waiting
    on None (Some c) = if has c (pending_list xs) then Establishing p c else Pooled p c

-- the reply to the step tells how the request stands
abbrev pub asks_how : Act → ℕ → Bool
asks_how (Request q a) r = q == r
asks_how (Warm q a) r = q == r
asks_how (Collect q) r = q == r
asks_how _ r = false

-- the reply says that the request has a connection, or that it ended
abbrev pub is_outcome : Reply → Bool
is_outcome (Pooled p c) = true
is_outcome (Ended end) = true
is_outcome _ = false

-- how often the outcome was told
abbrev pub told : List Item → ℕ → ℕ
told [] r = 0
told (did step reply ∷ h) r = if asks_how step.act r && is_outcome reply then told h r + 1 else told h r
told (made m fact ∷ h) r = told h r

abbrev pub was_asked : Act → ℕ → Bool
was_asked (Request q a) r = q == r
was_asked (Warm q a) r = q == r
was_asked _ r = false

-- the step uses up the number of the party
abbrev pub names_party : Act → ℕ → Bool
names_party (Request q a) r = q == r
names_party (Warm q a) r = q == r
names_party (Take q p c) r = q == r
names_party _ r = false

abbrev pub leaves : Act → ℕ → Bool
leaves (GiveUp q) r = q == r
leaves (Return q used) r = q == r
leaves _ r = false

-- some accepted step passes the test
abbrev pub some_act : (Act → ℕ → Bool) → List Item → ℕ → Bool
some_act test [] r = false
some_act test (did step reply ∷ h) r = test step.act r || some_act test h r
some_act test (made m fact ∷ h) r = some_act test h r

-- Open: asked, its outcome not told, not given up and not returned.
abbrev pub is_open : List Item → ℕ → Bool
is_open h r = some_act was_asked h r && ((told h r == 0) && not (some_act leaves h r))

-- Claimed: some claim was told to establish the connection.
abbrev pub is_claimed : List Item → ℕ → ℕ → Bool
is_claimed [] p c = false
is_claimed (did step (Job q d) ∷ h) p c = ((q == p) && (d == c)) || is_claimed h p c
is_claimed (_ ∷ h) p c = is_claimed h p c

-- the step tells the outcome of the request, or its caller leaves
abbrev pub settles : Act → Reply → ℕ → Bool
settles act reply r = (asks_how act r && is_outcome reply) || leaves act r

-- the reply is the job of the connection
abbrev pub is_job : ℕ → Reply → ℕ → Bool
is_job p (Job q c) d = (q == p) && (c == d)
is_job p _ d = false
