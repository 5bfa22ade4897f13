-- Worked examples, computed.
use Rattle.std.specs.Prelude.{ℕ, ◌≡◌, true, false, List, [], ◌∷◌, ◌++◌, Some, None, refl, pos}
use Rattle.mdb_base.specs.declared.address.ServerAddress.{ServerAddress}
use Rattle.mdb_base.specs.declared.object_id.ObjectId.{ObjectId}
use Rattle.mdb_base.specs.declared.error.Error.{Error}
use Rattle.mdb_base.specs.declared.error.ErrorKind.TheVariants.{Network, NetworkTimeout}
use Rattle.mdb_events.specs.declared.cmap.CmapEvent.TheVariants.{PoolCreated, PoolCleared, ConnectionCreated, ConnectionReady, ConnectionClosed, ConnectionCheckoutStarted, ConnectionCheckoutFailed, ConnectionCheckedOut, ConnectionCheckedIn}
use Rattle.mdb_events.specs.declared.reasons.ConnectionClosedReason.TheVariants.{Stale, Idle, Error as ErrorReason, Dropped as DroppedReason, PoolClosed as PoolClosedReason}
use Rattle.mdb_events.specs.declared.reasons.ConnectionCheckoutFailedReason.TheVariants.{Timeout, ConnectionError}
use Rattle.mdb_events.specs.declared.fact.Fact.{Fact}
use Rattle.mdb_events.specs.declared.fact.Fact.TheVariants.{Opened, Pool, Granted, Ended, Raised}
use Rattle.mdb_events.specs.declared.end.End.TheVariants.{Cleared, Failed as FailedEnd, Warmed, Filled, GaveUp, TimedOut}
use Rattle.mdb_log.specs.declared.options.PoolOptions.{PoolOptions}
use Rattle.mdb_log.specs.declared.step.Use.TheVariants.{Ok, Errored, Dropped}
use Rattle.mdb_log.specs.declared.step.FailedAt.TheVariants.{Post}
use Rattle.mdb_log.specs.declared.step.Established.{Established as How}
use Rattle.mdb_log.specs.declared.step.Step.{Step}
use Rattle.mdb_log.specs.declared.step.Act.{Act}
use Rattle.mdb_log.specs.declared.step.Act.TheVariants.{Request, Warm, Collect, Claim, GiveUp, Established, Failed, Return, Pin, Take, Unpin, Maintain, Expire, Ready, Clear, Close}
use Rattle.mdb_log.specs.declared.reply.Refused.TheVariants.{TimeBack, UnknownServer, RequestKnown, UnknownRequest, NotHolder, NotPending, Unpinned, PinInUse, PinState, WrongMode, Exhausted}
use Rattle.mdb_log.specs.declared.reply.What.TheVariants.{Generation}
use Rattle.mdb_log.specs.declared.reply.Reply.{Reply}
use Rattle.mdb_log.specs.declared.reply.Reply.TheVariants.{Pooled, Establishing, Waiting, Ended as EndedReply, Job, NoJob, Done, Refused as RefusedBy}
use Rattle.mdb_log.specs.History.{Item, made, with_answer}
use Rattle.mdb_pool_rules.specs.Facts.{new_pool_error}
use Rattle.mdb_pool_rules.specs.Answer.{answer}
use Rattle.mdb_log.specs.Answer.{Answer}

abbrev balanced : PoolOptions
balanced = record { max_pool_size = None; min_pool_size = None; max_idle_time = None; max_wait = None; max_connecting = None; load_balanced = true; limit_id = 1000; limit_generation = 1000 }

abbrev normal : PoolOptions
normal = record { max_pool_size = None; min_pool_size = None; max_idle_time = None; max_wait = None; max_connecting = None; load_balanced = false; limit_id = 1000; limit_generation = 1000 }

abbrev address : ServerAddress
address = record { host = 97 ∷ []; port = 1 }

abbrev start : List Item
start = made 0 (Pool 0 (PoolCreated (record { address = address; options = None }))) ∷ made 0 (Opened 0 address) ∷ []

abbrev replay : PoolOptions → List Item → List Step → List Item
replay o h [] = h
replay o h (step ∷ steps) = let got : Answer = answer 0 address o h step in replay o (with_answer step got.reply got.facts h) steps

abbrev at_moment : ℕ → Act → Step
at_moment m act = record { moment = m; act = act }

abbrev S : ObjectId
S = record { 0 = 1 ∷ 2 ∷ [] }

abbrev how : How
how = record { wire = pos 21; service_id = Some S; server_id = None }

abbrev plain : How
plain = record { wire = pos 21; service_id = None; server_id = None }

-- the answer to the last step after the others
abbrev final : PoolOptions → List Step → Step → Answer
final o steps step = answer 0 address o (replay o start steps) step

abbrev answered : Reply → List Fact → Answer
answered reply facts = record { reply = reply; facts = facts }

abbrev out : ℕ → ℕ → Fact
out c d = Pool 0 (ConnectionCheckedOut (record { address = address; connection_id = c; duration = d }))

abbrev in_ : ℕ → Fact
in_ c = Pool 0 (ConnectionCheckedIn (record { address = address; connection_id = c }))

abbrev new : ℕ → Fact
new c = Pool 0 (ConnectionCreated (record { address = address; connection_id = c }))

abbrev up : ℕ → ℕ → Fact
up c d = Pool 0 (ConnectionReady (record { address = address; connection_id = c; duration = d }))

abbrev started : Fact
started = Pool 0 (ConnectionCheckoutStarted (record { address = address }))

-- the pool has one connection; two callers wait for it
abbrev one_and_two_wait : List Step
one_and_two_wait = at_moment 0 (Request 1 address) ∷ at_moment 1 (Established 0 1 how) ∷ at_moment 2 (Request 2 address) ∷ at_moment 3 (Request 3 address) ∷ []

abbrev one_only : PoolOptions
one_only = record balanced { max_pool_size = Some 1 }

first-in-line-gets-it : final one_only one_and_two_wait (at_moment 4 (Return 1 Ok)) ≡ answered Done (in_ 1 ∷ Granted 2 0 1 ∷ out 1 2 ∷ [])
first-in-line-gets-it = refl

who-got-it-is-told : final one_only (one_and_two_wait ++ at_moment 4 (Return 1 Ok) ∷ []) (at_moment 5 (Collect 2)) ≡ answered (Pooled 0 1) []
who-got-it-is-told = refl

who-waits-is-told : final one_only (one_and_two_wait ++ at_moment 4 (Return 1 Ok) ∷ at_moment 5 (Collect 2) ∷ []) (at_moment 5 (Collect 3)) ≡ answered Waiting []
who-waits-is-told = refl

-- of one_and_two_wait callers two get connections at once, as two may be pending, and the third when one of these is established
third-gets-a-new-one : final balanced (at_moment 0 (Request 1 address) ∷ at_moment 0 (Request 2 address) ∷ at_moment 0 (Request 3 address) ∷ []) (at_moment 1 (Established 0 1 how)) ≡ answered Done (up 1 1 ∷ out 1 1 ∷ new 3 ∷ Granted 3 0 3 ∷ [])
third-gets-a-new-one = refl

-- the connection that came back last is granted first
abbrev two_came_back : List Step
two_came_back = at_moment 0 (Request 1 address) ∷ at_moment 0 (Request 2 address) ∷ at_moment 1 (Established 0 1 how) ∷ at_moment 1 (Established 0 2 how) ∷ at_moment 2 (Return 1 Ok) ∷ at_moment 3 (Return 2 Ok) ∷ []

newest-first : final balanced two_came_back (at_moment 4 (Request 3 address)) ≡ answered (Pooled 0 2) (started ∷ Granted 3 0 2 ∷ out 2 0 ∷ [])
newest-first = refl

-- a connection that was available for the idle limit is closed, and not before
abbrev came_back_at_ten : List Step
came_back_at_ten = at_moment 0 (Request 1 address) ∷ at_moment 1 (Established 0 1 how) ∷ at_moment 10 (Return 1 Ok) ∷ []

idle-is-closed : final (record balanced { max_idle_time = Some 5 }) came_back_at_ten (at_moment 15 (Request 2 address)) ≡ answered (Establishing 0 2) (started ∷ Pool 0 (ConnectionClosed (record { address = address; connection_id = 1; reason = Idle; service_id = Some S })) ∷ new 2 ∷ Granted 2 0 2 ∷ [])
idle-is-closed = refl

not-yet-idle : final (record balanced { max_idle_time = Some 6 }) came_back_at_ten (at_moment 15 (Request 2 address)) ≡ answered (Pooled 0 1) (started ∷ Granted 2 0 1 ∷ out 1 0 ∷ [])
not-yet-idle = refl

-- maintenance fills up to the minimum, though the maximum is less, with two pending at a time
abbrev one_but_three : PoolOptions
one_but_three = record balanced { max_pool_size = Some 1; min_pool_size = Some 3 }

fills-two : final one_but_three [] (at_moment 1 (Maintain address)) ≡ answered Done (new 1 ∷ new 2 ∷ [])
fills-two = refl

fills-the-third : final one_but_three (at_moment 1 (Maintain address) ∷ at_moment 2 (Established 0 1 how) ∷ []) (at_moment 3 (Maintain address)) ≡ answered Done (new 3 ∷ [])
fills-the-third = refl

caller-gets-a-background-one : final one_but_three (at_moment 1 (Maintain address) ∷ at_moment 2 (Established 0 1 how) ∷ at_moment 3 (Maintain address) ∷ []) (at_moment 4 (Request 1 address)) ≡ answered (Pooled 0 1) (started ∷ Granted 1 0 1 ∷ out 1 0 ∷ [])
caller-gets-a-background-one = refl

-- a connection whose caller gave up goes into the pool
gives-up : final balanced (at_moment 1 (Request 1 address) ∷ []) (at_moment 2 (GiveUp 1)) ≡ answered Done (Ended 1 GaveUp ∷ [])
gives-up = refl

given-up-is-checked-in : final balanced (at_moment 1 (Request 1 address) ∷ at_moment 2 (GiveUp 1) ∷ []) (at_moment 3 (Established 0 1 how)) ≡ answered Done (up 1 2 ∷ in_ 1 ∷ [])
given-up-is-checked-in = refl

-- a pinned connection comes back at its last unpin, and is closed as an earlier return was errored
abbrev pinned_and_taken : List Step
pinned_and_taken = at_moment 1 (Request 1 address) ∷ at_moment 2 (Established 0 1 how) ∷ at_moment 3 (Pin 1) ∷ at_moment 4 (Return 1 Errored) ∷ at_moment 5 (Take 2 0 1) ∷ at_moment 6 (Return 2 Ok) ∷ []

errored-is-closed-at-last : final balanced pinned_and_taken (at_moment 7 (Unpin 0 1)) ≡ answered Done (in_ 1 ∷ Pool 0 (ConnectionClosed (record { address = address; connection_id = 1; reason = ErrorReason; service_id = Some S })) ∷ [])
errored-is-closed-at-last = refl

-- a warm request fills the pool
abbrev at_least_one : PoolOptions
at_least_one = record balanced { min_pool_size = Some 1 }

warm-creates : final at_least_one [] (at_moment 1 (Warm 1 address)) ≡ answered (Establishing 0 1) (new 1 ∷ Granted 1 0 1 ∷ [])
warm-creates = refl

claim-gets-the-job : final at_least_one (at_moment 1 (Warm 1 address) ∷ []) (at_moment 1 Claim) ≡ answered (Job 0 1) []
claim-gets-the-job = refl

no-second-job : final at_least_one (at_moment 1 (Warm 1 address) ∷ at_moment 1 Claim ∷ []) (at_moment 1 Claim) ≡ answered NoJob []
no-second-job = refl

warm-is-filled : final at_least_one (at_moment 1 (Warm 1 address) ∷ at_moment 1 Claim ∷ []) (at_moment 2 (Established 0 1 how)) ≡ answered Done (up 1 1 ∷ in_ 1 ∷ Ended 1 Filled ∷ [])
warm-is-filled = refl

filled-is-told : final at_least_one (at_moment 1 (Warm 1 address) ∷ at_moment 1 Claim ∷ at_moment 2 (Established 0 1 how) ∷ at_moment 3 (Warm 2 address) ∷ []) (at_moment 4 (Collect 1)) ≡ answered (EndedReply Filled) []
filled-is-told = refl

-- a clear of a normal pool ends who waits; a closed pool closes what comes back
abbrev slow : Error
slow = record { kind = NetworkTimeout; labels = []; topology_version = None; message = 116 ∷ [] }

abbrev normal_one : PoolOptions
normal_one = record normal { max_pool_size = Some 1 }

abbrev one_holds_two_waits : List Step
one_holds_two_waits = at_moment 1 (Ready 0) ∷ at_moment 2 (Request 1 address) ∷ at_moment 3 (Established 0 1 plain) ∷ at_moment 4 (Request 2 address) ∷ []

abbrev cleared : Fact
cleared = Pool 0 (PoolCleared (record { address = address; service_id = None; interrupt_in_use_connections = true }))

clear-ends-who-waits : final normal_one one_holds_two_waits (at_moment 5 (Clear 0 None slow)) ≡ answered Done (Raised 0 None slow ∷ cleared ∷ Ended 2 (Cleared slow) ∷ Pool 0 (ConnectionCheckoutFailed (record { address = address; reason = ConnectionError; duration = 1 })) ∷ [])
clear-ends-who-waits = refl

abbrev cleared_and_closed : List Step
cleared_and_closed = one_holds_two_waits ++ at_moment 5 (Clear 0 None slow) ∷ at_moment 6 (Clear 0 None slow) ∷ at_moment 7 (Close 0) ∷ []

closed-pool-closes-what-returns : final normal_one cleared_and_closed (at_moment 8 (Return 1 Ok)) ≡ answered Done (Pool 0 (ConnectionClosed (record { address = address; connection_id = 1; reason = PoolClosedReason; service_id = None })) ∷ [])
closed-pool-closes-what-returns = refl

cleared-is-told : final normal_one (cleared_and_closed ++ at_moment 8 (Return 1 Ok) ∷ []) (at_moment 9 (Collect 2)) ≡ answered (EndedReply (Cleared slow)) []
cleared-is-told = refl

no-service-in-a-normal-pool : final normal_one (cleared_and_closed ++ at_moment 8 (Return 1 Ok) ∷ at_moment 9 (Collect 2) ∷ []) (at_moment 10 (Clear 0 (Some S) slow)) ≡ answered (RefusedBy WrongMode) []
no-service-in-a-normal-pool = refl

-- a warm request that is blocked is passed, and served when it is free
blocked-warm-is-passed : final (record balanced { min_pool_size = Some 3; max_connecting = Some 1 }) (at_moment 0 (Warm 1 address) ∷ at_moment 0 (Warm 2 address) ∷ at_moment 0 (Request 3 address) ∷ []) (at_moment 1 (Established 0 1 how)) ≡ answered Done (up 1 1 ∷ in_ 1 ∷ Ended 1 Filled ∷ new 2 ∷ Granted 2 0 2 ∷ Granted 3 0 1 ∷ out 1 1 ∷ [])
blocked-warm-is-passed = refl

-- on a closed pool a pinned connection is closed at its last unpin
last-unpin-on-a-closed-pool : final normal (at_moment 1 (Ready 0) ∷ at_moment 1 (Request 1 address) ∷ at_moment 2 (Established 0 1 plain) ∷ at_moment 3 (Pin 1) ∷ at_moment 4 (Close 0) ∷ at_moment 5 (Return 1 Ok) ∷ []) (at_moment 6 (Unpin 0 1)) ≡ answered Done (Pool 0 (ConnectionClosed (record { address = address; connection_id = 1; reason = PoolClosedReason; service_id = None })) ∷ [])
last-unpin-on-a-closed-pool = refl

-- refusals, in the order of their tests
abbrev one_asked : List Step
one_asked = at_moment 5 (Request 1 address) ∷ []

back-in-time : final balanced one_asked (at_moment 4 (Request 2 address)) ≡ answered (RefusedBy (TimeBack 5)) []
back-in-time = refl

-- a refused step moves no moment and uses up no number
refused-leaves-all : final balanced (one_asked ++ at_moment 4 (Request 2 address) ∷ []) (at_moment 5 (Request 2 address)) ≡ answered (Establishing 0 2) (started ∷ new 2 ∷ Granted 2 0 2 ∷ [])
refused-leaves-all = refl

abbrev elsewhere : ServerAddress
elsewhere = record { host = 98 ∷ []; port = 1 }

unknown-server : final balanced [] (at_moment 0 (Request 1 elsewhere)) ≡ answered (RefusedBy UnknownServer) []
unknown-server = refl

request-known : final balanced one_asked (at_moment 5 (Request 1 address)) ≡ answered (RefusedBy RequestKnown) []
request-known = refl

unknown-request : final balanced one_asked (at_moment 5 (Collect 9)) ≡ answered (RefusedBy UnknownRequest) []
unknown-request = refl

not-holder : final balanced one_asked (at_moment 5 (Return 1 Ok)) ≡ answered (RefusedBy NotHolder) []
not-holder = refl

not-pending : final balanced one_asked (at_moment 5 (Established 0 2 how)) ≡ answered (RefusedBy NotPending) []
not-pending = refl

wrong-mode : final balanced one_asked (at_moment 5 (Established 0 1 plain)) ≡ answered (RefusedBy WrongMode) []
wrong-mode = refl

abbrev one_pinned : List Step
one_pinned = one_asked ++ at_moment 5 (Established 0 1 plain) ∷ at_moment 5 (Established 0 1 how) ∷ []

unpinned : final balanced one_pinned (at_moment 5 (Unpin 0 1)) ≡ answered (RefusedBy Unpinned) []
unpinned = refl

pin-state : final balanced (one_pinned ++ at_moment 5 (Pin 1) ∷ []) (at_moment 5 (Pin 1)) ≡ answered (RefusedBy PinState) []
pin-state = refl

pin-in-use : final balanced (one_pinned ++ at_moment 5 (Pin 1) ∷ []) (at_moment 5 (Take 2 0 1)) ≡ answered (RefusedBy PinInUse) []
pin-in-use = refl

-- a generation at its limit allows no further clear
exhausted : final (record normal { limit_generation = 0 }) [] (at_moment 2 (Clear 0 None slow)) ≡ answered (RefusedBy (Exhausted Generation)) []
exhausted = refl

-- the ids are used up: the second caller waits
ids-used-up : final (record balanced { limit_id = 1 }) (at_moment 0 (Request 1 address) ∷ []) (at_moment 0 (Request 2 address)) ≡ answered Waiting (started ∷ [])
ids-used-up = refl

-- a caller of a pool that is new ends at once
new-turns-away : final normal [] (at_moment 5 (Request 1 address)) ≡ answered (EndedReply (Cleared new_pool_error)) (started ∷ Ended 1 (Cleared new_pool_error) ∷ Pool 0 (ConnectionCheckoutFailed (record { address = address; reason = ConnectionError; duration = 0 })) ∷ [])
new-turns-away = refl

-- a connection that failed ends its requester
abbrev lost : Error
lost = record { kind = Network; labels = []; topology_version = None; message = 120 ∷ [] }

failed-ends-the-requester : final balanced (at_moment 0 (Request 1 address) ∷ []) (at_moment 2 (Failed 0 1 (Post (Some S)) lost)) ≡ answered Done (Pool 0 (ConnectionClosed (record { address = address; connection_id = 1; reason = ErrorReason; service_id = None })) ∷ Ended 1 (FailedEnd lost) ∷ Pool 0 (ConnectionCheckoutFailed (record { address = address; reason = ConnectionError; duration = 2 })) ∷ [])
failed-ends-the-requester = refl

-- a connection from before a clear is closed when it comes back, and an available one when a caller meets it
abbrev held_when_cleared : List Step
held_when_cleared = at_moment 1 (Ready 0) ∷ at_moment 2 (Request 1 address) ∷ at_moment 2 (Request 2 address) ∷ at_moment 3 (Established 0 1 plain) ∷ at_moment 3 (Established 0 2 plain) ∷ at_moment 3 (Return 2 Ok) ∷ at_moment 4 (Clear 0 None lost) ∷ []

stale-is-closed : final normal held_when_cleared (at_moment 7 (Return 1 Ok)) ≡ answered Done (in_ 1 ∷ Pool 0 (ConnectionClosed (record { address = address; connection_id = 1; reason = Stale; service_id = None })) ∷ [])
stale-is-closed = refl

stale-is-not-granted : final normal (held_when_cleared ++ at_moment 5 (Ready 0) ∷ []) (at_moment 6 (Request 3 address)) ≡ answered (Establishing 0 3) (started ∷ Pool 0 (ConnectionClosed (record { address = address; connection_id = 2; reason = Stale; service_id = None })) ∷ new 3 ∷ Granted 3 0 3 ∷ [])
stale-is-not-granted = refl

-- a dropped use closes the connection
dropped-is-closed : final balanced one_pinned (at_moment 7 (Return 1 Dropped)) ≡ answered Done (in_ 1 ∷ Pool 0 (ConnectionClosed (record { address = address; connection_id = 1; reason = DroppedReason; service_id = Some S })) ∷ [])
dropped-is-closed = refl

-- a caller that waited for the limit ends, and not before; one that came later waits on, and is served
abbrev waits_ten : PoolOptions
waits_ten = record one_only { max_wait = Some 10 }

abbrev wait_since_two_and_five : List Step
wait_since_two_and_five = at_moment 0 (Request 1 address) ∷ at_moment 0 (Established 0 1 how) ∷ at_moment 2 (Request 2 address) ∷ at_moment 5 (Request 3 address) ∷ []

abbrev waited_in_vain : ℕ → Fact
waited_in_vain d = Pool 0 (ConnectionCheckoutFailed (record { address = address; reason = Timeout; duration = d }))

not-yet-overdue : final waits_ten wait_since_two_and_five (at_moment 11 (Expire address)) ≡ answered Done []
not-yet-overdue = refl

overdue-ends : final waits_ten (wait_since_two_and_five ++ at_moment 11 (Expire address) ∷ []) (at_moment 12 (Expire address)) ≡ answered Done (Ended 2 TimedOut ∷ waited_in_vain 10 ∷ [])
overdue-ends = refl

abbrev second_timed_out : List Step
second_timed_out = wait_since_two_and_five ++ at_moment 11 (Expire address) ∷ at_moment 12 (Expire address) ∷ []

timed-out-is-told : final waits_ten second_timed_out (at_moment 12 (Collect 2)) ≡ answered (EndedReply TimedOut) []
timed-out-is-told = refl

later-one-waits-on : final waits_ten (second_timed_out ++ at_moment 12 (Collect 2) ∷ []) (at_moment 12 (Collect 3)) ≡ answered Waiting []
later-one-waits-on = refl

later-one-is-served : final waits_ten (second_timed_out ++ at_moment 12 (Collect 2) ∷ at_moment 12 (Collect 3) ∷ []) (at_moment 13 (Return 1 Ok)) ≡ answered Done (in_ 1 ∷ Granted 3 0 1 ∷ out 1 8 ∷ [])
later-one-is-served = refl

-- a warm request does not expire: it is served when the caller before it ended
abbrev warm_waits_one : PoolOptions
warm_waits_one = record one_only { min_pool_size = Some 1; max_wait = Some 1 }

abbrev one_up : List Step
one_up = at_moment 0 (Request 1 address) ∷ at_moment 0 (Established 0 1 how) ∷ []

caller-waits : final warm_waits_one one_up (at_moment 0 (Request 2 address)) ≡ answered Waiting (started ∷ [])
caller-waits = refl

warm-waits-behind-it : final warm_waits_one (one_up ++ at_moment 0 (Request 2 address) ∷ []) (at_moment 0 (Warm 3 address)) ≡ answered Waiting []
warm-waits-behind-it = refl

warm-is-served-after-it : final warm_waits_one (one_up ++ at_moment 0 (Request 2 address) ∷ at_moment 0 (Warm 3 address) ∷ []) (at_moment 1 (Expire address)) ≡ answered Done (Ended 2 TimedOut ∷ waited_in_vain 1 ∷ Ended 3 Warmed ∷ [])
warm-is-served-after-it = refl

-- a limit of 0, as none, ends nobody
zero-ends-nobody : final (record one_only { max_wait = Some 0 }) wait_since_two_and_five (at_moment 11 (Expire address)) ≡ answered Done []
zero-ends-nobody = refl

nor-does-it-later : final (record one_only { max_wait = Some 0 }) (wait_since_two_and_five ++ at_moment 11 (Expire address) ∷ []) (at_moment 12 (Expire address)) ≡ answered Done []
nor-does-it-later = refl

no-limit-ends-nobody : final one_only wait_since_two_and_five (at_moment 12 (Expire address)) ≡ answered Done []
no-limit-ends-nobody = refl

nobody-expires-elsewhere : final (record one_only { max_wait = Some 0 }) wait_since_two_and_five (at_moment 12 (Expire elsewhere)) ≡ answered (RefusedBy UnknownServer) []
nobody-expires-elsewhere = refl

-- a caller whose connection is pending does not expire
pending-one-stays : final waits_ten (at_moment 0 (Request 1 address) ∷ []) (at_moment 20 (Expire address)) ≡ answered Done []
pending-one-stays = refl
