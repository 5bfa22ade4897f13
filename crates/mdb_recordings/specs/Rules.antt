-- The rules: when an event breaks one, by what the events before it tell of its pool and of the connection that it names.
use Rattle.std.specs.Prelude.{ℕ, ◌-◌, ◌*◌, Bool, true, false, not, ◌&&◌, ◌||◌, ◌==◌, nat_lt, nat_le, is_some, List, Option, Some, None}
use Rattle.mdb_recordings.specs.Events.{begins, turns_ready, clears, closes_pool, closes_stale, closes_in_open, creates_one, readies_one, closes_one, checks_out_one, checks_in_one, uses_one, goes_on, needs_pool, id_of, ends_check_out, ends_wait}
use Rattle.mdb_recordings.specs.Lives.{life, facts_of, former_of, hands_out, live, waiting, connection_named, turns_of, caller_numbered}
use Rattle.mdb_recordings.specs.declared.event.Event.{Event}
use Rattle.mdb_recordings.specs.declared.event.Recorded.{Recorded}
use Rattle.mdb_recordings.specs.declared.event.FailReason.{FailReason}
use Rattle.mdb_recordings.specs.declared.event.FailReason.TheVariants as fails
use Rattle.mdb_recordings.specs.declared.event.Told.{Told}
use Rattle.mdb_recordings.specs.declared.event.Told.TheVariants.{CheckOutFailed}
use Rattle.mdb_recordings.specs.declared.caller.Caller.{Caller}
use Rattle.mdb_recordings.specs.declared.connection.Connection.{Connection}
use Rattle.mdb_recordings.specs.declared.facts.Facts.{Facts}
use Rattle.mdb_recordings.specs.declared.former.Former.{Former}
use Rattle.mdb_recordings.specs.declared.glance.Glance.{Glance}
use Rattle.mdb_recordings.specs.declared.rule.Rule.{Rule}
use Rattle.mdb_recordings.specs.declared.rule.Rule.TheVariants.{PoolCreatedTwice, PoolNotCreated, PoolIsClosed, PoolReadiedTwice, ClearedWhilePaused, LeftInPool, PoolNotReady, CreatedWhilePaused, CreatedTwice, NotCreated, ReadiedTwice, NotReadied, OutTwice, NotOut, ClosedTwice, IsClosed, ClosedWhileOut, ClosedInUse, NotCleared, IsStale, IsIdle, TooMany, TooManyPending, NotStarted, HasNoReason, OutOfTurn}
use Rattle.mdb_recordings.specs.declared.standard.Standard.{Standard}
use Rattle.mdb_recordings.specs.declared.standard.Standard.TheVariants.{Current, Of2021, Of2020}
use Rattle.mdb_recordings.specs.declared.turns.Turns.{Turns}

-- connections that were created, and neither became ready nor were closed before
abbrev pub pending : Facts → ℕ
pending f = (f.created - f.readied) - f.dropped

-- more than so many milliseconds lie between the two times in microseconds, as far as both were told; 0 is no limit
abbrev pub is_past : ℕ → Option ℕ → Option ℕ → Bool
is_past most (Some since) (Some now) = nat_lt 0 most && nat_lt (most * 1000) (now - since)
is_past most _ _ = false

-- The connection was not handed out yet, and its pool was not paused since it became ready. So it may have been pending for a caller
-- while the pool was paused: whether the pool is ready is tested before a connection is established, and not again behind that.
abbrev pub is_first : Facts → Connection → Bool
is_first f c = not c.was_out && nat_le f.pauses c.readied_after

-- the pool was created, and is neither ready nor closed
abbrev pub is_paused : Facts → Bool
is_paused f = f.is_created && (not f.is_closed && not (hands_out f))

-- the connection was created before its pool was cleared, or may have been: clears of one service name no connections
abbrev pub may_be_cleared : Facts → Connection → Bool
may_be_cleared f c = f.has_service_clear || nat_lt c.generation f.clears

-- The state of the pool, and of those before it at its address, allows no such reason: the end of a pool, only if one was closed; a
-- connection's error, only if one was closed before, or the last isn't ready, was cleared, or closed some connection for an error.
abbrev pub is_unfounded : FailReason → Former → Facts → Bool
is_unfounded fails.Timeout x f = false
is_unfounded fails.PoolClosed x f = not (x.is_closed || f.is_closed)
is_unfounded fails.ConnectionError x f = not x.is_closed && (hands_out f && (not f.has_error && not (nat_lt 0 f.clears)))
is_unfounded fails.Untold x f = true

abbrev pub fails_unfounded : Told → Former → Facts → Bool
fails_unfounded (CheckOutFailed reason) x f = is_unfounded reason x f
fails_unfounded _ x f = false

-- An event breaks a rule of pools, by what was told before of its pool and of the connection that it names.
abbrev pub is_pool_broken : Rule → Facts → Connection → Event → Bool
-- a pool is created, and not while the one before it at its address is open
is_pool_broken PoolCreatedTwice f c e = begins e.told && (f.is_created && not f.is_closed)
-- a pool is created before all its other events
is_pool_broken PoolNotCreated f c e = not (begins e.told) && not f.is_created
-- a closed pool only ends what it had: it neither turns ready, is cleared or closed, nor creates a connection or hands out one that wasn't pending
is_pool_broken PoolIsClosed f c e = f.is_closed && (needs_pool e.told || (checks_out_one e.told && not (is_first f c)))
-- a pool that is ready is not turned ready again
is_pool_broken PoolReadiedTwice f c e = turns_ready e.told && f.is_ready
-- a pool is cleared while it is ready
is_pool_broken ClearedWhilePaused f c e = clears e.told && is_paused f
-- a pool closes what lies in it before its own end is told
is_pool_broken LeftInPool f c e = closes_pool e.told && nat_lt 0 f.lying
-- a pool is ready when it hands out a connection, or was when it created the one that it hands out first
is_pool_broken PoolNotReady f c e = checks_out_one e.told && (not (hands_out f) && not (c.is_wanted && is_first f c))
-- a pool creates no connection while it is paused
is_pool_broken CreatedWhilePaused f c e = creates_one e.told && is_paused f
-- a pool has at most as many connections as its options allow
is_pool_broken TooMany f c e = creates_one e.told && (nat_lt 0 f.limits.max_size && nat_le f.limits.max_size (live f))
-- a pool has at most as many pending connections as its options allow, where they are told
is_pool_broken TooManyPending f c e = creates_one e.told && (nat_lt 0 f.limits.max_connecting && nat_le f.limits.max_connecting (pending f))
is_pool_broken rule f c e = false

-- An event breaks a rule of connections.
abbrev pub is_connection_broken : Rule → Facts → Connection → Event → Bool
-- a connection is created once
is_connection_broken CreatedTwice f c e = creates_one e.told && c.is_created
-- a connection is created before its other events
is_connection_broken NotCreated f c e = uses_one e.told && not c.is_created
-- a connection becomes ready once
is_connection_broken ReadiedTwice f c e = readies_one e.told && c.is_readied
-- a connection is ready before it is handed out
is_connection_broken NotReadied f c e = checks_out_one e.told && not c.is_readied
-- a connection is checked out by one at a time
is_connection_broken OutTwice f c e = checks_out_one e.told && c.is_out
-- a connection is checked in by who has it
is_connection_broken NotOut f c e = checks_in_one e.told && not c.is_out
-- a connection is closed once
is_connection_broken ClosedTwice f c e = closes_one e.told && c.is_closed
-- a closed connection does nothing more, but that who had it at its end checks it in
is_connection_broken IsClosed f c e = goes_on e.told && (c.is_closed && not (checks_in_one e.told && c.is_out))
-- a connection is closed only when it is checked in
is_connection_broken ClosedWhileOut f c e = closes_one e.told && c.is_out
-- a connection is closed while it is checked out only behind a clear, or at the end of its pool
is_connection_broken ClosedInUse f c e = closes_in_open e.told && (c.is_out && not (may_be_cleared f c))
-- a connection that is closed as stale was created before its pool was cleared
is_connection_broken NotCleared f c e = closes_stale e.told && (c.is_created && not (may_be_cleared f c))
-- no connection is handed out that was created before its pool was cleared, unless it was pending then
is_connection_broken IsStale f c e = checks_out_one e.told && (nat_lt c.generation f.clears && not (is_first f c))
-- no connection is handed out that was idle for longer than its pool allows
is_connection_broken IsIdle f c e = checks_out_one e.told && is_past f.limits.max_idle c.rested_at e.at
is_connection_broken rule f c e = false

abbrev pub is_broken : Rule → Facts → Connection → Event → Bool
is_broken rule f c e = is_pool_broken rule f c e || is_connection_broken rule f c e

-- A check-out ends that is known not to be under way: as many ended as were started, in this pool and those before it, or it has a number,
-- and the one with that number ended or was never started. Which check-outs of a former pool are under way is not known.
abbrev pub is_unstarted : Event → Former → Facts → Caller → Bool
is_unstarted e x f c = ends_check_out e.told && (f.is_created && (waiting f x.waiting == 0 || (is_some e.caller && (x.waiting == 0 && not c.is_checking_out))))

-- Check-outs that have numbers are served in the order of their starts: when the wait of one ends, none that was started after it was
-- served before.
abbrev pub is_passed : Told → Turns → Caller → Bool
is_passed t x c = ends_wait t && (c.is_waiting && nat_lt c.place x.latest)

-- While a connection of a former pool at the address is open, an event that uses a connection may be of that one, which nothing tells.
abbrev pub may_be_former : Told → Former → Bool
may_be_former t x = uses_one t && nat_lt 0 x.left

-- an event breaks a rule, where so much is known before it
abbrev pub is_seen : Rule → Glance → Event → Bool
is_seen OutOfTurn g e = is_passed e.told g.turns g.caller
-- a check-out is started before it ends, and ends once
is_seen NotStarted g e = is_unstarted e g.former g.facts g.caller
-- a check-out fails for a reason that the state of its pool allows
is_seen HasNoReason g e = fails_unfounded e.told g.former g.facts
is_seen rule g e = not (may_be_former e.told g.former) && is_broken rule g.facts g.connection e

-- The standard at that time has the rule. Pools are paused and limit what is pending since the end of 2020; since 2022 a pool that is
-- cleared may close connections that are checked out.
abbrev pub has_rule : Standard → Rule → Bool
has_rule Current ClosedWhileOut = false
has_rule Of2021 ClosedInUse = false
has_rule Of2020 ClosedInUse = false
has_rule Of2020 PoolReadiedTwice = false
has_rule Of2020 ClearedWhilePaused = false
has_rule Of2020 PoolNotReady = false
has_rule Of2020 CreatedWhilePaused = false
has_rule Of2020 TooManyPending = false
has_rule standard rule = true

-- all that is known when an event comes after these
abbrev pub glance_of : List Recorded → Recorded → Glance
glance_of h r = record {
  former = former_of r.pool h;
  facts = facts_of (life r.pool h);
  connection = connection_named (id_of r.event.told) (life r.pool h);
  turns = turns_of (life r.pool h);
  caller = caller_numbered r.event.caller (life r.pool h);
}

-- By the standard of that time the event breaks the rule, after these events, the last of them newest.
abbrev pub breaks : Standard → Rule → List Recorded → Recorded → Bool
breaks standard rule h r = has_rule standard rule && is_seen rule (glance_of h r) r.event

-- The line of the event that a finding contradicts, where so much is known before it: the event without which, or with which another way, the rule
-- would be kept. There is none where something is missing, and none where many events come together.
abbrev pub contradicted : Rule → Glance → Option ℕ
-- the pool that is open was created there, and so were its options told
contradicted PoolCreatedTwice g = g.facts.lines.created
contradicted TooMany g = g.facts.lines.created
contradicted TooManyPending g = g.facts.lines.created
-- the pool was closed there
contradicted PoolIsClosed g = g.facts.lines.closed
-- it turned ready there last
contradicted PoolReadiedTwice g = g.facts.lines.readied
-- it was created, cleared or closed there last, and so is not ready
contradicted ClearedWhilePaused g = g.facts.lines.stopped
contradicted PoolNotReady g = g.facts.lines.stopped
contradicted CreatedWhilePaused g = g.facts.lines.stopped
-- all of it was cleared there last
contradicted IsStale g = g.facts.lines.cleared
-- the connection was created there last
contradicted CreatedTwice g = g.connection.lines.created
contradicted NotReadied g = g.connection.lines.created
contradicted NotCleared g = g.connection.lines.created
-- it became ready there
contradicted ReadiedTwice g = g.connection.lines.readied
-- it was checked out, checked in or created there last, and so somebody has it, or nobody
contradicted OutTwice g = g.connection.lines.moved
contradicted NotOut g = g.connection.lines.moved
contradicted ClosedWhileOut g = g.connection.lines.moved
contradicted ClosedInUse g = g.connection.lines.moved
-- it was put into the pool there last
contradicted IsIdle g = g.connection.lines.rested
-- it was closed there last
contradicted ClosedTwice g = g.connection.lines.closed
contradicted IsClosed g = g.connection.lines.closed
-- the check-out with this number ended there last
contradicted NotStarted g = g.caller.ended
-- the check-out that was started last, of those that were served, was served there
contradicted OutOfTurn g = g.turns.latest_on
contradicted PoolNotCreated g = None
contradicted LeftInPool g = None
contradicted NotCreated g = None
contradicted HasNoReason g = None

-- the line of the event that an event contradicts which breaks the rule after these events
abbrev pub against : Rule → List Recorded → Recorded → Option ℕ
against rule h r = contradicted rule (glance_of h r)
