-- What one event more changes in what is known of a connection and of its pool.
use Rattle.std.specs.Prelude.{ℕ, ◌+◌, ◌-◌, Bool, true, false, not, ◌&&◌, ◌||◌, is_some, if◌then◌else◌, Option, Some, None}
use Rattle.mdb_recordings.specs.Events.{is_error, starts_one, ends_check_out, ends_wait}
use Rattle.mdb_recordings.specs.Lives.{hands_out, latest_after, less_if, live, overtakes, waiting}
use Rattle.mdb_recordings.specs.declared.event.CloseReason.{CloseReason}
use Rattle.mdb_recordings.specs.declared.event.Told.{Told}
use Rattle.mdb_recordings.specs.declared.event.Told.TheVariants.{PoolCreated, PoolReady, PoolCleared, PoolClosed, ConnectionCreated, ConnectionReady, ConnectionClosed, CheckOutStarted, CheckOutFailed, CheckedOut, CheckedIn}
use Rattle.mdb_recordings.specs.declared.connection.Connection.{Connection}
use Rattle.mdb_recordings.specs.declared.connection_lines.ConnectionLines.{ConnectionLines}
use Rattle.mdb_recordings.specs.declared.facts.Facts.{Facts}
use Rattle.mdb_recordings.specs.declared.former.Former.{Former}
use Rattle.mdb_recordings.specs.declared.caller.Caller.{Caller}
use Rattle.mdb_recordings.specs.declared.pool_lines.PoolLines.{PoolLines}
use Rattle.mdb_recordings.specs.declared.turns.Turns.{Turns}

-- the lines of a connection after an event on the line n that names it
abbrev pub connection_lines_after : Told → ℕ → ConnectionLines → ConnectionLines
connection_lines_after (ConnectionCreated i) n x = record { created = Some n; readied = None; moved = Some n; rested = None; closed = None }
connection_lines_after (ConnectionReady i) n x = record x { readied = Some n; rested = Some n }
connection_lines_after (ConnectionClosed i reason) n x = record x { closed = Some n }
connection_lines_after (CheckedOut i) n x = record x { moved = Some n }
connection_lines_after (CheckedIn i) n x = record x { moved = Some n; rested = Some n }
connection_lines_after _ n x = x

-- the lines of a pool after an event on the line n
abbrev pub pool_lines_after : Told → ℕ → PoolLines → PoolLines
pool_lines_after (PoolCreated limits) n x = record x { created = Some n; stopped = Some n }
pool_lines_after PoolReady n x = record x { readied = Some n }
pool_lines_after (PoolCleared all) n x = if all then record x { cleared = Some n; stopped = Some n } else x
pool_lines_after PoolClosed n x = record x { stopped = Some n; closed = Some n }
pool_lines_after _ n x = x

-- a connection of the pool that was just created
abbrev pub new_connection : Facts → ConnectionLines → Connection
new_connection f x = record {
  is_created = true;
  is_wanted = hands_out f;
  is_readied = false;
  is_closed = false;
  is_out = false;
  was_out = false;
  generation = f.clears;
  readied_after = 0;
  rested_at = None;
  lines = x;
}

-- the state of a connection after an event of that time that names it, where so much was known of its pool before
abbrev pub connection_state_after : Told → Option ℕ → Facts → Connection → Connection
connection_state_after (ConnectionCreated i) at f c = new_connection f c.lines
connection_state_after (ConnectionReady i) at f c = record c { is_readied = true; readied_after = f.pauses; rested_at = at }
connection_state_after (ConnectionClosed i reason) at f c = record c { is_closed = true }
connection_state_after (CheckedOut i) at f c = record c { is_out = true; was_out = true }
connection_state_after (CheckedIn i) at f c = record c { is_out = false; rested_at = at }
connection_state_after _ at f c = c

-- a connection after an event that names it, on the line n
abbrev pub connection_after : Told → Option ℕ → ℕ → Facts → Connection → Connection
connection_after t at n f c = record (connection_state_after t at f c) { lines = connection_lines_after t n c.lines }

-- a connection that was handed out, came back, and lies in its pool
abbrev pub is_lying : Connection → Bool
is_lying c = c.was_out && (not c.is_out && not c.is_closed)

-- how many lie in the pool, without the connection
abbrev pub lying_without : Connection → Facts → ℕ
lying_without c f = less_if (is_lying c) f.lying

-- a pool after the end of the connection
abbrev pub facts_once_closed : CloseReason → Connection → Facts → Facts
facts_once_closed reason c f = record f {
  has_error = is_error reason || f.has_error;
  closed = if c.is_created then 1 + f.closed else f.closed;
  dropped = if c.is_created && not c.is_readied then 1 + f.dropped else f.dropped;
  lying = lying_without c f;
}

-- a pool after an event of the connection
abbrev pub facts_after_connection : Told → Connection → Facts → Facts
facts_after_connection (ConnectionCreated i) c f = record f { created = 1 + f.created; lying = lying_without c f }
facts_after_connection (ConnectionReady i) c f = record f { readied = 1 + f.readied }
facts_after_connection (ConnectionClosed i reason) c f = facts_once_closed reason c f
facts_after_connection CheckOutStarted c f = record f { started = 1 + f.started }
facts_after_connection (CheckOutFailed reason) c f = record f { failed = 1 + f.failed }
facts_after_connection (CheckedOut i) c f = record f { outs = 1 + f.outs; lying = lying_without c f }
facts_after_connection (CheckedIn i) c f = record f { ins = 1 + f.ins; lying = if c.is_out && not c.is_closed then 1 + f.lying else f.lying }
facts_after_connection _ c f = f

-- the state of a pool after an event that may name the connection
abbrev pub facts_state_after : Told → Connection → Facts → Facts
facts_state_after (PoolCreated limits) c f = record f { limits = limits; is_created = true }
facts_state_after PoolReady c f = record f { is_ready = true }
facts_state_after (PoolCleared all) c f = if all then record f { is_ready = false; clears = 1 + f.clears; pauses = 1 + f.pauses } else record f { has_service_clear = true }
facts_state_after PoolClosed c f = record f { is_ready = false; is_closed = true; pauses = 1 + f.pauses }
facts_state_after told c f = facts_after_connection told c f

-- a pool after an event on the line n that may name the connection
abbrev pub facts_after : Told → ℕ → Connection → Facts → Facts
facts_after told n c f = record (facts_state_after told c f) { lines = pool_lines_after told n f.lines }

-- what is known of former pools after an event, which may begin a pool or name the connection
abbrev pub former_after_event : Told → Connection → Facts → Former → Former
former_after_event (PoolCreated limits) c f x = record { is_closed = f.is_closed || x.is_closed; left = x.left + live f; waiting = waiting f x.waiting }
former_after_event (ConnectionClosed i reason) c f x = if c.is_created then x else record x { left = x.left - 1 }
former_after_event _ c f x = x

-- where a check-out ended last, after an event on the line n that has its number
abbrev pub ended_after : Told → ℕ → Option ℕ → Option ℕ
ended_after t n ended = if ends_check_out t then Some n else ended

-- a check-out after an event on the line n that has its number; one that starts has this place
abbrev pub caller_after : Told → ℕ → ℕ → Caller → Caller
caller_after t n place c =
    if starts_one t then record { is_waiting = true; is_checking_out = true; place = place; ended = ended_after t n c.ended }
    else record { is_waiting = not (ends_wait t) && c.is_waiting; is_checking_out = not (ends_check_out t) && c.is_checking_out; place = c.place; ended = ended_after t n c.ended }

-- the order of check-outs after an event on the line n that may have the number of the caller
abbrev pub turns_after : Told → ℕ → Option ℕ → Caller → Turns → Turns
turns_after t n o c x = record {
  started = if starts_one t && is_some o then 1 + x.started else x.started;
  latest = latest_after t c x.latest;
  latest_on = if overtakes t c x.latest then Some n else x.latest_on;
}
