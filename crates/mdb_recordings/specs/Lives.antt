-- What the events of one pool tell, newest first, since it was created.
use Rattle.std.specs.Prelude.{ℕ, ◌+◌, ◌-◌, Bool, true, false, not, ◌&&◌, ◌||◌, ◌==◌, nat_lt, is_some, if◌then◌else◌, List, [], ◌∷◌, Option, Some, None}
use Rattle.mdb_recordings.specs.Events.{begins, turns_ready, clears, clears_service, pauses, closes_pool, stops, creates_one, creates, readies_one, readies, closes, checks_out_one, checks_out, checks_in_one, frees, moves, fails_one, breaks_one, rests, starts_one, ends_check_out, ends_wait, serves}
use Rattle.mdb_recordings.specs.declared.event.Recorded.{Recorded}
use Rattle.mdb_recordings.specs.declared.event.Limits.{Limits}
use Rattle.mdb_recordings.specs.declared.event.Told.{Told}
use Rattle.mdb_recordings.specs.declared.event.Told.TheVariants.{PoolCreated, ConnectionCreated, ConnectionClosed, CheckedOut, CheckedIn}
use Rattle.mdb_recordings.specs.declared.connection.Connection.{Connection}
use Rattle.mdb_recordings.specs.declared.facts.Facts.{Facts}
use Rattle.mdb_recordings.specs.declared.connection_lines.ConnectionLines.{ConnectionLines}
use Rattle.mdb_recordings.specs.declared.former.Former.{Former}
use Rattle.mdb_recordings.specs.declared.pool_lines.PoolLines.{PoolLines}
use Rattle.mdb_recordings.specs.declared.caller.Caller.{Caller}
use Rattle.mdb_recordings.specs.declared.turns.Turns.{Turns}

-- the events of a pool, this one newest: a creation begins anew
abbrev pub onto : Recorded → List Recorded → List Recorded
onto e l = if begins e.event.told then e ∷ [] else e ∷ l

-- the events of the pool at an address since it was created there last, of all that was recorded
abbrev pub life : ℕ → List Recorded → List Recorded
life p [] = []
life p (r ∷ h) = if r.pool == p then onto r (life p h) else life p h

-- how often a pool was created at an address
abbrev pub lives : ℕ → List Recorded → ℕ
lives p [] = 0
lives p (r ∷ h) = if (r.pool == p) && begins r.event.told then 1 + lives p h else lives p h

-- some event is of that kind
abbrev pub was : (Told → Bool) → List Recorded → Bool
was kind [] = false
was kind (e ∷ l) = kind e.event.told || was kind l

-- how many events are of that kind
abbrev pub count : (Told → Bool) → List Recorded → ℕ
count kind [] = 0
count kind (e ∷ l) = if kind e.event.told then 1 + count kind l else count kind l

-- the newest event of either kind is of the first
abbrev pub is_on : (Told → Bool) → (Told → Bool) → List Recorded → Bool
is_on on off [] = false
is_on on off (e ∷ l) = if on e.event.told then true else (if off e.event.told then false else is_on on off l)

-- the line of the newest event of that kind
abbrev pub line_of : (Told → Bool) → List Recorded → Option ℕ
line_of kind [] = None
line_of kind (e ∷ l) = if kind e.event.told then Some e.line else line_of kind l

-- of the pool

-- the lines of the newest events that say what state it is in
abbrev pub pool_lines_of : List Recorded → PoolLines
pool_lines_of l = record {
  created = line_of begins l;
  readied = line_of turns_ready l;
  cleared = line_of clears l;
  stopped = line_of stops l;
  closed = line_of closes_pool l;
}

-- the options that it tells, or else these
abbrev pub limits_told : Told → Limits → Limits
limits_told (PoolCreated limits) old = limits
limits_told _ old = old

-- the options with which the pool was created; none where that was not told
abbrev pub limits_of : List Recorded → Limits
limits_of [] = record { max_size = 0; max_connecting = 0; max_idle = 0; is_load_balanced = false }
limits_of (e ∷ l) = limits_told e.event.told (limits_of l)

-- some event of that kind came since the connection was created last
abbrev pub was_since : ℕ → (Told → Bool) → List Recorded → Bool
was_since i kind [] = false
was_since i kind (e ∷ l) = not (creates i e.event.told) && (kind e.event.told || was_since i kind l)

-- the line of the newest event of that kind since the connection was created last
abbrev pub line_since : ℕ → (Told → Bool) → List Recorded → Option ℕ
line_since i kind [] = None
line_since i kind (e ∷ l) = if creates i e.event.told then None else (if kind e.event.told then Some e.line else line_since i kind l)

-- it tells of the end of a connection that the pool created
abbrev pub ends : Told → List Recorded → Bool
ends (ConnectionClosed i reason) l = was (creates i) l
ends _ l = false

-- how many of its connections ended
abbrev pub ended : List Recorded → ℕ
ended [] = 0
ended (e ∷ l) = if ends e.event.told l then 1 + ended l else ended l

-- it tells of the end of a connection that the pool created and that was not ready yet
abbrev pub drops : Told → List Recorded → Bool
drops (ConnectionClosed i reason) l = was (creates i) l && not (was_since i (readies i) l)
drops _ l = false

-- how many of its connections ended before they were ready
abbrev pub dropped : List Recorded → ℕ
dropped [] = 0
dropped (e ∷ l) = if drops e.event.told l then 1 + dropped l else dropped l

-- somebody has the connection
abbrev pub is_held : ℕ → List Recorded → Bool
is_held i l = is_on (checks_out i) (frees i) l

-- the connection was handed out, came back, and lies in the pool
abbrev pub lies : ℕ → List Recorded → Bool
lies i l = was_since i (checks_out i) l && (not (is_held i l) && not (was_since i (closes i) l))

-- one less, if so
abbrev pub less_if : Bool → ℕ → ℕ
less_if b n = if b then n - 1 else n

-- how many connections lie in the pool after an event that comes after these, where so many lay there before
abbrev pub lying_after : Told → List Recorded → ℕ → ℕ
lying_after (CheckedIn i) l n = if is_held i l && not (was_since i (closes i) l) then 1 + n else n
lying_after (CheckedOut i) l n = less_if (lies i l) n
lying_after (ConnectionClosed i reason) l n = less_if (lies i l) n
lying_after (ConnectionCreated i) l n = less_if (lies i l) n
lying_after _ l n = n

abbrev pub lying : List Recorded → ℕ
lying [] = 0
lying (e ∷ l) = lying_after e.event.told l (lying l)

-- what the events tell of their pool
abbrev pub facts_of : List Recorded → Facts
facts_of l = record {
  limits = limits_of l;
  is_created = was begins l;
  is_ready = is_on turns_ready pauses l;
  is_closed = was closes_pool l;
  has_error = was breaks_one l;
  has_service_clear = was clears_service l;
  clears = count clears l;
  pauses = count pauses l;
  created = count creates_one l;
  readied = count readies_one l;
  closed = ended l;
  dropped = dropped l;
  started = count starts_one l;
  outs = count checks_out_one l;
  ins = count checks_in_one l;
  failed = count fails_one l;
  lying = lying l;
  lines = pool_lines_of l;
}

-- A pool hands out connections while it is ready. Behind a load balancer it is ready from its creation to its end, whether it is told or not.
abbrev pub hands_out : Facts → Bool
hands_out f = f.is_ready || (f.limits.is_load_balanced && not f.is_closed)

-- connections that were created and not closed
abbrev pub live : Facts → ℕ
live f = f.created - f.closed

-- of a connection

-- the pool handed out connections when this one was created
abbrev pub was_wanted : ℕ → List Recorded → Bool
was_wanted i [] = false
was_wanted i (e ∷ l) = if creates i e.event.told then hands_out (facts_of l) else was_wanted i l

-- how often the pool had been cleared when the connection was created
abbrev pub generation : ℕ → List Recorded → ℕ
generation i [] = 0
generation i (e ∷ l) = if creates i e.event.told then count clears l else generation i l

-- how often the pool had been paused when the connection became ready
abbrev pub readied_after : ℕ → List Recorded → ℕ
readied_after i [] = 0
readied_after i (e ∷ l) = if creates i e.event.told then 0 else (if readies i e.event.told then count pauses l else readied_after i l)

-- when the connection was put into the pool last, as far as that was told
abbrev pub rested_at : ℕ → List Recorded → Option ℕ
rested_at i [] = None
rested_at i (e ∷ l) = if creates i e.event.told then None else (if rests i e.event.told then e.event.at else rested_at i l)

-- the lines of the newest events that say what state a connection is in
abbrev pub connection_lines_of : ℕ → List Recorded → ConnectionLines
connection_lines_of i l = record {
  created = line_of (creates i) l;
  readied = line_since i (readies i) l;
  moved = line_of (moves i) l;
  rested = line_since i (rests i) l;
  closed = line_since i (closes i) l;
}

-- what the events tell of a connection, since one with its id was created last
abbrev pub connection_of : ℕ → List Recorded → Connection
connection_of i l = record {
  is_created = was (creates i) l;
  is_wanted = was_wanted i l;
  is_readied = was_since i (readies i) l;
  is_closed = was_since i (closes i) l;
  is_out = is_held i l;
  was_out = was_since i (checks_out i) l;
  generation = generation i l;
  readied_after = readied_after i l;
  rested_at = rested_at i l;
  lines = connection_lines_of i l;
}

-- what they tell of the connection that is named, if one is
abbrev pub connection_named : Option ℕ → List Recorded → Connection
connection_named None l = connection_of 0 []
connection_named (Some i) l = connection_of i l

-- of the pools that were at the address before

-- check-outs that were started and did not end, where so many did not end before
abbrev pub waiting : Facts → ℕ → ℕ
waiting f n = (n + f.started) - (f.outs + f.failed)

-- what is known of former pools after an event, which comes after these of the last pool
abbrev pub former_after : Told → List Recorded → Former → Former
former_after (PoolCreated limits) l x = record { is_closed = was closes_pool l || x.is_closed; left = x.left + live (facts_of l); waiting = waiting (facts_of l) x.waiting }
former_after (ConnectionClosed i reason) l x = if was (creates i) l then x else record x { left = x.left - 1 }
former_after _ l x = x

-- whether one of them was closed, how many of their connections are not, and how many check-outs did not end
abbrev pub former_of : ℕ → List Recorded → Former
former_of p [] = record { is_closed = false; left = 0; waiting = 0 }
former_of p (r ∷ h) = if r.pool == p then former_after r.event.told (life p h) (former_of p h) else former_of p h

-- of numbered check-outs

-- it has this number
abbrev pub is_numbered : ℕ → Option ℕ → Bool
is_numbered i None = false
is_numbered i (Some j) = j == i

-- how many numbered check-outs were started
abbrev pub numbered : List Recorded → ℕ
numbered [] = 0
numbered (e ∷ l) = if starts_one e.event.told && is_some e.event.caller then 1 + numbered l else numbered l

-- the place of a check-out in the order of their starts, since it was started last
abbrev pub place : ℕ → List Recorded → ℕ
place i [] = 0
place i (e ∷ l) = if is_numbered i e.event.caller && starts_one e.event.told then 1 + numbered l else place i l

-- a check-out was started, and neither served nor failed since
abbrev pub waits : ℕ → List Recorded → Bool
waits i [] = false
waits i (e ∷ l) = if is_numbered i e.event.caller && starts_one e.event.told then true else (if is_numbered i e.event.caller && ends_wait e.event.told then false else waits i l)

-- a check-out was started, and neither got a connection nor failed since
abbrev pub is_checking_out : ℕ → List Recorded → Bool
is_checking_out i [] = false
is_checking_out i (e ∷ l) = if is_numbered i e.event.caller && starts_one e.event.told then true else (if is_numbered i e.event.caller && ends_check_out e.event.told then false else is_checking_out i l)

-- the line on which a check-out with this number ended last
abbrev pub ended_on : ℕ → List Recorded → Option ℕ
ended_on i [] = None
ended_on i (e ∷ l) = if is_numbered i e.event.caller && ends_check_out e.event.told then Some e.line else ended_on i l

-- what the events tell of the check-out with this number
abbrev pub caller_of : ℕ → List Recorded → Caller
caller_of i l = record { is_waiting = waits i l; is_checking_out = is_checking_out i l; place = place i l; ended = ended_on i l }

-- what they tell of the one that is numbered, if one is
abbrev pub caller_numbered : Option ℕ → List Recorded → Caller
caller_numbered None l = caller_of 0 []
caller_numbered (Some i) l = caller_of i l

-- one that waits is served, and was started behind all that were served before, the last of which has the place n
abbrev pub overtakes : Told → Caller → ℕ → Bool
overtakes t c n = serves t && (c.is_waiting && nat_lt n c.place)

-- the greater place, where one that waits is served
abbrev pub latest_after : Told → Caller → ℕ → ℕ
latest_after t c n = if overtakes t c n then c.place else n

-- the greatest place of a check-out that waited and was served
abbrev pub latest : List Recorded → ℕ
latest [] = 0
latest (e ∷ l) = latest_after e.event.told (caller_numbered e.event.caller l) (latest l)

-- the line on which that one was served
abbrev pub latest_on : List Recorded → Option ℕ
latest_on [] = None
latest_on (e ∷ l) = if overtakes e.event.told (caller_numbered e.event.caller l) (latest l) then Some e.line else latest_on l

-- what the events tell of the order of their pool's numbered check-outs
abbrev pub turns_of : List Recorded → Turns
turns_of l = record { started = numbered l; latest = latest l; latest_on = latest_on l }
