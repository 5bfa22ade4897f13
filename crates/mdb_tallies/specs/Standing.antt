-- What a history says of one connection, one party, one gift and one pool, as far as the auditor keeps it.
use Rattle.std.specs.Prelude.{ℕ, Bool, not, ◌&&◌, is_some, List}
use Rattle.mdb_log.specs.History.{Item, PoolItem, of_pool}
use Rattle.mdb_log.specs.Connections.{has, created_total, granted_to}
use Rattle.mdb_log.specs.Requests.{some_act, was_asked}
use Rattle.mdb_log.specs.declared.options.PoolOptions.{PoolOptions}
use Rattle.mdb_log.specs.PlainConnections.{connections, creations, closings, is_tried, is_available, pending_total, closed_total}
use Rattle.mdb_log.specs.PlainRequests.{pool_of, is_warm, is_granted, is_ended}
use Rattle.mdb_log.specs.PlainHolders.{has_returned, is_granted_to, is_taken_by, parties}
use Rattle.mdb_log.specs.PlainState.{pools, last_state, has_ready}
use Rattle.mdb_tallies.specs.Totals.{count}
use Rattle.mdb_tallies.specs.declared.connection.Connection.{Connection}
use Rattle.mdb_tallies.specs.declared.party.Gift.{Gift}
use Rattle.mdb_tallies.specs.declared.party.Party.{Party}
use Rattle.mdb_tallies.specs.declared.pools.Pool.{Pool}

-- the party took the connection and did not return; gone tells who returned
abbrev pub keeps : List PoolItem → (ℕ → Bool) → ℕ → ℕ → Bool
keeps xs gone c r = is_taken_by xs r c && not (gone r)

-- granted and not taken, and the party neither returned nor did its request end
abbrev pub is_lent : Bool → Bool → Bool → Bool → Bool
is_lent granted taken gone over = granted && (not taken && (not gone && not over))

-- the connection is lent to the party; over tells whose requests ended
abbrev pub borrows : List PoolItem → (ℕ → Bool) → (ℕ → Bool) → ℕ → ℕ → Bool
borrows xs gone over c r = is_lent (is_granted_to xs r c) (is_taken_by xs r c) (gone r) (over r)

-- a connection by its pool's items, and by who returned and whose request ended
abbrev pub connection_by : List PoolItem → (ℕ → Bool) → (ℕ → Bool) → ℕ → Connection
connection_by xs gone over c = record {
  creations = creations xs c;
  closings = closings xs c;
  is_tried = is_tried xs c;
  is_granted = is_some (granted_to xs c);
  is_available = is_available xs c;
  kept = count (keeps xs gone c) (parties xs c);
  lent = count (borrows xs gone over c) (parties xs c);
}

-- the connection c of pool p
abbrev pub connection_of : List Item → ℕ → ℕ → Connection
connection_of h p c = connection_by (of_pool p h) (has_returned h) (is_ended h) c

-- how the party r was given the connection c, by its pool's items
abbrev pub gift_by : List PoolItem → ℕ → ℕ → Gift
gift_by xs r c = record { is_granted = is_granted_to xs r c; is_taken = is_taken_by xs r c }

-- how the party r was given the connection c of pool p, by the history
abbrev pub gift_of : List Item → ℕ → ℕ → ℕ → Gift
gift_of h r p c = gift_by (of_pool p h) r c

-- the party r
abbrev pub party_of : List Item → ℕ → Party
party_of h r = record {
  is_asked = some_act was_asked h r;
  pool = pool_of h r;
  is_warm = is_warm h r;
  is_granted = is_granted h r;
  is_ended = is_ended h r;
  is_returned = has_returned h r;
}

-- a pool by its items, where opened tells whether it was
abbrev pub pool_by : PoolOptions → Bool → List PoolItem → Pool
pool_by o opened xs = record {
  is_opened = opened;
  is_ready = has_ready (last_state o xs);
  created = created_total xs;
  closed = closed_total xs;
  pending = pending_total xs;
  available = count (is_available xs) (connections xs);
}

-- the pool p, opened with these options
abbrev pub pool_stands : PoolOptions → List Item → ℕ → Pool
pool_stands o h p = pool_by o (has p (pools h)) (of_pool p h)
