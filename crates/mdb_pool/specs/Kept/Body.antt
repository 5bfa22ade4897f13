-- What a pool is read from, and how its changes are made again.
use Rattle.std.specs.Prelude.{ℕ, Option}
use Rattle.mdb_slots.specs.Open.{or_else}
use Rattle.mdb_slots.specs.Table.{items}
use Rattle.mdb_slots.specs.Sided.{SidedSteps, SidedFits, sided_after, sided_capacity_after}
use Rattle.mdb_pool.specs.Kept.Places.{is_available, is_pending}
use Rattle.mdb_pool.specs.declared.kept.connection.Connection.{Connection}
use Rattle.mdb_pool.specs.declared.kept.status.Status.{Status}
use Rattle.mdb_pool.specs.Kept.Inner.{PoolShelf, PoolRoom, Inner}
use Rattle.mdb_pool.specs.Kept.Asking.{AskedSteps, asked_after, asked_room_after, AskedFits}
use Rattle.mdb_pool.specs.Kept.Claiming.{ClaimSteps, claimed_after, ClaimsFit}
use Rattle.mdb_pool.specs.Kept.Clearing.{ClearSteps, cleared_after, ClearsFit}
use Rattle.mdb_pool.specs.Core.{PoolCore}
use Rattle.mdb_pool.specs.declared.kept.body.Body.{Body}

-- the changes of a pool
pub record PoolSteps : Type 0 where
  pub last : Option ℕ
  pub created : Option ℕ
  pub connections : SidedSteps Connection
  pub requests : AskedSteps
  pub status : Option Status
  pub clears : ClearSteps
  pub claimed : ClaimSteps

-- the pool that is read from it
abbrev pub pool_of : Inner → PoolCore
pool_of i = record {
  pool = i.base.pool;
  address = i.base.address;
  options = i.base.options;
  kept = record {
    last = i.base.last;
    created = i.base.created;
    connections = items i.base.connections.table;
    requests = i.base.requests.all;
    status = i.base.status;
    clears = i.base.clears.all;
    settled = i.base.requests.settled;
    claimed = i.base.claimed.numbers;
    alone = i.base.requests.alone;
    inner = i;
  };
}

-- what the pool is read from once the changes are made
abbrev pub pool_after : PoolSteps → PoolShelf → PoolShelf
pool_after p s = record {
  pool = s.pool;
  address = s.address;
  options = s.options;
  last = or_else p.last s.last;
  created = or_else p.created s.created;
  connections = sided_after p.connections s.connections;
  requests = asked_after p.requests s.requests;
  status = or_else p.status s.status;
  clears = cleared_after p.clears s.clears;
  claimed = claimed_after p.claimed s.claimed;
}

-- how long each part becomes without memory once the changes are made
abbrev pub room_after : PoolSteps → PoolRoom → PoolRoom
room_after p r = record {
  connections = sided_capacity_after p.connections r.connections;
  requests = asked_room_after p.requests r.requests;
}

abbrev pub inner_after : PoolSteps → Inner → Inner
inner_after p i = record { base = pool_after p i.base; room = room_after p i.room }

-- the pool as it is once the changes are made
abbrev pub led : PoolSteps → PoolCore → PoolCore
led p s = pool_of (inner_after p s.kept.inner)

-- the changes can be made without memory, and lead to a pool
abbrev pub PoolFits : PoolSteps → Inner → Type 0
PoolFits p i =
    SidedFits (λ x. x.id) (λ x. x.service) (λ x. x.since) (λ x. is_available x.place) (λ x. is_pending x.place) p.connections i.base.connections i.room.connections
    × AskedFits p.requests i.base.requests i.room.requests
    × ClearsFit (or_else p.created i.base.created) (cleared_after p.clears i.base.clears) (items (sided_after p.connections i.base.connections).table)
    × ClaimsFit (or_else p.created i.base.created) (claimed_after p.claimed i.base.claimed) (items (sided_after p.connections i.base.connections).table)

-- what the parts of a pool are read from
abbrev pub base_of : Body → PoolShelf
base_of b = record {
  pool = b.pool;
  address = b.address;
  options = b.options;
  last = b.last.base;
  created = b.connections.created.base;
  connections = b.connections.base;
  requests = b.requests.base;
  status = b.status.base;
  clears = b.connections.cleared;
  claimed = b.connections.settled;
}

abbrev pub room_of : Body → PoolRoom
room_of b = record {
  connections = b.connections.capacity;
  requests = b.requests.capacity;
}

abbrev pub inner_of : Body → Inner
inner_of b = record { base = base_of b; room = room_of b }

abbrev pub now_of : Body → PoolCore
now_of b = record {
  pool = b.pool;
  address = b.address;
  options = b.options;
  kept = record {
    last = b.last.now;
    created = b.connections.created.now;
    connections = b.connections.now;
    requests = b.requests.now;
    status = b.status.now;
    clears = b.connections.clears;
    settled = b.requests.settled;
    claimed = b.connections.claimed;
    alone = b.requests.base.alone;
    inner = inner_of b;
  };
}
