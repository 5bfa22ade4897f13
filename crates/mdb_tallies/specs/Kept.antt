-- What the tables keep after a change.
use Rattle.std.specs.Prelude.{List, ℕ, ◌+◌, ◌≡◌, Bool, ◌<◌, false, ◌||◌, if◌then◌else◌}
use Rattle.mdb_log.specs.declared.options.PoolOptions.{PoolOptions}
use Rattle.mdb_log.specs.History.{Item}
use Rattle.mdb_tallies.specs.declared.connection.Connection.{Connection}
use Rattle.mdb_tallies.specs.Standing.{connection_of, gift_of, party_of, pool_stands}
use Rattle.mdb_tallies.specs.declared.party.Gift.{Gift}
use Rattle.mdb_tallies.specs.declared.occurrence.Occurrence.{Occurrence}
use Rattle.mdb_tallies.specs.declared.occurrence.How.{How}
use Rattle.mdb_tallies.specs.Lists.{nth, len, listed}
use Rattle.mdb_tallies.specs.declared.tables.Tables.{Tables}
use Rattle.mdb_tallies.specs.Tables.{at, same_key}
use Rattle.mdb_tallies.specs.Changes.{connection_after, gift_after, party_after, pool_after, recounted, by_party}

-- one connection of a pool is this now, and the pool created so many more
pub record Replaces (pool id : ℕ) (x : Connection) (created : ℕ) (old new : Tables) : Type 0 where
  pub connections : (a b c : ℕ) → at new.connections a b c ≡ (if same_key pool id 0 a b c then x else at old.connections a b c)
  pub pools : (a b c : ℕ) → at new.pools a b c ≡ (if same_key pool 0 0 a b c then recounted (at old.connections pool id 0) x (record (at old.pools pool 0 0) { created = (at old.pools pool 0 0).created + created }) else at old.pools a b c)
  pub parties : new.parties ≡ old.parties
  pub gifts : new.gifts ≡ old.gifts
  pub places : new.places ≡ old.places

-- The lists of a party's places have each connection that it was given, once.
pub record Covers (t : Tables) : Type 0 where
  pub all : (r p c : ℕ) → listed (len t.places r) (nth t.places r) p c ≡ (at t.gifts r p c).is_granted || (at t.gifts r p c).is_taken
  pub once : (r i : ℕ) → i < len t.places r → listed i (nth t.places r) (nth t.places r i).pool (nth t.places r i).id ≡ false

-- the first places of the party changed by what it did, and nothing else
pub record SoFar (how : How) (r i : ℕ) (old new : Tables) : Type 0 where
  pub connections : (p c : ℕ) → at new.connections p c 0 ≡ (if listed i (nth old.places r) p c then by_party how (at old.gifts r p c) (at old.parties r 0 0) (at old.connections p c 0) else at old.connections p c 0)
  pub gifts : new.gifts ≡ old.gifts
  pub parties : new.parties ≡ old.parties
  pub pools : new.pools ≡ old.pools
  pub places : new.places ≡ old.places

-- all that one party was given changed by what it did, and nothing else
pub record PartyDid (how : How) (r : ℕ) (old new : Tables) : Type 0 where
  pub connections : (p c : ℕ) → at new.connections p c 0 ≡ by_party how (at old.gifts r p c) (at old.parties r 0 0) (at old.connections p c 0)
  pub gifts : new.gifts ≡ old.gifts
  pub parties : new.parties ≡ old.parties
  pub pools : new.pools ≡ old.pools
  pub places : new.places ≡ old.places

-- The tables after a change: each connection, gift, party and pool is what it is after the change.
pub record Follows (balanced : Bool) (change : Occurrence) (old new : Tables) : Type 0 where
  pub connections : (p c : ℕ) → at new.connections p c 0 ≡ connection_after change (λ r. at old.gifts r p c) (λ r. at old.parties r 0 0) p c (at old.connections p c 0)
  pub gifts : (r p c : ℕ) → at new.gifts r p c ≡ gift_after change r p c (at old.gifts r p c)
  pub parties : (r : ℕ) → at new.parties r 0 0 ≡ party_after change r (at old.parties r 0 0)
  pub pools : (p : ℕ) → at new.pools p 0 0 ≡ pool_after change balanced (λ c. at old.connections p c 0) (λ c. at new.connections p c 0) p (at old.pools p 0 0)
  pub lists : Covers old → Covers new

-- the party was given the connection in this way, and nothing else changed
pub record Gives (r p c : ℕ) (gift : Gift) (old new : Tables) : Type 0 where
  pub gifts : (x y z : ℕ) → at new.gifts x y z ≡ (if same_key r p c x y z then gift else at old.gifts x y z)
  pub connections : new.connections ≡ old.connections
  pub parties : new.parties ≡ old.parties
  pub pools : new.pools ≡ old.pools
  pub lists : Covers old → Covers new

-- The tables are those of the history, in pools that were opened with these options.
pub record Stands (o : PoolOptions) (h : List Item) (t : Tables) : Type 0 where
  pub connections : (p c : ℕ) → at t.connections p c 0 ≡ connection_of h p c
  pub gifts : (r p c : ℕ) → at t.gifts r p c ≡ gift_of h r p c
  pub parties : (r : ℕ) → at t.parties r 0 0 ≡ party_of h r
  pub pools : (p : ℕ) → at t.pools p 0 0 ≡ pool_stands o h p
  pub lists : Covers t
