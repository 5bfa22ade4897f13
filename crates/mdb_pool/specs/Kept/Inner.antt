-- What a pool is read from, and its room. No history speaks of it.
use Rattle.std.specs.Prelude.{ℕ, Bool, List}
use Rattle.mdb_base.specs.declared.address.ServerAddress.{ServerAddress}
use Rattle.mdb_log.specs.declared.options.PoolOptions.{PoolOptions}
use Rattle.mdb_slots.specs.NumberSet.{Spanned}
use Rattle.mdb_slots.specs.Sided.{SidedShelf, SidedCapacities}
use Rattle.mdb_slots.specs.Table.{Shelf, Capacities}
use Rattle.mdb_pool.specs.declared.kept.connection.Connection.{Connection}
use Rattle.mdb_pool.specs.declared.kept.marks.Marks.{Marks}
use Rattle.mdb_pool.specs.declared.kept.request.Request.{Request}
use Rattle.mdb_pool.specs.declared.kept.status.Status.{Status}
use Rattle.mdb_pool.specs.declared.kept.status.Clear.{Clear}

-- the numbers of the connections that are claimed, and the last of them, 0 where there is none
pub record Claimed : Type 0 where
  pub numbers : List ℕ
  pub last : ℕ

-- all clears, and the marks in memory that tell of them
pub record Cleared : Type 0 where
  pub all : List Clear
  pub marks : Marks

-- all requests and those that are settled, and what memory keeps: those that have not left, of these the settled ones, and all numbers where the pool stands alone
pub record Asked : Type 0 where
  pub alone : Bool
  pub all : List Request
  pub settled : List ℕ
  pub kept : SidedShelf Request
  pub told : Shelf ℕ
  pub known : Spanned

-- how long each part becomes without memory
pub record AskedRoom : Type 0 where
  pub kept : SidedCapacities
  pub told : Capacities
  pub known : ℕ

-- what a pool is read from
pub record PoolShelf : Type 0 where
  pub pool : ℕ
  pub address : ServerAddress
  pub options : PoolOptions
  pub last : ℕ
  pub created : ℕ
  pub connections : SidedShelf Connection
  pub requests : Asked
  pub status : Status
  pub clears : Cleared
  pub claimed : Claimed

-- how long each part becomes without memory
pub record PoolRoom : Type 0 where
  pub connections : SidedCapacities
  pub requests : AskedRoom

pub record Inner : Type 0 where
  pub base : PoolShelf
  pub room : PoolRoom
