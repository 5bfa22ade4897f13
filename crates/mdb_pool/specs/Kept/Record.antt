-- What a pool keeps.
use Rattle.std.specs.Prelude.{ℕ, Bool, List}
use Rattle.mdb_pool.specs.declared.kept.connection.Connection.{Connection}
use Rattle.mdb_pool.specs.declared.kept.request.Request.{Request}
use Rattle.mdb_pool.specs.declared.kept.status.Status.{Status}
use Rattle.mdb_pool.specs.declared.kept.status.Clear.{Clear}
use Rattle.mdb_pool.specs.Kept.Inner.{Inner}

-- the moment of the last step of the pool, how many connections it created, its connections and requests in the order in which they were put, its state
-- and its clears, the requests whose outcome was told or that gave up or came back, the connections that a claim was told to establish, whether it stands alone, and so keeps the numbers of all
-- its parties, as in a driver the driver does, and what it is read from
pub record Kept : Type 0 where
  pub last : ℕ
  pub created : ℕ
  pub connections : List Connection
  pub requests : List Request
  pub status : Status
  pub clears : List Clear
  pub settled : List ℕ
  pub claimed : List ℕ
  pub alone : Bool
  pub inner : Inner
