-- The connections of a pool and its clears, with changes that can be taken back.
use Rattle.std.specs.Prelude.{ℕ, List, Option}
use Rattle.mdb_slots.specs.Open.{OpenOne}
use Rattle.mdb_slots.specs.Sided.{SidedShelf, SidedSteps, SidedCapacities}
use Rattle.mdb_pool.specs.declared.kept.connection.Connection.{Connection}
use Rattle.mdb_pool.specs.declared.kept.status.Clear.{Clear}
use Rattle.mdb_pool.specs.Kept.Claiming.{ClaimSteps}
use Rattle.mdb_pool.specs.Kept.Clearing.{ClearSteps}
use Rattle.mdb_pool.specs.Kept.Inner.{Claimed, Cleared}

-- the connections, how many were created, what is claimed and what is cleared, as they are and as they were when they were last committed
pub record OpenConnections : Type 0 where
  pub now : List Connection
  pub base : SidedShelf Connection
  pub capacity : SidedCapacities
  pub created : OpenOne ℕ
  pub claimed : List ℕ
  pub settled : Claimed
  pub clears : List Clear
  pub cleared : Cleared

-- changes of them
pub record ConnectionSteps : Type 0 where
  pub live : SidedSteps Connection
  pub created : Option ℕ
  pub claimed : ClaimSteps
  pub clears : ClearSteps
