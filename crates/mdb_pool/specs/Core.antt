-- A pool: its number, its address, its options, and what it keeps.
use Rattle.std.specs.Prelude.{ℕ, ◌≡◌}
use Rattle.mdb_base.specs.declared.address.ServerAddress.{ServerAddress}
use Rattle.mdb_log.specs.declared.options.PoolOptions.{PoolOptions}
use Rattle.mdb_pool.specs.Kept.Record.{Kept}

-- a pool; what it keeps is named by mdb_pool alone, and told to others by the queries of what a pool says of itself now
pub record PoolCore : Type 0 where
  pub pool : ℕ
  pub address : ServerAddress
  pub options : PoolOptions
  pub kept : Kept

-- the two pools keep the same, whatever they are read from
unfoldable pub SameKept : PoolCore → PoolCore → Type 0
SameKept s t = t ≡ record s { kept = record s.kept { inner = t.kept.inner } }
