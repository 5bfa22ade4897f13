-- The limits of a pool: how many of its connections are pending, and how many live.
use Rattle.std.specs.Prelude.{◌≤◌, max, List, [], ◌∷◌, length}
use Rattle.mdb_log.specs.declared.options.PoolOptions.{PoolOptions}
use Rattle.mdb_log.specs.History.{PoolItem}
use Rattle.mdb_log.specs.Connections.{live_total, pending_list}
use Rattle.mdb_log.specs.State.{max_size, min_size, max_connecting}

-- no more are pending than may be established at once, and no more live than the greater of the two sizes
pub record IsWithin (o : PoolOptions) (xs : List PoolItem) : Type 0 where
  pub pending : length (pending_list xs) ≤ max_connecting o
  pub live : live_total xs ≤ max (max_size o) (min_size o)

-- Within limits: so it is now, and so it was after each item before.
abbrev pub WithinLimits : PoolOptions → List PoolItem → Type 0
WithinLimits o [] = IsWithin o []
WithinLimits o (x ∷ xs) = IsWithin o (x ∷ xs) × WithinLimits o xs
