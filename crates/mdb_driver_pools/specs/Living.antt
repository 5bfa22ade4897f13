-- The pools of a driver in which something lives: memory keeps those, and no others.
use Rattle.std.specs.Prelude.{ℕ, suc, ◌==◌, Bool, false, not, if◌then◌else◌, List, [], ◌∷◌, position, remove, slice_get, Option, Some, None}
use Rattle.mdb_pool.specs.Core.{PoolCore}
use Rattle.mdb_pool.specs.Now.{is_spent}
use Rattle.mdb_driver_pools.specs.declared.placed.Placed.{Placed}

-- the pools that were opened, by number, and how many there may be before memory is wanted
pub record PoolList : Type 0 where
  pub items : List PoolCore
  pub room : ℕ

-- there is a pool, and something lives in it
abbrev pub lives_in : Option PoolCore → Bool
lives_in None = false
lives_in (Some s) = not (is_spent s)

-- something lives in the pool with the number p
abbrev pub lives_at : List PoolCore → ℕ → Bool
lives_at pools p = lives_in (slice_get pools p)

-- the pool, where something lives in it
abbrev pub if_lives : Option PoolCore → Option PoolCore
if_lives None = None
if_lives (Some s) = if is_spent s then None else Some s

-- the pool with the number p, where something lives in it
abbrev pub living_at : List PoolCore → ℕ → Option PoolCore
living_at pools p = if_lives (slice_get pools p)

-- those in which something lives, by number, where the first of the pools has the number n
abbrev pub living_from : ℕ → List PoolCore → List Placed
living_from n [] = []
living_from n (s ∷ more) = if is_spent s then living_from (suc n) more else record { place = n; core = s } ∷ living_from (suc n) more

-- where the pool with the number p stands among those
abbrev pub index_in : List PoolCore → ℕ → Option ℕ
index_in pools p = position (λ x. x.place == p) (living_from 0 pools)

-- Without the one at the index, where nothing lives in it.
abbrev pub left_at : List Placed → ℕ → List Placed
left_at xs i = on (slice_get xs i)
  where
    on : Option Placed → List Placed
    on None = xs
    on (Some x) = if is_spent x.core then remove xs i else xs

-- the one that was read, where its place is p
abbrev pub if_at : ℕ → Option Placed → Option Placed
if_at p None = None
if_at p (Some x) = if x.place == p then Some x else None
