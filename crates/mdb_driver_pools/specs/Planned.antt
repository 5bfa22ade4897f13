-- What a step does to the pools of a driver, planned before any of them changes.
use Rattle.std.specs.Prelude.{ℕ, ◌≡◌, ◌≤◌, Bool, true, false, not, ◌&&◌, ◌||◌, is_some, List, [], ◌∷◌, ◌++◌, length, map, set, slice_get, Some, All}
use Rattle.mdb_base.specs.declared.address.ServerAddress.{ServerAddress}
use Rattle.mdb_base.specs.declared.options.Options.{Options}
use Rattle.mdb_describe.specs.Servers.{is_listed}
use Rattle.mdb_events.specs.declared.fact.Fact.{Fact}
use Rattle.mdb_log.specs.History.{Item}
use Rattle.mdb_log.specs.Homes.{Home}
use Rattle.mdb_log.specs.Opening.{pool_options}
use Rattle.mdb_pool.specs.Core.{PoolCore}
use Rattle.mdb_pool.specs.Now.{is_spent, last_now}
use Rattle.mdb_pool.specs.Planning.{Plans}
use Rattle.mdb_driver_pools.specs.declared.pool_change.PoolChange.{PoolChange}
use Rattle.mdb_driver_pools.specs.declared.pool_change.PoolChange.TheVariants.{Alter, Open}
use Rattle.mdb_driver_pools.specs.Standing.{home, at_address, PoolsStand}
use Rattle.mdb_driver_pools.specs.Telling.{Tells}

-- One pool, in which something lives, changes as it was planned, or one more is opened.
abbrev pub Leads : PoolChange → List PoolCore → List PoolCore → Type 0
Leads (Alter i plan) pools later = (s : PoolCore) × (t : PoolCore) × (slice_get pools i ≡ Some s) × Plans plan s t × (later ≡ set pools i t) × (is_spent s ≡ false)
Leads (Open core) pools later = later ≡ pools ++ core ∷ []

-- changes one after another
abbrev pub LeadsAll : List PoolChange → List PoolCore → List PoolCore → Type 0
LeadsAll [] pools later = later ≡ pools
LeadsAll (x ∷ more) pools later = (between : List PoolCore) × Leads x pools between × LeadsAll more between later

-- how many pools a change opens
abbrev pub pools_opened : PoolChange → ℕ
pools_opened (Alter i plan) = 0
pools_opened (Open core) = 1

-- the pools that changes open
abbrev pub opened_by : List PoolChange → List Home
opened_by [] = []
opened_by (Open core ∷ more) = home core ∷ opened_by more
opened_by (Alter i plan ∷ more) = opened_by more

-- At the address the pools are as they were before.
abbrev pub Agrees : List PoolCore → List PoolCore → ServerAddress → Type 0
Agrees before now a = (at_address now a ≡ at_address before a) × ((i : ℕ) → at_address before a ≡ Some i → slice_get now i ≡ slice_get before i)

-- The changes were planned on these pools, and are to be made on pools that are as those at the addresses that they touch: there are as many as the first
-- of the opened pools has for its number, and no pool was stepped after the moment.
pub record CanTake (m : ℕ) (planned now : List PoolCore) (n : ℕ) (touched : ServerAddress → Bool) : Type 0 where
  pub agrees : (a : ServerAddress) → touched a ≡ true → Agrees planned now a
  pub count : length now ≡ n
  pub early : All (λ s. last_now s ≤ m) now

-- Parts of a step at the moment m, planned on the pools: the changes that they come to and the facts that they add.
pub record IsPlanned (o : Options) (m : ℕ) (planned : List PoolCore) (n : ℕ) (touched : ServerAddress → Bool) (parts : List (List Item → List Fact)) (changes : List PoolChange) (before after : List Fact) : Type 0 where
  -- the changes can be made
  pub leads : (now : List PoolCore) → CanTake m planned now n touched → (later : List PoolCore) × LeadsAll changes now later
  -- the pools then stand for the history with the facts of the parts
  pub tells : (now later : List PoolCore) → CanTake m planned now n touched → LeadsAll changes now later → Tells o m parts now later before after
  -- and every other address stays as it is
  pub keeps : (now later : List PoolCore) (b : ServerAddress) → CanTake m planned now n touched → LeadsAll changes now later → touched b ≡ false → Agrees now later b
  pub early : (now later : List PoolCore) → CanTake m planned now n touched → LeadsAll changes now later → All (λ s. last_now s ≤ m) later
  pub homes : (now later : List PoolCore) → CanTake m planned now n touched → LeadsAll changes now later → map home later ≡ map home now ++ opened_by changes

-- Of the addresses with an open pool, those of the gone servers have none afterwards, and the opened ones have one.
abbrev pub LeavesOpen : Options → ℕ → List PoolCore → ℕ → (ServerAddress → Bool) → List PoolChange → List ServerAddress → List ServerAddress → Type 0
LeavesOpen o m planned n touched changes gone opened =
    (now later : List PoolCore) (k : List Item) (a : ServerAddress) → CanTake m planned now n touched → LeadsAll changes now later → PoolsStand (pool_options o) now k
    → is_some (at_address later a) ≡ (is_some (at_address now a) && not (is_listed gone a)) || is_listed opened a

-- These parts were planned after others: their changes stand behind the earlier ones, close the pools of the gone servers and open one for each that is opened.
pub record PlansMore (o : Options) (m : ℕ) (planned : List PoolCore) (n : ℕ) (touched : ServerAddress → Bool) (parts : List (List Item → List Fact)) (gone opened : List ServerAddress) (earlier changes : List PoolChange) (before after : List Fact) : Type 0 where
  pub added : List PoolChange
  pub behind : changes ≡ earlier ++ added
  pub opens : map (λ x. x.address) (opened_by added) ≡ opened
  pub leaves : LeavesOpen o m planned n touched added gone opened
  pub planned_are : IsPlanned o m planned n touched parts added before after
