-- What a part of a step does to the pools of a driver.
use Rattle.std.specs.Prelude.{ℕ, ◌≡◌, List, ◌++◌}
use Rattle.mdb_base.specs.declared.options.Options.{Options}
use Rattle.mdb_events.specs.declared.fact.Fact.{Fact}
use Rattle.mdb_pool.specs.Core.{PoolCore}
use Rattle.mdb_log.specs.History.{Item, with_facts}
use Rattle.mdb_log.specs.LegalLog.{AllFirstCome}
use Rattle.mdb_log.specs.Beside.{AllFreshGrants}
use Rattle.mdb_log.specs.Opening.{pool_options}
use Rattle.mdb_driver_rules.specs.Turns.{in_turn}
use Rattle.mdb_driver_pools.specs.Standing.{PoolsStand}

-- These facts come after the history: they are added to those before them, the pools then stand for the longer history, and the grants among them are fair and fresh.
pub record Comes (o : Options) (m : ℕ) (facts : List Fact) (later : List PoolCore) (before after : List Fact) (k : List Item) : Type 0 where
  pub added : after ≡ before ++ facts
  pub stand : PoolsStand (pool_options o) later (with_facts m facts k)
  pub fair : AllFirstCome m k facts
  pub fresh : AllFreshGrants (pool_options o) m k facts

-- one part, after each history that the pools stand for
abbrev pub Makes : Options → ℕ → (List Item → List Fact) → List PoolCore → List PoolCore → List Fact → List Fact → Type 0
Makes o m part pools later before after = (k : List Item) → PoolsStand (pool_options o) pools k → Comes o m (part k) later before after k

-- parts one after another
abbrev pub Tells : Options → ℕ → List (List Item → List Fact) → List PoolCore → List PoolCore → List Fact → List Fact → Type 0
Tells o m parts pools later before after = Makes o m (in_turn m parts) pools later before after
