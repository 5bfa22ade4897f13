-- What the opening of a driver makes.
use Rattle.std.specs.Prelude.{ℕ, ◌≡◌, ◌+◌, ◌≤◌, is_some, List, [], length, All}
use Rattle.mdb_base.specs.declared.address.ServerAddress.{ServerAddress}
use Rattle.mdb_base.specs.declared.options.Options.{Options}
use Rattle.mdb_describe.specs.declared.topology.TopologyDescription.{TopologyDescription}
use Rattle.mdb_describe.specs.Servers.{is_known}
use Rattle.mdb_events.specs.declared.fact.Fact.{Fact}
use Rattle.mdb_log.specs.History.{Item}
use Rattle.mdb_log.specs.Opening.{pool_options}
use Rattle.mdb_pool.specs.Core.{PoolCore}
use Rattle.mdb_pool.specs.Now.{last_now}
use Rattle.mdb_driver_rules.specs.Description.{begins_with}
use Rattle.mdb_driver_rules.specs.Publishing.{publication, opening}
use Rattle.mdb_driver_pools.specs.Standing.{at_address, PoolsStand}
use Rattle.mdb_driver_pools.specs.Telling.{Tells}

-- What is known changes from t to u, at once: the facts tell it, no pool is later than the moment, and a pool is then open for each server that is known.
pub record Publishes (o : Options) (m : ℕ) (t u : TopologyDescription) (pools later : List PoolCore) (before after : List Fact) : Type 0 where
  pub tells : Tells o m (publication o m t u) pools later before after
  pub early : All (λ s. last_now s ≤ m) later
  pub open_for : (k : List Item) → PoolsStand (pool_options o) pools k → (a : ServerAddress) → is_some (at_address later a) ≡ is_known a u.servers
  pub count : length later ≤ length pools + length u.servers

-- The driver is opened: what is known is what it begins with, the facts are those of the opening, no pool is later than the moment, and a pool is open for each server.
pub record IsOpened (o : Options) (m : ℕ) (pools : List PoolCore) (t : TopologyDescription) (facts : List Fact) : Type 0 where
  pub known : t ≡ begins_with o
  pub tells : Tells o m (opening o m o) [] pools [] facts
  pub early : All (λ s. last_now s ≤ m) pools
  pub open_for : (a : ServerAddress) → is_some (at_address pools a) ≡ is_known a t.servers
  pub few : length t.servers ≤ length o.seeds
