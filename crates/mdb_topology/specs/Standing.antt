-- When what a driver keeps stands for its history.
use Rattle.std.specs.Prelude.{ℕ, ◌^◌, ◌≡◌, ◌≤◌, Bool, true, is_some, List, [], length, map, slice_get, Some, None, All}
use Rattle.mdb_pool.specs.Now.{last_now}
use Rattle.mdb_intervals.specs.Spans.{has as is_within}
use Rattle.mdb_base.specs.declared.address.ServerAddress.{ServerAddress}
use Rattle.mdb_base.specs.declared.options.Options.{Options}
use Rattle.mdb_describe.specs.declared.topology.TopologyDescription.{TopologyDescription}
use Rattle.mdb_describe.specs.Servers.{in_order, is_known}
use Rattle.mdb_monitor.specs.declared.monitor.MonitorCore.{MonitorCore}
use Rattle.mdb_monitor.specs.Standing.{StandsFor as MonitorStands}
use Rattle.mdb_log.specs.History.{Item, open_pool, last_moment}
use Rattle.mdb_log.specs.Connections.{has}
use Rattle.mdb_log.specs.Requests.{some_act, names_party}
use Rattle.mdb_log.specs.Homes.{homes}
use Rattle.mdb_log.specs.Opening.{pool_options}
use Rattle.mdb_topology.specs.declared.topology.TopologyCore.{TopologyCore}
use Rattle.mdb_driver_pools.specs.Living.{lives_at}
use Rattle.mdb_driver_rules.specs.Monitors.{setting, monitor_items, fresh, watchers_of}
use Rattle.mdb_driver_rules.specs.Description.{description_of, published, is_stopped}
use Rattle.mdb_driver_pools.specs.Standing.{PoolsStand}

-- There is a monitor for each pool, by number, which knows what was done at it.
pub record MonitorsFit (o : Options) (monitors : List MonitorCore) (h : List Item) : Type 0 where
  pub settings : map (λ m. m.setting) monitors ≡ map (λ x. setting o x.address) (homes h)
  pub each : (p : ℕ) (m : MonitorCore) → slice_get monitors p ≡ Some m → MonitorStands m (monitor_items h p)
  pub rest : (p : ℕ) → slice_get monitors p ≡ None → monitor_items h p ≡ []

-- What is known of the topology: in the order of addresses, at most 128 servers, and a pool is open for each.
pub record Describes (o : Options) (t : TopologyDescription) (h : List Item) : Type 0 where
  pub known : description_of o h ≡ t
  pub ordered : in_order t.servers ≡ true
  pub few : length t.servers ≤ 128
  pub open_for : (a : ServerAddress) → is_some (open_pool h a) ≡ is_known a t.servers

-- What a driver keeps besides.
pub record Counts (o : Options) (last publications numbers : ℕ) (stopped : Bool) (watchers : List ℕ) (h : List Item) : Type 0 where
  pub last_is : last_moment h ≡ last
  pub publications_are : published o h ≡ publications
  pub numbers_are : fresh h ≡ numbers
  pub stopped_is : is_stopped h ≡ stopped
  pub watchers_are : watchers_of h ≡ watchers

-- What a driver keeps stands for its history.
pub record StandsFor (w : TopologyCore) (h : List Item) : Type 0 where
  pub pools : PoolsStand (pool_options w.options) w.pools.cores.items h
  pub monitors : MonitorsFit w.options w.monitors.items h
  pub described : Describes w.options w.description h
  pub counts : Counts w.options w.pools.last w.published w.fresh w.stopped w.watchers h
  -- the numbers of all parties that some act named
  pub known : (r : ℕ) → is_within r w.pools.known.spans ≡ some_act names_party h r
  -- memory keeps the monitor of each pool in which something lives
  pub watched : (p : ℕ) → lives_at w.pools.cores.items p ≡ true → has p w.monitors.kept ≡ true
  -- their numbers are of 32 bits
  pub numbers : length w.pools.cores.items ≤ 2 ^ 32
  -- no pool was stepped after the last moment
  pub early : All (λ s. last_now s ≤ w.pools.last) w.pools.cores.items

-- it stands for some history
abbrev pub StandsForSome : TopologyCore → Type 0
StandsForSome w = (h : List Item) × StandsFor w h

-- the same state, but for the room of its lists
pub record IsSame (w v : TopologyCore) : Type 0 where
  pub options : v.options ≡ w.options
  pub description : v.description ≡ w.description
  pub published : v.published ≡ w.published
  pub stopped : v.stopped ≡ w.stopped
  pub cores : v.pools.cores.items ≡ w.pools.cores.items
  pub known : v.pools.known.spans ≡ w.pools.known.spans
  pub last : v.pools.last ≡ w.pools.last
  pub monitors : v.monitors.items ≡ w.monitors.items
  pub kept : v.monitors.kept ≡ w.monitors.kept
  pub fresh : v.fresh ≡ w.fresh
  pub watchers : v.watchers ≡ w.watchers
