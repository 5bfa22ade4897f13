-- What a step of one pool makes of a driver, where it is done in place.
use Rattle.std.specs.Prelude.{ℕ, ◌≡◌, ◌||◌, List, true}
use Rattle.mdb_intervals.specs.Spans.{has as is_within}
use Rattle.mdb_log.specs.declared.log.Entry.{Entry}
use Rattle.mdb_log.specs.declared.reply.Reply.{Reply}
use Rattle.mdb_log.specs.declared.step.Step.{Step}
use Rattle.mdb_log.specs.Connections.{has}
use Rattle.mdb_log.specs.Requests.{names_party}
use Rattle.mdb_pool.specs.Core.{PoolCore}
use Rattle.mdb_topology.specs.declared.topology.TopologyCore.{TopologyCore}
use Rattle.mdb_driver_pools.specs.Asking.{DoesAt}
use Rattle.mdb_driver_pools.specs.Living.{lives_at}

-- The pool s at the place i did the step and logged it; its moment is the last, its party is known, and all else stays.
pub record Enters (s : PoolCore) (i : ℕ) (w v : TopologyCore) (before after : List Entry) (seat : ℕ) (step : Step) (reply : Reply) : Type 0 where
  pub does : DoesAt s w.pools.cores.items i v.pools.cores.items before after seat step reply
  pub options : v.options ≡ w.options
  pub description : v.description ≡ w.description
  pub last : v.pools.last ≡ step.moment
  pub monitors : v.monitors.items ≡ w.monitors.items
  pub published : v.published ≡ w.published
  pub stopped : v.stopped ≡ w.stopped
  pub fresh : v.fresh ≡ w.fresh
  pub watchers : v.watchers ≡ w.watchers
  pub known : (r : ℕ) → is_within r v.pools.known.spans ≡ names_party step.act r || is_within r w.pools.known.spans
  pub kept : (p : ℕ) → lives_at v.pools.cores.items p ≡ true → has p v.monitors.kept ≡ has p w.monitors.kept
