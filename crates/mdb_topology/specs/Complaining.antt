-- Which errors of operations still concern their server, by what is kept.
use Rattle.std.specs.Prelude.{ℕ, ◌≡◌, ◌==◌, Bool, true, not, slice_get, ◌&&◌, ◌||◌, if◌then◌else◌, Option, Some, None, is_some, unwrap_or, pos, int_lt}
use Rattle.mdb_base.specs.declared.object_id.ObjectId.{ObjectId}
use Rattle.mdb_base.specs.declared.error.Error.{Error}
use Rattle.mdb_base.specs.Errors.{is_incompatible, is_shutting_down, is_state_change}
use Rattle.mdb_describe.specs.Topology.{server_at}
use Rattle.mdb_pool.specs.Core.{PoolCore}
use Rattle.mdb_pool.specs.Now.{clears_before_now, clears_now, held_now, service_now, wire_now}
use Rattle.mdb_topology.specs.declared.topology.TopologyCore.{TopologyCore}
use Rattle.mdb_driver_rules.specs.Current.{operating, known_version, may_tell}
use Rattle.mdb_driver_rules.specs.Errors.{case_of}
use Rattle.mdb_driver_pools.specs.Finding.{holder}
use Rattle.mdb_driver_pools.specs.Standing.{is_here_among}

-- the generation of the connection is not the one that the pool has
abbrev pub is_outdated : PoolCore → ℕ → Bool
is_outdated s c =
    let t : Option ObjectId = if s.options.load_balanced then service_now s c else None in
    not (s.options.load_balanced && not (is_some t)) && not (clears_before_now s c t == clears_now s t)

-- an error of an operation on the connection of the pool is current
abbrev pub concerns_now : TopologyCore → PoolCore → ℕ → Error → Bool
concerns_now w s c e =
    not (is_incompatible e.kind)
    && (is_here_among w.pools.cores.items s.address s.pool
    && (may_tell (known_version (server_at s.address w.description.servers)) e.topology_version
    && not (is_outdated s c)))

-- the server shuts down, or the wire version of the connection is below 8
abbrev pub is_hard_now : PoolCore → ℕ → Error → Bool
is_hard_now s c e = is_shutting_down e.kind || int_lt (unwrap_or (wire_now s c) (pos 0)) (pos 8)

-- the service that an error clears under load balancing
abbrev pub service_cleared : PoolCore → ℕ → Error → Option ObjectId
service_cleared s c e = if is_state_change e.kind && not (is_hard_now s c e) then None else service_now s c

-- The party holds the connection of the pool at the index, and the error about it is current and has a row.
pub record Complains (w : TopologyCore) (r i id : ℕ) (e : Error) : Type 0 where
  pub pool : PoolCore
  pub held : holder w.pools.cores.items r ≡ Some i
  pub there : slice_get w.pools.cores.items i ≡ Some pool
  pub has : held_now pool r ≡ Some id
  pub current : concerns_now w pool id e ≡ true
  pub row : is_some (case_of operating e) ≡ true
