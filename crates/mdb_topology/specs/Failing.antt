-- Steps by which a pending connection failed: which errors count, and what the pool does.
use Rattle.std.specs.Prelude.{ℕ, ◌≡◌, ◌&&◌, ◌||◌, ◌==◌, nat_le, Bool, true, false, not, if◌then◌else◌, List, [], Option, Some, None, is_some}
use Rattle.mdb_base.specs.declared.object_id.ObjectId.{ObjectId}
use Rattle.mdb_base.specs.declared.options.Options.{Options}
use Rattle.mdb_base.specs.declared.error.Error.{Error}
use Rattle.mdb_base.specs.Errors.{is_auth, is_incompatible, is_state_change}
use Rattle.mdb_describe.specs.declared.topology.TopologyDescription.{TopologyDescription}
use Rattle.mdb_describe.specs.Differences.{difference}
use Rattle.mdb_describe.specs.Topology.{server_at}
use Rattle.mdb_events.specs.declared.fact.Fact.{Fact}
use Rattle.mdb_log.specs.declared.step.Step.{Step}
use Rattle.mdb_log.specs.declared.step.FailedAt.{FailedAt}
use Rattle.mdb_log.specs.declared.step.FailedAt.TheVariants.{Pre, Post}
use Rattle.mdb_log.specs.History.{Item, PoolItem, of_pool, service_in}
use Rattle.mdb_log.specs.Opening.{pool_options}
use Rattle.mdb_pool.specs.Core.{PoolCore}
use Rattle.mdb_pool_rules.specs.Facts.{clear_facts}
use Rattle.mdb_pool.specs.Now.{clears_before_now, clears_now}
use Rattle.mdb_pool_rules.specs.Refusal.{wrong_service}
use Rattle.mdb_driver_pools.specs.declared.pool_change.PoolChange.{PoolChange}
use Rattle.mdb_driver_pools.specs.declared.trouble.Asked.{Asked}
use Rattle.mdb_driver_pools.specs.declared.trouble.Asked.TheVariants.{Nothing, CheckNow, CancelIfCleared}
use Rattle.mdb_topology.specs.declared.topology.TopologyCore.{TopologyCore}
use Rattle.mdb_topology.specs.Complaining.{is_hard_now}
use Rattle.mdb_driver_rules.specs.Current.{known_version, may_tell}
use Rattle.mdb_driver_rules.specs.Description.{Rule, rule_after}
use Rattle.mdb_driver_rules.specs.Facts.{trouble, clear_of, clearing, asking}
use Rattle.mdb_driver_pools.specs.Clearing.{asked_of}
use Rattle.mdb_driver_rules.specs.Publishing.{publication}
use Rattle.mdb_driver_pools.specs.Standing.{PoolsStand, is_here_among}
use Rattle.mdb_driver_rules.specs.Turns.{in_turn}
use Rattle.mdb_driver_pools.specs.Failing.{IsFailing, Fails}

-- the pool was not cleared, or not for the service, since the connection was created
abbrev pub is_uncleared : PoolCore → ℕ → Option ObjectId → Bool
is_uncleared s c t = clears_before_now s c t == clears_now s t

-- The connection is of the generation that its pool has, without and with load balancing.
abbrev pub is_timely : Bool → PoolCore → ℕ → FailedAt → Bool
is_timely false s c Pre = nat_le (clears_now s None) (clears_before_now s c None)
is_timely false s c (Post service) = is_uncleared s c None
is_timely true s c Pre = false
is_timely true s c (Post None) = true
is_timely true s c (Post (Some t)) = is_uncleared s c (Some t)

-- the error about the pending connection of the pool is current
abbrev pub regards_now : TopologyCore → PoolCore → ℕ → FailedAt → Error → Bool
regards_now w s c at e =
    not (is_incompatible e.kind)
    && (is_here_among w.pools.cores.items s.address s.pool
    && (may_tell (known_version (server_at s.address w.description.servers)) e.topology_version
    && is_timely w.options.load_balanced s c at))

-- what is cleared after the error, where its server changed or the connection has a service
abbrev pub clears_after : PoolCore → ℕ → Error → Bool
clears_after s c e = not (is_state_change e.kind) || is_hard_now s c e

-- the service that is cleared after it
abbrev pub service_after : PoolCore → ℕ → FailedAt → Error → Option ObjectId
service_after s c at e = if clears_after s c e then service_in at else None

-- what the monitor is asked after it
abbrev pub asked_after : Error → Asked
asked_after e = if is_state_change e.kind then CheckNow else (if is_auth e.kind then Nothing else CancelIfCleared)

-- what is cleared of the pool, by what it knows
abbrev pub cleared_facts : Bool → Options → ℕ → PoolCore → List PoolItem → Option ObjectId → Error → List Fact
cleared_facts false o m s xs service error = []
cleared_facts true o m s xs service error = clear_facts s.pool s.address (pool_options o) m xs service error

-- What the step tells of its error: the rule that it applies, what it clears of the pool, and what it asks.
pub record TellsFailure (o : Options) (h : List Item) (step : Step) (s : PoolCore) (rule : Option Rule) (cleared : Bool) (service : Option ObjectId) (error : Error) (asked : Asked) : Type 0 where
  pub failing : IsFailing s step error
  pub fitting : cleared ≡ true → wrong_service o.load_balanced service ≡ false
  pub rule_is : rule_after o h step ≡ rule
  pub clears_are : (k : List Item) → clearing o step.moment (trouble o h step) (clear_of o h step) k ≡ cleared_facts cleared o step.moment s (of_pool s.pool k) service error
  pub asks_are : (k : List Item) → asking o (trouble o h step) (clear_of o h step) k ≡ asked_of asked cleared s.address

-- what is told of the change to u, whatever was told before
abbrev pub IsToldOf : TopologyCore → ℕ → TopologyDescription → List Fact → Type 0
IsToldOf w m u facts = (k : List Item) → PoolsStand (pool_options w.options) w.pools.cores.items k → in_turn m (publication w.options m w.description u) k ≡ facts

-- A mark and the failure are told.
abbrev pub FailureTold : TopologyCore → Step → ℕ → TopologyDescription → Error → Bool → Asked → List PoolChange → List Fact → Type 0
FailureTold w step i u error clears asked changes facts =
    (before : List Fact) × IsToldOf w step.moment u before × Fails (is_some (difference w.description.servers u.servers) && clears) w.pools.cores.items i step None error asked [] changes before facts
