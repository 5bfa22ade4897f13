-- Errors about connections: of which connection, and which of them still concern the server.
use Rattle.std.specs.Prelude.{ℕ, nat_le, Bool, true, not, ◌&&◌, List, Option, Some, None, unwrap_or}
use Rattle.mdb_base.specs.declared.address.ServerAddress.{ServerAddress}
use Rattle.mdb_base.specs.declared.topology_version.TopologyVersion.{TopologyVersion}
use Rattle.mdb_base.specs.declared.options.Options.{Options}
use Rattle.mdb_base.specs.declared.error.Error.{Error}
use Rattle.mdb_base.specs.Errors.{is_incompatible, is_more_recent}
use Rattle.mdb_describe.specs.declared.description.ServerDescription.{ServerDescription}
use Rattle.mdb_describe.specs.declared.topology.TopologyDescription.{TopologyDescription}
use Rattle.mdb_describe.specs.Fields.{topology_version}
use Rattle.mdb_describe.specs.Topology.{server_at}
use Rattle.mdb_log.specs.declared.step.Act.{Act}
use Rattle.mdb_log.specs.declared.step.Act.TheVariants as Do
use Rattle.mdb_log.specs.declared.step.FailedAt.{FailedAt}
use Rattle.mdb_log.specs.declared.step.FailedAt.TheVariants.{Pre, Post}
use Rattle.mdb_log.specs.History.{Item, PoolItem, of_pool}
use Rattle.mdb_log.specs.Connections.{holding}
use Rattle.mdb_log.specs.State.{generation_of, generation_before, is_stale}
use Rattle.mdb_log.specs.Homes.{Home}
use Rattle.mdb_log.specs.Opening.{pool_options}
use Rattle.mdb_driver_rules.specs.Homes.{home_at, home_of, is_here}

-- when an error came about a connection
pub data Phase : Type 0 where
  establishing : FailedAt → Phase
  operating : Phase

-- an error about a connection of a pool
pub record Complaint : Type 0 where
  pub pool : ℕ
  pub address : ServerAddress
  pub connection : ℕ
  pub phase : Phase
  pub error : Error

abbrev pub in_operation : List Item → ℕ → Error → Option Home → Option Complaint
in_operation k r e None = None
in_operation k r e (Some x) = Some (record { pool = x.number; address = x.address; connection = unwrap_or (holding (of_pool x.number k) r) 0; phase = operating; error = e })

abbrev pub in_handshake : ℕ → FailedAt → Error → Option Home → Option Complaint
in_handshake c at e None = None
in_handshake c at e (Some x) = Some (record { pool = x.number; address = x.address; connection = c; phase = establishing at; error = e })

-- The error of the act, about the connection that the party holds or that failed; k is the history with the act.
abbrev pub complaint_of : List Item → Act → Option Complaint
complaint_of k (Do.Error r e) = in_operation k r e (home_of k (Do.Error r e))
complaint_of k (Do.Failed q c at e) = in_handshake c at e (home_at k q)
complaint_of k _ = None

-- the version that is known of a server
abbrev pub known_version : Option ServerDescription → Option TopologyVersion
known_version None = None
known_version (Some s) = topology_version s

-- The error's version is more recent than the known one, or one of them is absent.
abbrev pub may_tell : Option TopologyVersion → Option TopologyVersion → Bool
may_tell None v = true
may_tell (Some known) None = true
may_tell (Some known) (Some v) = is_more_recent v known

-- The connection is of the generation that the pool has: before the hello in a normal pool, and not below it; afterwards not stale.
abbrev pub is_of_generation : Options → List PoolItem → ℕ → Phase → Bool
is_of_generation o xs c (establishing Pre) = not o.load_balanced && nat_le (generation_of xs None) (generation_before xs c None)
is_of_generation o xs c (establishing (Post s)) = not (is_stale (pool_options o) xs c)
is_of_generation o xs c operating = not (is_stale (pool_options o) xs c)

-- Current: no incompatible server's, of the open pool of its address, more recent than what is known where both have a version, and of the pool's generation.
abbrev pub is_current : Options → List Item → TopologyDescription → Complaint → Bool
is_current o k t x =
    not (is_incompatible x.error.kind)
    && (is_here k x.address x.pool
    && (may_tell (known_version (server_at x.address t.servers)) x.error.topology_version
    && is_of_generation o (of_pool x.pool k) x.connection x.phase))
