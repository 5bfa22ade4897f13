-- The addresses that a publication touches.
use Rattle.std.specs.Prelude.{Bool, false, ◌&&◌, ◌||◌, List, Option, Some, None}
use Rattle.mdb_base.specs.Equality.{same_address}
use Rattle.mdb_base.specs.declared.address.ServerAddress.{ServerAddress}
use Rattle.mdb_srv.specs.declared.topology_type.TopologyType.{TopologyType}
use Rattle.mdb_describe.specs.declared.description.ServerDescription.{ServerDescription}
use Rattle.mdb_describe.specs.declared.topology.TopologyDescription.{TopologyDescription}
use Rattle.mdb_describe.specs.declared.diff.Diff.{Diff}
use Rattle.mdb_describe.specs.Servers.{is_listed}
use Rattle.mdb_describe.specs.Topology.{server_at}
use Rattle.mdb_driver_rules.specs.Ready.{is_ready_type}

abbrev pub is_ready_server : TopologyType → Option ServerDescription → Bool
is_ready_server kind None = false
is_ready_server kind (Some s) = is_ready_type kind s.server_type

-- the server of the address may have a ready pool
abbrev pub is_ready_at : TopologyDescription → ServerAddress → Bool
is_ready_at u a = is_ready_server u.topology_type (server_at a u.servers)

-- the address is the one of a server that readies its pool
abbrev pub readies_one : TopologyDescription → ServerAddress → ServerAddress → Bool
readies_one u a b = same_address a b && is_ready_at u b

-- the address is one of a changed server that readies its pool
abbrev pub readies : TopologyDescription → List ServerAddress → ServerAddress → Bool
readies u changed a = is_listed changed a && is_ready_at u a

-- A publication touches these, those that go and those that come.
abbrev pub touches : TopologyDescription → Diff → ServerAddress → Bool
touches u d a = readies u d.changed a || (is_listed d.removed a || is_listed d.added a)

abbrev pub touched_by : TopologyDescription → Option Diff → ServerAddress → Bool
touched_by u None a = false
touched_by u (Some d) a = touches u d a
