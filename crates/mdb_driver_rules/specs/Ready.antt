-- When the pool of a server is marked ready.
use Rattle.std.specs.Prelude.{Bool, true, false, ◌&&◌, ◌||◌}
use Rattle.mdb_hello.specs.declared.server_type.ServerType.{ServerType}
use Rattle.mdb_srv.specs.declared.topology_type.TopologyType.{TopologyType}
use Rattle.mdb_srv.specs.declared.topology_type.TopologyType.TheVariants as Kind
use Rattle.mdb_describe.specs.Fields.{is_known_type, is_data_bearing}

abbrev pub is_single : TopologyType → Bool
is_single Kind.Single = true
is_single _ = false

-- A server that changed and stays readies its pool where it holds data now, or where it is of any known type and the topology is a single server.
abbrev pub is_ready_type : TopologyType → ServerType → Bool
is_ready_type topology server = is_data_bearing server || (is_single topology && is_known_type server)
