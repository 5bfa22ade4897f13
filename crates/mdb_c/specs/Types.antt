-- The types of servers and of topologies as numbers, from 1.
use Rattle.std.specs.Prelude.{ℕ, Bool, true, false}
use Rattle.mdb_hello.specs.declared.server_type.ServerType.{ServerType}
use Rattle.mdb_hello.specs.declared.server_type.ServerType.TheVariants as server
use Rattle.mdb_srv.specs.declared.topology_type.TopologyType.{TopologyType}
use Rattle.mdb_srv.specs.declared.topology_type.TopologyType.TheVariants as topology

abbrev pub flag_number : Bool → ℕ
flag_number true = 1
flag_number false = 0

abbrev pub server_type_number : ServerType → ℕ
server_type_number server.Unknown = 1
server_type_number server.Standalone = 2
server_type_number server.Mongos = 3
server_type_number server.RsPrimary = 4
server_type_number server.RsSecondary = 5
server_type_number server.RsArbiter = 6
server_type_number server.RsOther = 7
server_type_number server.RsGhost = 8
server_type_number server.LoadBalancer = 9

abbrev pub topology_type_number : TopologyType → ℕ
topology_type_number topology.Unknown = 1
topology_type_number topology.Single = 2
topology_type_number topology.ReplicaSetNoPrimary = 3
topology_type_number topology.ReplicaSetWithPrimary = 4
topology_type_number topology.Sharded = 5
topology_type_number topology.LoadBalanced = 6
