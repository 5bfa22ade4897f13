-- What contracts see of the description of a topology.
use Rattle.std.specs.Prelude.{ℕ, ℤ, List, Bool, Option}
use Rattle.mdb_base.specs.declared.object_id.ObjectId.{ObjectId}
use Rattle.mdb_base.specs.declared.times.ClusterTime.{ClusterTime}
use Rattle.mdb_srv.specs.declared.topology_type.TopologyType.{TopologyType}
use Rattle.mdb_describe.specs.declared.description.ServerDescription.{ServerDescription}

pub record Topology : Type 0 where
  pub topology_type : TopologyType
  pub set_name : Option (List ℕ)
  pub max_set_version : Option ℤ
  pub max_election_id : Option ObjectId
  -- whether exactly one seed was opened
  pub one_seed : Bool
  pub compatibility_error : Option (List ℕ)
  pub servers : List ServerDescription
  pub cluster_time : Option ClusterTime
