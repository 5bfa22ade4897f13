-- A topology as it is opened, asked and stopped.
use Rattle.std.specs.Prelude.{ℕ, ◌==◌, nat_lt, List, [], ◌∷◌, length, find, filter, min, if◌then◌else◌, Option, Some, None, is_some}
use Rattle.std.specs.List.{fold}
use Rattle.mdb_base.specs.declared.address.ServerAddress.{ServerAddress}
use Rattle.mdb_base.specs.declared.times.ClusterTime.{ClusterTime}
use Rattle.mdb_base.specs.declared.options.Options.{Options}
use Rattle.mdb_base.specs.Equality.{same_address}
use Rattle.mdb_srv.specs.declared.topology_type.TopologyType.{TopologyType}
use Rattle.mdb_srv.specs.declared.topology_type.TopologyType.TheVariants as Kind
use Rattle.mdb_describe.specs.declared.description.ServerDescription.{ServerDescription}
use Rattle.mdb_describe.specs.declared.topology.TopologyDescription.{TopologyDescription}
use Rattle.mdb_describe.specs.Fields.{is_data_bearing, session_timeout as timeout_of}
use Rattle.mdb_describe.specs.Servers.{add_all, keep_listed, first_incompatible}

-- the type that the options ask for
abbrev pub opened_type : Options → TopologyType
opened_type o = if o.load_balanced then Kind.LoadBalanced else if o.direct then Kind.Single else if is_some o.set_name then Kind.ReplicaSetNoPrimary else Kind.Unknown

-- nothing is known of the seeds yet
abbrev pub opened : Options → TopologyDescription
opened o = record { topology_type = opened_type o; set_name = o.set_name; max_set_version = None; max_election_id = None; one_seed = length o.seeds == 1; compatibility_error = None; servers = add_all o.seeds []; cluster_time = None }

-- no server is left; what is known of the set and the cluster time stay
abbrev pub stopped : TopologyDescription → TopologyDescription
stopped t = record t { topology_type = Kind.Unknown; compatibility_error = None; servers = [] }

abbrev pub later_time : Option ClusterTime → ClusterTime → Option ClusterTime
later_time (Some known) to = if nat_lt known.0 to.0 then Some to else Some known
later_time None to = Some to

abbrev pub server_at : ServerAddress → List ServerDescription → Option ServerDescription
server_at a servers = find (λ s. same_address s.address a) servers

-- the hosts that DNS gave become the servers, where the topology is or may become a sharded cluster
abbrev pub listed_only : List ServerAddress → TopologyDescription → TopologyDescription
listed_only hosts t = let servers = keep_listed hosts (add_all hosts t.servers) in record t { servers = servers; compatibility_error = first_incompatible servers }

abbrev pub synced_by_type : TopologyType → List ServerAddress → TopologyDescription → TopologyDescription
synced_by_type Kind.Sharded hosts t = listed_only hosts t
synced_by_type Kind.Unknown hosts t = listed_only hosts t
synced_by_type _ hosts t = t

abbrev pub synced : List ServerAddress → TopologyDescription → TopologyDescription
synced hosts t = synced_by_type t.topology_type hosts t

-- absent where one of the two is
abbrev pub lesser : Option ℕ → Option ℕ → Option ℕ
lesser (Some m) (Some n) = Some (min m n)
lesser _ _ = None

abbrev pub least_timeout : List ServerDescription → Option ℕ
least_timeout [] = None
least_timeout (s ∷ servers) = fold (λ least t. lesser least (timeout_of t)) (timeout_of s) servers

-- the least over the servers that hold data, and none where one has none or there is no such server
abbrev pub session_timeout : List ServerDescription → Option ℕ
session_timeout servers = least_timeout (filter (λ s. is_data_bearing s.server_type) servers)
