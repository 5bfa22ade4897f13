-- A topology as numbers and texts.
use Rattle.std.specs.Prelude.{ℕ, ◌==◌, pos, List, length, Option, Some, None, is_some, is_none, unwrap_or, option_map, if◌then◌else◌}
use Rattle.mdb_base.specs.Spelling.{object_id}
use Rattle.mdb_base.specs.declared.times.ClusterTime.{ClusterTime}
use Rattle.mdb_describe.specs.Topology.{session_timeout}
use Rattle.mdb_describe.specs.declared.topology.TopologyDescription.{TopologyDescription}
use Rattle.mdb_srv.specs.Polling.{is_polled}
use Rattle.mdb_c.specs.Types.{flag_number, topology_type_number}
use Rattle.mdb_c.specs.declared.topology_numbers.TopologyNumbers.{TopologyNumbers}

-- the number of a time, and 0 for none
abbrev pub ticks : Option ClusterTime → ℕ
ticks (Some time) = time.0
ticks None = 0

abbrev pub topology_numbers : TopologyDescription → TopologyNumbers
topology_numbers t = record {
  servers = length t.servers;
  cluster_time = ticks t.cluster_time;
  session_minutes = unwrap_or (session_timeout t.servers) 0;
  kind = topology_type_number t.topology_type;
  max_set_version = unwrap_or t.max_set_version (pos 0);
  has_max_set_version = flag_number (is_some t.max_set_version);
  has_cluster_time = flag_number (is_some t.cluster_time);
  has_session_minutes = flag_number (is_some (session_timeout t.servers));
  compatible = flag_number (is_none t.compatibility_error);
  polled = flag_number (is_polled t.topology_type);
}

-- The text of this number: the name of the set, the greatest election id, or why the driver cannot speak to one of the servers.
abbrev pub topology_text : ℕ → TopologyDescription → Option (List ℕ)
topology_text which t =
    if which == 1 then t.set_name
    else if which == 2 then option_map object_id t.max_election_id
    else if which == 3 then t.compatibility_error
    else None
