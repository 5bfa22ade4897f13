-- What carrying out a change comes to. The contracts inside the crate speak by these words, and no public one does.
use Rattle.std.specs.Prelude.{List, if◌then◌else◌}
use Rattle.mdb_base.specs.declared.address.ServerAddress.{ServerAddress}
use Rattle.mdb_srv.specs.declared.topology_type.TopologyType.{TopologyType}
use Rattle.mdb_describe.specs.declared.description.ServerDescription.{ServerDescription}
use Rattle.mdb_describe.specs.declared.topology.TopologyDescription.{TopologyDescription}
use Rattle.mdb_describe.specs.declared.change.Fate.{Fate}
use Rattle.mdb_describe.specs.declared.change.Fate.TheVariants.{Stays, Forgotten, Gone}
use Rattle.mdb_describe.specs.declared.change.Change.{Change}
use Rattle.mdb_describe.specs.Fields.{set_name}
use Rattle.mdb_describe.specs.Servers.{store, remove, forget, forget_other_primaries, add_all, keep_listed, first_incompatible}
use Rattle.mdb_describe.specs.Update.{listed, name_or, kind_by_primary}

abbrev pub by_fate : Fate → ServerAddress → List ServerDescription → List ServerDescription
by_fate Stays a servers = servers
by_fate Forgotten a servers = forget a servers
by_fate Gone a servers = remove a servers

-- the servers after a change, in which the description is stored
abbrev pub changed_servers : Change → ServerDescription → List ServerAddress → List ServerDescription → List ServerDescription
changed_servers c s hosts servers =
    let stored = store s servers in
    let demoted = if c.demotes then forget_other_primaries s.address stored else stored in
    let joined = if c.adds then add_all hosts demoted else demoted in
    let kept = if c.only_listed then keep_listed hosts joined else joined in
    by_fate c.fate s.address kept

abbrev pub changed_type : Change → List ServerDescription → TopologyType
changed_type c servers = if c.checks then kind_by_primary servers else c.topology_type

-- the topology after a change
abbrev pub changed : Change → TopologyDescription → ServerDescription → TopologyDescription
changed c t s =
    let servers = changed_servers c s (listed s) t.servers in
    record t { topology_type = changed_type c servers; set_name = (if c.learns then name_or t.set_name (set_name s) else t.set_name); max_set_version = c.max_set_version; max_election_id = c.max_election_id; compatibility_error = first_incompatible servers; servers = servers }
