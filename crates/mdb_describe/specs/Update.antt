-- How a topology takes a new description of one of its servers.
use Rattle.std.specs.Prelude.{ℕ, ℤ, pos, int_lt, List, [], Bool, true, false, not, ◌&&◌, ◌||◌, if◌then◌else◌, find, Option, Some, None, is_some}
use Rattle.std.specs.Ordering.{int_eq, is_lt, nat_cmp}
use Rattle.std.specs.Cmp.Lexicographic.{slice_cmp}
use Rattle.mdb_base.specs.declared.address.ServerAddress.{ServerAddress}
use Rattle.mdb_base.specs.declared.object_id.ObjectId.{ObjectId}
use Rattle.mdb_base.specs.declared.topology_version.TopologyVersion.{TopologyVersion}
use Rattle.mdb_base.specs.Equality.{same_id, same_address}
use Rattle.mdb_hello.specs.declared.response.HelloCommandResponse.{HelloCommandResponse}
use Rattle.mdb_hello.specs.declared.server_type.ServerType.{ServerType}
use Rattle.mdb_hello.specs.declared.server_type.ServerType.TheVariants as Server
use Rattle.mdb_srv.specs.declared.topology_type.TopologyType.{TopologyType}
use Rattle.mdb_srv.specs.declared.topology_type.TopologyType.TheVariants as Kind
use Rattle.mdb_describe.specs.declared.description.ServerDescription.{ServerDescription}
use Rattle.mdb_describe.specs.declared.topology.TopologyDescription.{TopologyDescription}
use Rattle.mdb_describe.specs.Descriptions.{unknown, listed_texts}
use Rattle.mdb_describe.specs.Listed.{addresses}
use Rattle.mdb_describe.specs.Fields.{response, set_name, set_version, election_id, max_wire_version, topology_version, invalid_me}
use Rattle.mdb_describe.specs.Compatibility.{version_or_0}
use Rattle.mdb_describe.specs.Same.{same_option, same_text}
use Rattle.mdb_describe.specs.Servers.{has_primary, store, remove, forget, forget_other_primaries, add_all, keep_listed, first_incompatible}

abbrev pub listed_in : Option HelloCommandResponse → List ServerAddress
listed_in (Some r) = addresses (listed_texts r)
listed_in None = []

-- the hosts, passives and arbiters that a server lists
abbrev pub listed : ServerDescription → List ServerAddress
listed s = listed_in (response s)

-- The parts of the rules.

abbrev pub stored : TopologyDescription → ServerDescription → TopologyDescription
stored t s = record t { servers = store s t.servers }

abbrev pub removed : TopologyDescription → ServerDescription → TopologyDescription
removed t s = record t { servers = remove s.address t.servers }

abbrev pub forgotten : TopologyDescription → ServerDescription → TopologyDescription
forgotten t s = record t { servers = forget s.address t.servers }

abbrev pub of_type : TopologyType → TopologyDescription → TopologyDescription
of_type kind t = record t { topology_type = kind }

-- the type by whether some server is a primary
abbrev pub kind_by_primary : List ServerDescription → TopologyType
kind_by_primary servers = if has_primary servers then Kind.ReplicaSetWithPrimary else Kind.ReplicaSetNoPrimary

abbrev pub check : TopologyDescription → TopologyDescription
check t = of_type (kind_by_primary t.servers) t

abbrev pub name_or : Option (List ℕ) → Option (List ℕ) → Option (List ℕ)
name_or (Some name) other = Some name
name_or None other = other

-- an unset set name is learnt
abbrev pub learn : TopologyDescription → ServerDescription → TopologyDescription
learn t s = record t { set_name = name_or t.set_name (set_name s) }

-- the set has a name, and the server names another one or none
abbrev pub names_other : TopologyDescription → ServerDescription → Bool
names_other t s = is_some t.set_name && not (same_option same_text t.set_name (set_name s))

abbrev pub add_listed : TopologyDescription → ServerDescription → TopologyDescription
add_listed t s = record t { servers = add_all (listed s) t.servers }

-- Member rule A.
abbrev pub removed_if_invalid : TopologyDescription → ServerDescription → TopologyDescription
removed_if_invalid t s = if invalid_me s then removed t s else t

abbrev pub member_rule_a : TopologyDescription → ServerDescription → TopologyDescription
member_rule_a t s = if names_other t s then removed t s else removed_if_invalid (add_listed (learn t s) s) s

-- Member rule B.
abbrev pub member_rule_b : TopologyDescription → ServerDescription → TopologyDescription
member_rule_b t s = if names_other t s || invalid_me s then check (removed t s) else check t

-- The primary rule.

-- ids in the order of their bytes
abbrev pub id_is_below : ObjectId → ObjectId → Bool
id_is_below a b = is_lt (slice_cmp nat_cmp a.0 b.0)

-- an absent part is least
abbrev pub is_below : {T : Type 0} → (T → T → Bool) → Option T → Option T → Bool
is_below below None (Some b) = true
is_below below (Some a) (Some b) = below a b
is_below below _ None = false

-- an election id and a set version, the id first
abbrev pub pair_is_below : Option ObjectId → Option ℤ → Option ObjectId → Option ℤ → Bool
pair_is_below id version max_id max_version = is_below id_is_below id max_id || (same_option same_id id max_id && is_below int_lt version max_version)

-- from wire version 17 on the election id counts first
abbrev pub is_modern : ServerDescription → Bool
is_modern s = not (int_lt (version_or_0 (max_wire_version s)) (pos 17))

abbrev pub is_outdated_modern : TopologyDescription → ServerDescription → Bool
is_outdated_modern t s = pair_is_below (election_id s) (set_version s) t.max_election_id t.max_set_version

-- below it the set version counts first, and only where all four parts are there
abbrev pub is_outdated_older : Option ObjectId → Option ℤ → Option ObjectId → Option ℤ → Bool
is_outdated_older (Some id) (Some version) (Some max_id) (Some max_version) = int_lt version max_version || (int_eq version max_version && id_is_below id max_id)
is_outdated_older _ _ _ _ = false

abbrev pub is_outdated : TopologyDescription → ServerDescription → Bool
is_outdated t s = if is_modern s then is_outdated_modern t s else is_outdated_older (election_id s) (set_version s) t.max_election_id t.max_set_version

-- the election id of a reply that has a set version too
abbrev pub later_id : Option ObjectId → Option ℤ → Option ObjectId → Option ObjectId
later_id (Some id) (Some version) max_id = Some id
later_id _ _ max_id = max_id

-- the greater set version
abbrev pub later_version : Option ℤ → Option ℤ → Option ℤ
later_version version max_version = if is_below int_lt max_version version then version else max_version

-- both maxima are the reply's from wire version 17 on
abbrev pub max_id : TopologyDescription → ServerDescription → Option ObjectId
max_id t s = if is_modern s then election_id s else later_id (election_id s) (set_version s) t.max_election_id

abbrev pub max_version : TopologyDescription → ServerDescription → Option ℤ
max_version t s = if is_modern s then set_version s else later_version (set_version s) t.max_set_version

abbrev pub with_maxima : TopologyDescription → ServerDescription → TopologyDescription
with_maxima t s = record t { max_election_id = max_id t s; max_set_version = max_version t s }

-- the server is the primary, and its lists are the set
abbrev pub leads : TopologyDescription → ServerDescription → TopologyDescription
leads t s = check (record t { servers = keep_listed (listed s) (add_all (listed s) (forget_other_primaries s.address t.servers)) })

abbrev pub ranked : TopologyDescription → ServerDescription → TopologyDescription
ranked t s = if is_outdated t s then check (forgotten t s) else leads (with_maxima t s) s

abbrev pub primary_rule : TopologyDescription → ServerDescription → TopologyDescription
primary_rule t s = if names_other t s then check (removed t s) else ranked (learn t s) s

-- A standalone server is the whole topology where it was the only seed.
abbrev pub single_or_removed : TopologyDescription → ServerDescription → TopologyDescription
single_or_removed t s = if t.one_seed then of_type Kind.Single t else removed t s

-- The table: by the type of the topology and the type of the server, whose description is stored.
abbrev pub table : TopologyType → ServerType → TopologyDescription → ServerDescription → TopologyDescription
table Kind.Unknown Server.Standalone t s = single_or_removed t s
table Kind.Unknown Server.Mongos t s = of_type Kind.Sharded t
table Kind.Unknown Server.RsPrimary t s = primary_rule t s
table Kind.Unknown Server.RsSecondary t s = member_rule_a (of_type Kind.ReplicaSetNoPrimary t) s
table Kind.Unknown Server.RsArbiter t s = member_rule_a (of_type Kind.ReplicaSetNoPrimary t) s
table Kind.Unknown Server.RsOther t s = member_rule_a (of_type Kind.ReplicaSetNoPrimary t) s
table Kind.Unknown Server.Unknown t s = t
table Kind.Unknown Server.RsGhost t s = t
table Kind.Unknown Server.LoadBalancer t s = t
table Kind.Sharded Server.Standalone t s = removed t s
table Kind.Sharded Server.Mongos t s = t
table Kind.Sharded Server.RsPrimary t s = removed t s
table Kind.Sharded Server.RsSecondary t s = removed t s
table Kind.Sharded Server.RsArbiter t s = removed t s
table Kind.Sharded Server.RsOther t s = removed t s
table Kind.Sharded Server.Unknown t s = t
table Kind.Sharded Server.RsGhost t s = removed t s
table Kind.Sharded Server.LoadBalancer t s = t
table Kind.ReplicaSetNoPrimary Server.Standalone t s = removed t s
table Kind.ReplicaSetNoPrimary Server.Mongos t s = removed t s
table Kind.ReplicaSetNoPrimary Server.RsPrimary t s = primary_rule t s
table Kind.ReplicaSetNoPrimary Server.RsSecondary t s = member_rule_a t s
table Kind.ReplicaSetNoPrimary Server.RsArbiter t s = member_rule_a t s
table Kind.ReplicaSetNoPrimary Server.RsOther t s = member_rule_a t s
table Kind.ReplicaSetNoPrimary Server.Unknown t s = t
table Kind.ReplicaSetNoPrimary Server.RsGhost t s = t
table Kind.ReplicaSetNoPrimary Server.LoadBalancer t s = t
table Kind.ReplicaSetWithPrimary Server.Standalone t s = check (removed t s)
table Kind.ReplicaSetWithPrimary Server.Mongos t s = check (removed t s)
table Kind.ReplicaSetWithPrimary Server.RsPrimary t s = primary_rule t s
table Kind.ReplicaSetWithPrimary Server.RsSecondary t s = member_rule_b t s
table Kind.ReplicaSetWithPrimary Server.RsArbiter t s = member_rule_b t s
table Kind.ReplicaSetWithPrimary Server.RsOther t s = member_rule_b t s
table Kind.ReplicaSetWithPrimary Server.Unknown t s = check t
table Kind.ReplicaSetWithPrimary Server.RsGhost t s = check t
table Kind.ReplicaSetWithPrimary Server.LoadBalancer t s = t
table Kind.Single kind t s = t
table Kind.LoadBalanced kind t s = t

-- the first reason in the order of addresses why the driver cannot speak to a server
abbrev pub with_compatibility : TopologyDescription → TopologyDescription
with_compatibility t = record t { compatibility_error = first_incompatible t.servers }

abbrev pub decided : TopologyDescription → ServerDescription → TopologyDescription
decided t s = with_compatibility (table t.topology_type s.server_type (stored t s) s)

-- the description says something older than what is known
abbrev pub is_older : Option TopologyVersion → Option TopologyVersion → Bool
is_older (Some v) (Some known) = same_id v.process_id known.process_id && int_lt v.counter known.counter
is_older _ _ = false

-- the known server of the address, and what is known of it is not newer
abbrev pub is_not_older : Option TopologyVersion → Option ServerDescription → Bool
is_not_older version (Some known) = not (is_older version (topology_version known))
is_not_older version None = false

abbrev pub is_new : TopologyDescription → ServerDescription → Bool
is_new t s = is_not_older (topology_version s) (find (λ known. same_address known.address s.address) t.servers)

-- a server of a single topology with a set name that names another set or none
abbrev pub is_misnamed : TopologyType → TopologyDescription → ServerDescription → Bool
is_misnamed Kind.Single t s = is_some (response s) && names_other t s
is_misnamed _ t s = false

abbrev pub taken : TopologyDescription → ServerDescription → TopologyDescription
taken t s = if is_misnamed t.topology_type t s then decided t (unknown s.address) else decided t s

-- A description of an unknown address, and one that is older than what is known, change nothing.
abbrev pub updated : TopologyDescription → ServerDescription → TopologyDescription
updated t s = if is_new t s then taken t s else t
