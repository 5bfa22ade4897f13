-- Which servers an operation may use: filters of the servers of a topology.
use Rattle.std.specs.Prelude.{List, [], ◌∷◌, filter, Bool, true, false, ◌&&◌, ◌||◌, Option, Some, None}
use Rattle.std.specs.List.{list_any, list_all}
use Rattle.mdb_base.specs.Tags.{Tag}
use Rattle.mdb_hello.specs.declared.server_type.ServerType.{ServerType}
use Rattle.mdb_hello.specs.declared.server_type.ServerType.TheVariants.{Mongos, RsSecondary}
use Rattle.mdb_srv.specs.declared.topology_type.TopologyType.{TopologyType}
use Rattle.mdb_srv.specs.declared.topology_type.TopologyType.TheVariants as Kind
use Rattle.mdb_describe.specs.declared.description.ServerDescription.{ServerDescription}
use Rattle.mdb_describe.specs.declared.selection.Mode.{Mode}
use Rattle.mdb_describe.specs.declared.selection.Mode.TheVariants as Read
use Rattle.mdb_describe.specs.declared.selection.SelectionCriteria.{SelectionCriteria}
use Rattle.mdb_describe.specs.declared.selection.SelectionCriteria.TheVariants.{ReadPreference}
use Rattle.mdb_describe.specs.Fields.{tags, is_known_type}
use Rattle.mdb_describe.specs.Same.{same_text}
use Rattle.mdb_describe.specs.Servers.{is_primary_type}

abbrev pub is_router : ServerType → Bool
is_router Mongos = true
is_router _ = false

abbrev pub is_secondary_type : ServerType → Bool
is_secondary_type RsSecondary = true
is_secondary_type _ = false

abbrev pub is_primary : ServerDescription → Bool
is_primary s = is_primary_type s.server_type

abbrev pub is_secondary : ServerDescription → Bool
is_secondary s = is_secondary_type s.server_type

-- the same name with the same value
abbrev pub same_tag : Tag → Tag → Bool
same_tag a b = same_text a.0 b.0 && same_text a.1 b.1

abbrev pub is_among : Tag → List Tag → Bool
is_among tag tags = list_any (λ own. same_tag own tag) tags

-- the tags have this name with this value
abbrev pub has_tag : Tag → Option (List Tag) → Bool
has_tag tag (Some tags) = is_among tag tags
has_tag tag None = false

-- the server has each of these tags
abbrev pub contains_tags : List Tag → ServerDescription → Bool
contains_tags wanted s = list_all (λ tag. has_tag tag (tags s)) wanted

-- these servers, or the others where there is none
abbrev pub or_else : List ServerDescription → List ServerDescription → List ServerDescription
or_else [] others = others
or_else (s ∷ servers) others = s ∷ servers

-- the servers with the first tag set that one of them has
abbrev pub with_first_tags : List (List Tag) → List ServerDescription → List ServerDescription
with_first_tags [] servers = []
with_first_tags (set ∷ more) servers = or_else (filter (contains_tags set) servers) (with_first_tags more servers)

-- where there is no tag set, each server matches
abbrev pub matching : List (List Tag) → List ServerDescription → List ServerDescription
matching [] servers = servers
matching (set ∷ more) servers = with_first_tags (set ∷ more) servers

abbrev pub no_sets : List (List Tag) → Bool
no_sets [] = true
no_sets (set ∷ more) = false

-- there is no tag set, or the server has one of them
abbrev pub matches_some : List (List Tag) → ServerDescription → Bool
matches_some sets s = no_sets sets || list_any (λ wanted. contains_tags wanted s) sets

abbrev pub is_data_member : ServerDescription → Bool
is_data_member s = is_primary s || is_secondary s

-- the members of a replica set by the mode
abbrev pub members : Mode → List (List Tag) → List ServerDescription → List ServerDescription
members Read.Primary sets servers = filter is_primary servers
members Read.Secondary sets servers = matching sets (filter is_secondary servers)
members Read.PrimaryPreferred sets servers = or_else (filter is_primary servers) (matching sets (filter is_secondary servers))
members Read.SecondaryPreferred sets servers = or_else (matching sets (filter is_secondary servers)) (filter is_primary servers)
members Read.Nearest sets servers = matching sets (filter is_data_member servers)

-- the mode, which is Primary by default, and the tag sets
abbrev pub mode_of : Option SelectionCriteria → Mode
mode_of (Some (ReadPreference preference)) = preference.mode
mode_of None = Read.Primary

abbrev pub tag_sets_of : Option SelectionCriteria → List (List Tag)
tag_sets_of (Some (ReadPreference preference)) = preference.tag_sets
tag_sets_of None = []

-- the servers that an operation may use, by the type of the topology
abbrev pub selected : TopologyType → Mode → List (List Tag) → List ServerDescription → List ServerDescription
selected Kind.Unknown mode sets servers = []
selected Kind.Single mode sets servers = filter (λ s. is_known_type s.server_type) servers
selected Kind.LoadBalanced mode sets servers = filter (λ s. is_known_type s.server_type) servers
selected Kind.Sharded mode sets servers = filter (λ s. is_router s.server_type) servers
selected Kind.ReplicaSetNoPrimary mode sets servers = members mode sets servers
selected Kind.ReplicaSetWithPrimary mode sets servers = members mode sets servers

-- there is one
abbrev pub is_some_server : List ServerDescription → Bool
is_some_server [] = false
is_some_server (s ∷ servers) = true

-- some server takes writes
abbrev pub has_writable : TopologyType → List ServerDescription → Bool
has_writable Kind.Unknown servers = false
has_writable Kind.ReplicaSetNoPrimary servers = false
has_writable Kind.Single servers = list_any (λ s. is_known_type s.server_type) servers
has_writable Kind.Sharded servers = list_any (λ s. is_known_type s.server_type) servers
has_writable Kind.ReplicaSetWithPrimary servers = true
has_writable Kind.LoadBalanced servers = true
