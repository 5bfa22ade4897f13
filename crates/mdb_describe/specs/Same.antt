-- Two descriptions of a server are the same where they agree in all but the times and the text of the reply.
use Rattle.std.specs.Prelude.{ℕ, nat_eq, List, Bool, true, false, ◌&&◌, Option, Some, None}
use Rattle.std.specs.Ordering.{int_eq}
use Rattle.std.specs.Cmp.Lexicographic.{pointwise}
use Rattle.mdb_base.specs.declared.error.Error.{Error}
use Rattle.mdb_base.specs.declared.error.ErrorKind.{ErrorKind}
use Rattle.mdb_base.specs.declared.error.ErrorKind.TheVariants.{Network, NetworkTimeout, Auth, IncompatibleServer, Command, Other}
use Rattle.mdb_base.specs.declared.topology_version.TopologyVersion.{TopologyVersion}
use Rattle.mdb_base.specs.Equality.{same_id, same_address}
use Rattle.mdb_base.specs.Tags.{Tag}
use Rattle.mdb_hello.specs.declared.server_type.ServerType.{ServerType}
use Rattle.mdb_hello.specs.declared.server_type.ServerType.TheVariants.{Standalone, Mongos, RsPrimary, RsSecondary, RsArbiter, RsOther, RsGhost, LoadBalancer, Unknown}
use Rattle.mdb_describe.specs.declared.description.ServerDescription.{ServerDescription}
use Rattle.mdb_describe.specs.Fields.{set_name, set_version, election_id, primary, me, hosts, passives, arbiters, tags, min_wire_version, max_wire_version, session_timeout, topology_version, error}

-- both absent, or both there and equal
abbrev pub same_option : {T : Type 0} → (T → T → Bool) → Option T → Option T → Bool
same_option same (Some a) (Some b) = same a b
same_option same None None = true
same_option same _ _ = false

abbrev pub same_text : List ℕ → List ℕ → Bool
same_text a b = pointwise nat_eq a b

-- the same texts in the same order
abbrev pub same_texts : List (List ℕ) → List (List ℕ) → Bool
same_texts a b = pointwise same_text a b

abbrev pub same_tags : List Tag → List Tag → Bool
same_tags a b = pointwise (λ s t. same_text s.0 t.0 && same_text s.1 t.1) a b

abbrev pub same_version : TopologyVersion → TopologyVersion → Bool
same_version a b = same_id a.process_id b.process_id && int_eq a.counter b.counter

abbrev pub same_kind : ErrorKind → ErrorKind → Bool
same_kind Network Network = true
same_kind NetworkTimeout NetworkTimeout = true
same_kind Auth Auth = true
same_kind IncompatibleServer IncompatibleServer = true
same_kind (Command a) (Command b) = int_eq a b
same_kind Other Other = true
same_kind _ _ = false

abbrev pub same_error : Error → Error → Bool
same_error a b = same_kind a.kind b.kind && (same_texts a.labels b.labels && (same_option same_version a.topology_version b.topology_version && same_text a.message b.message))

abbrev pub same_type : ServerType → ServerType → Bool
same_type Standalone Standalone = true
same_type Mongos Mongos = true
same_type RsPrimary RsPrimary = true
same_type RsSecondary RsSecondary = true
same_type RsArbiter RsArbiter = true
same_type RsOther RsOther = true
same_type RsGhost RsGhost = true
same_type LoadBalancer LoadBalancer = true
same_type Unknown Unknown = true
same_type _ _ = false

-- the same set, as both name it
abbrev pub same_set : ServerDescription → ServerDescription → Bool
same_set a b = same_option same_text (set_name a) (set_name b) && (same_option int_eq (set_version a) (set_version b) && (same_option same_id (election_id a) (election_id b) && (same_option same_text (primary a) (primary b) && same_option same_text (me a) (me b))))

-- the same lists of members
abbrev pub same_members : ServerDescription → ServerDescription → Bool
same_members a b = same_option same_texts (hosts a) (hosts b) && (same_option same_texts (passives a) (passives b) && same_option same_texts (arbiters a) (arbiters b))

-- the same abilities
abbrev pub same_abilities : ServerDescription → ServerDescription → Bool
same_abilities a b = same_option same_tags (tags a) (tags b) && (same_option int_eq (min_wire_version a) (min_wire_version b) && (same_option int_eq (max_wire_version a) (max_wire_version b) && same_option nat_eq (session_timeout a) (session_timeout b)))

abbrev pub same : ServerDescription → ServerDescription → Bool
same a b = same_address a.address b.address && (same_type a.server_type b.server_type && (same_set a b && (same_members a b && (same_abilities a b && (same_option same_version (topology_version a) (topology_version b) && same_option same_error (error a) (error b))))))
