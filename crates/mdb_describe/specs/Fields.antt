-- What a description says of its server, field by field: a field that the reply lacks, and each field where there is no reply, is absent.
use Rattle.std.specs.Prelude.{ℕ, ℤ, nat_eq, List, Bool, true, false, not, ◌&&◌, Option, Some, None, is_some, Result, Ok, Err}
use Rattle.std.specs.Cmp.Lexicographic.{pointwise}
use Rattle.mdb_base.specs.declared.error.Error.{Error}
use Rattle.mdb_base.specs.declared.topology_version.TopologyVersion.{TopologyVersion}
use Rattle.mdb_base.specs.declared.object_id.ObjectId.{ObjectId}
use Rattle.mdb_base.specs.Spelling.{address}
use Rattle.mdb_base.specs.Tags.{Tag}
use Rattle.mdb_hello.specs.declared.response.HelloReply.{HelloReply}
use Rattle.mdb_hello.specs.declared.response.HelloCommandResponse.{HelloCommandResponse}
use Rattle.mdb_hello.specs.declared.server_type.ServerType.{ServerType}
use Rattle.mdb_hello.specs.declared.server_type.ServerType.TheVariants.{Standalone, Mongos, RsPrimary, RsSecondary, LoadBalancer, Unknown}
use Rattle.mdb_describe.specs.declared.description.ServerDescription.{ServerDescription}
use Rattle.mdb_describe.specs.Listed.{lower}

abbrev pub response_in : Result (Option HelloReply) Error → Option HelloCommandResponse
response_in (Ok (Some r)) = Some r.command_response
response_in (Ok None) = None
response_in (Err e) = None

-- what a server said of itself, where it gave a reply
abbrev pub response : ServerDescription → Option HelloCommandResponse
response d = response_in d.reply

abbrev pub part : {T : Type 0} → (HelloCommandResponse → Option T) → Option HelloCommandResponse → Option T
part f (Some r) = f r
part f None = None

abbrev pub set_name : ServerDescription → Option (List ℕ)
set_name d = part (λ r. r.set_name) (response d)

abbrev pub set_version : ServerDescription → Option ℤ
set_version d = part (λ r. r.set_version) (response d)

abbrev pub election_id : ServerDescription → Option ObjectId
election_id d = part (λ r. r.election_id) (response d)

abbrev pub primary : ServerDescription → Option (List ℕ)
primary d = part (λ r. r.primary) (response d)

abbrev pub me : ServerDescription → Option (List ℕ)
me d = part (λ r. r.me) (response d)

abbrev pub hosts : ServerDescription → Option (List (List ℕ))
hosts d = part (λ r. r.hosts) (response d)

abbrev pub passives : ServerDescription → Option (List (List ℕ))
passives d = part (λ r. r.passives) (response d)

abbrev pub arbiters : ServerDescription → Option (List (List ℕ))
arbiters d = part (λ r. r.arbiters) (response d)

abbrev pub tags : ServerDescription → Option (List Tag)
tags d = part (λ r. r.tags) (response d)

abbrev pub min_wire_version : ServerDescription → Option ℤ
min_wire_version d = part (λ r. r.min_wire_version) (response d)

abbrev pub max_wire_version : ServerDescription → Option ℤ
max_wire_version d = part (λ r. r.max_wire_version) (response d)

abbrev pub session_timeout : ServerDescription → Option ℕ
session_timeout d = part (λ r. r.logical_session_timeout_minutes) (response d)

abbrev pub error_in : Result (Option HelloReply) Error → Option Error
error_in (Ok reply) = None
error_in (Err e) = Some e

abbrev pub error : ServerDescription → Option Error
error d = error_in d.reply

abbrev pub version_in : Result (Option HelloReply) Error → Option TopologyVersion
version_in (Ok (Some r)) = r.command_response.topology_version
version_in (Ok None) = None
version_in (Err e) = e.topology_version

-- the version of the reply or of the error
abbrev pub topology_version : ServerDescription → Option TopologyVersion
topology_version d = version_in d.reply

-- a server of any known type
abbrev pub is_known_type : ServerType → Bool
is_known_type Unknown = false
is_known_type _ = true

-- servers that hold data
abbrev pub is_data_bearing : ServerType → Bool
is_data_bearing Standalone = true
is_data_bearing Mongos = true
is_data_bearing RsPrimary = true
is_data_bearing RsSecondary = true
is_data_bearing LoadBalancer = true
is_data_bearing _ = false

-- a text is there, and in lower case it is this one
abbrev pub names : List ℕ → Option (List ℕ) → Bool
names text (Some other) = pointwise nat_eq (lower other) text
names text None = false

-- the server names an address as its own, and in lower case it is another one
abbrev pub invalid_me : ServerDescription → Bool
invalid_me d = is_some (me d) && not (names (address d.address) (me d))
