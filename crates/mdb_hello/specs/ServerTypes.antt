-- What kind of server a reply comes from.
use Rattle.std.specs.Prelude.{Bool, false, ◌||◌, if◌then◌else◌, Option, Some, None, is_some, codes, List, ℕ, nat_eq}
use Rattle.std.specs.Cmp.Lexicographic.{pointwise}
use Rattle.mdb_hello.specs.declared.response.HelloCommandResponse.{HelloCommandResponse}
use Rattle.mdb_hello.specs.declared.server_type.ServerType.{ServerType}
use Rattle.mdb_hello.specs.declared.server_type.ServerType.TheVariants.{Standalone, Mongos, RsPrimary, RsSecondary, RsArbiter, RsOther, RsGhost}

-- the reply says yes
abbrev pub says : Option Bool → Bool
says (Some answer) = answer
says None = false

abbrev pub is_text : Option (List ℕ) → List ℕ → Bool
is_text (Some text) other = pointwise nat_eq text other
is_text None other = false

-- the message of a router
abbrev pub is_router_reply : HelloCommandResponse → Bool
is_router_reply r = is_text r.msg (codes "isdbgrid")

abbrev pub member_type_of : HelloCommandResponse → ServerType
member_type_of r =
    if says r.hidden then RsOther
    else if says r.is_writable_primary || says r.is_master then RsPrimary
    else if says r.secondary then RsSecondary
    else if says r.arbiter_only then RsArbiter
    else RsOther

abbrev pub type_of : HelloCommandResponse → ServerType
type_of r =
    if is_router_reply r then Mongos
    else if is_some r.set_name then member_type_of r
    else if says r.is_replica_set then RsGhost
    else Standalone
