-- What is known of one server.
use Rattle.std.specs.Prelude.{ℕ, ◌-◌, ◌^◌, nat_le, ℤ, pos, List, [], ◌++◌, codes, map, if◌then◌else◌, Option, Some, None, Ok, Err}
use Rattle.mdb_base.specs.declared.address.ServerAddress.{ServerAddress}
use Rattle.mdb_base.specs.declared.error.Error.{Error}
use Rattle.mdb_base.specs.declared.error.ErrorKind.TheVariants.{Other}
use Rattle.mdb_hello.specs.declared.response.HelloReply.{HelloReply}
use Rattle.mdb_hello.specs.declared.response.HelloCommandResponse.{HelloCommandResponse}
use Rattle.mdb_hello.specs.declared.server_type.ServerType.TheVariants.{LoadBalancer, Unknown}
use Rattle.mdb_hello.specs.ServerTypes.{type_of}
use Rattle.mdb_describe.specs.declared.description.ServerDescription.{ServerDescription}
use Rattle.mdb_describe.specs.Listed.{lower, are_addresses}

-- a server of which nothing is known
abbrev pub unknown : ServerAddress → ServerDescription
unknown a = record { address = a; server_type = Unknown; last_update_time = None; average_round_trip_time = None; reply = Ok None }

-- a load balancer, of which no more is known
abbrev pub load_balancer : ServerAddress → ServerDescription
load_balancer a = record { address = a; server_type = LoadBalancer; last_update_time = None; average_round_trip_time = None; reply = Ok None }

-- a server whose check or operation failed
abbrev pub failed : ServerAddress → Error → ServerDescription
failed a e = record { address = a; server_type = Unknown; last_update_time = None; average_round_trip_time = None; reply = Err e }

abbrev pub texts_of : Option (List (List ℕ)) → List (List ℕ)
texts_of (Some texts) = texts
texts_of None = []

-- the texts of the three lists of hosts
abbrev pub listed_texts : HelloCommandResponse → List (List ℕ)
listed_texts r = texts_of r.hosts ++ (texts_of r.passives ++ texts_of r.arbiters)

abbrev pub lower_list : Option (List (List ℕ)) → Option (List (List ℕ))
lower_list (Some texts) = Some (map lower texts)
lower_list None = None

abbrev pub lower_text : Option (List ℕ) → Option (List ℕ)
lower_text (Some text) = Some (lower text)
lower_text None = None

-- the reply with the texts of hosts in lower case
abbrev pub lowered : HelloCommandResponse → HelloCommandResponse
lowered r = record r { hosts = lower_list r.hosts; passives = lower_list r.passives; arbiters = lower_list r.arbiters; me = lower_text r.me }

abbrev pub lowered_reply : HelloReply → HelloReply
lowered_reply r = record r { command_response = lowered r.command_response }

-- the moment of a check, which stops at the greatest time
abbrev pub time_of : ℕ → ℤ
time_of at = if nat_le at (2 ^ 63 - 1) then pos at else pos (2 ^ 63 - 1)

-- the error of a reply that lists what is no address
abbrev pub bad_reply : Error
bad_reply = record { kind = Other; labels = []; topology_version = None; message = codes "bad address in hello reply" }

-- a server that gave a reply
abbrev pub replied : ServerAddress → HelloReply → ℕ → ℕ → ServerDescription
replied a r rtt at = record { address = a; server_type = type_of r.command_response; last_update_time = Some (record { 0 = time_of at }); average_round_trip_time = Some rtt; reply = Ok (Some (lowered_reply r)) }

abbrev pub from_reply : ServerAddress → HelloReply → ℕ → ℕ → ServerDescription
from_reply a r rtt at = if are_addresses (listed_texts r.command_response) then replied a r rtt at else failed a bad_reply
