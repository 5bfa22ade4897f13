-- What is known of a connection by how far its handshake has come.
use Rattle.std.specs.Prelude.{ℤ, Bool, true, false, Option, Some, None}
use Rattle.mdb_base.specs.declared.object_id.ObjectId.{ObjectId}
use Rattle.mdb_log.specs.Generations.{service_named}
use Rattle.mdb_topology.specs.declared.handshake.HandshakePhase.{HandshakePhase}
use Rattle.mdb_topology.specs.declared.handshake.HandshakePhase.TheVariants.{PreHello, PostHello, AfterCompletion}

-- the service that the generation of the connection is of, which the hello tells
abbrev pub service_of : HandshakePhase → Option ObjectId
service_of (PreHello stamp) = None
service_of (PostHello pool generation) = service_named generation
service_of (AfterCompletion pool generation wire) = service_named generation

-- the handshake isn't over
abbrev pub is_unfinished : HandshakePhase → Bool
is_unfinished (PreHello stamp) = true
is_unfinished (PostHello pool generation) = true
is_unfinished (AfterCompletion pool generation wire) = false

-- the greatest wire version of the server, which the end of the handshake tells
abbrev pub wire_of : HandshakePhase → Option ℤ
wire_of (AfterCompletion pool generation wire) = Some wire
wire_of _ = None
