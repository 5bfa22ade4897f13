-- The fields of a reply, in groups as they are read.
use Rattle.mdb_hello.specs.declared.response.HelloCommandResponse.{HelloCommandResponse}
use Rattle.mdb_replies.specs.declared.groups.Roles.{Roles}
use Rattle.mdb_replies.specs.declared.groups.Members.{Members}
use Rattle.mdb_replies.specs.declared.groups.Names.{Names}
use Rattle.mdb_replies.specs.declared.groups.Marks.{Marks}
use Rattle.mdb_replies.specs.declared.groups.Wires.{Wires}
use Rattle.mdb_replies.specs.declared.groups.Ids.{Ids}

abbrev pub roles_of : HelloCommandResponse → Roles
roles_of r = record { is_writable_primary = r.is_writable_primary; is_master = r.is_master; hello_ok = r.hello_ok }

abbrev pub members_of : HelloCommandResponse → Members
members_of r = record { hosts = r.hosts; passives = r.passives; arbiters = r.arbiters }

abbrev pub names_of : HelloCommandResponse → Names
names_of r = record { msg = r.msg; me = r.me; set_version = r.set_version; set_name = r.set_name }

abbrev pub marks_of : HelloCommandResponse → Marks
marks_of r = record { hidden = r.hidden; secondary = r.secondary; arbiter_only = r.arbiter_only; is_replica_set = r.is_replica_set }

abbrev pub wires_of : HelloCommandResponse → Wires
wires_of r = record { timeout = r.logical_session_timeout_minutes; min = r.min_wire_version; max = r.max_wire_version }

abbrev pub ids_of : HelloCommandResponse → Ids
ids_of r = record { tags = r.tags; election = r.election_id; primary = r.primary; version = r.topology_version; connection = r.connection_id }
