-- The table of fields in parts of five, as private functions go through it. No public contract cites this file.
use Rattle.std.specs.Prelude.{ℕ, List, Option, Result, take, drop}
use Rattle.std.specs.Option.{option_or}
use Rattle.mdb_base.specs.Document.{Field}
use Rattle.mdb_hello.specs.Table.{Row, Values, reply_fields, beside, read_rows, first_bad}
use Rattle.mdb_hello.specs.declared.response.HelloCommandResponse.{HelloCommandResponse}
use Rattle.mdb_hello.specs.declared.groups.Greeting.{Greeting}
use Rattle.mdb_hello.specs.declared.groups.Membership.{Membership}
use Rattle.mdb_hello.specs.declared.groups.Role.{Role}
use Rattle.mdb_hello.specs.declared.groups.State.{State}
use Rattle.mdb_hello.specs.declared.groups.Election.{Election}
use Rattle.mdb_hello.specs.declared.groups.Limits.{Limits}

abbrev pub greeting_values : Greeting → Values (take 5 reply_fields)
greeting_values g = (g.is_writable_primary, (g.is_master, (g.hello_ok, (g.hosts, (g.passives, tt)))))

abbrev pub membership_values : Membership → Values (take 5 (drop 5 reply_fields))
membership_values g = (g.arbiters, (g.msg, (g.me, (g.compressors, (g.set_version, tt)))))

abbrev pub role_values : Role → Values (take 5 (drop 10 reply_fields))
role_values g = (g.set_name, (g.hidden, (g.secondary, (g.arbiter_only, (g.is_replica_set, tt)))))

abbrev pub state_values : State → Values (take 5 (drop 15 reply_fields))
state_values g = (g.logical_session_timeout_minutes, (g.last_write, (g.min_wire_version, (g.max_wire_version, (g.tags, tt)))))

abbrev pub election_values : Election → Values (take 5 (drop 20 reply_fields))
election_values g = (g.election_id, (g.primary, (g.sasl_supported_mechs, (g.speculative_authenticate, (g.max_bson_object_size, tt)))))

abbrev pub limits_values : Limits → Values (take 5 (drop 25 reply_fields))
limits_values g = (g.max_write_batch_size, (g.service_id, (g.topology_version, (g.max_message_size_bytes, (g.connection_id, tt)))))

-- five fields from the n-th on
abbrev pub five : ℕ → List Row
five n = take 5 (drop n reply_fields)

abbrev pub FrontValues : Type 0
FrontValues = Values (five 0) × (Values (five 5) × Values (five 10))

abbrev pub BackValues : Type 0
BackValues = Values (five 15) × (Values (five 20) × Values (five 25))

abbrev pub front_values : Greeting × Membership × Role → FrontValues
front_values (greeting, membership, role) = (greeting_values greeting, (membership_values membership, role_values role))

abbrev pub back_values : State × Election × Limits → BackValues
back_values (state, election, limits) = (state_values state, (election_values election, limits_values limits))

abbrev pub halves_values : (Greeting × Membership × Role) × (State × Election × Limits) → FrontValues × BackValues
halves_values (front, back) = (front_values front, back_values back)

-- what a document says in the first fifteen fields, and in the last fifteen
abbrev pub read_front : List Field → Result FrontValues (List ℕ)
read_front doc = beside (read_rows (five 0) doc) (beside (read_rows (five 5) doc) (read_rows (five 10) doc))

abbrev pub read_back : List Field → Result BackValues (List ℕ)
read_back doc = beside (read_rows (five 15) doc) (beside (read_rows (five 20) doc) (read_rows (five 25) doc))

-- the first bad one of the first fifteen fields, and of the last fifteen
abbrev pub bad_in_front : List Field → Option (List ℕ)
bad_in_front doc = option_or (first_bad (five 0) doc) (option_or (first_bad (five 5) doc) (first_bad (five 10) doc))

abbrev pub bad_in_back : List Field → Option (List ℕ)
bad_in_back doc = option_or (first_bad (five 15) doc) (option_or (first_bad (five 20) doc) (first_bad (five 25) doc))

-- the reply with these values
abbrev pub reply_of_halves : FrontValues × BackValues → HelloCommandResponse
reply_of_halves ((g, (m, r)), (s, (e, l))) =
    record {
      is_writable_primary = g.0;
      is_master = g.1.0;
      hello_ok = g.1.1.0;
      hosts = g.1.1.1.0;
      passives = g.1.1.1.1.0;
      arbiters = m.0;
      msg = m.1.0;
      me = m.1.1.0;
      compressors = m.1.1.1.0;
      set_version = m.1.1.1.1.0;
      set_name = r.0;
      hidden = r.1.0;
      secondary = r.1.1.0;
      arbiter_only = r.1.1.1.0;
      is_replica_set = r.1.1.1.1.0;
      logical_session_timeout_minutes = s.0;
      last_write = s.1.0;
      min_wire_version = s.1.1.0;
      max_wire_version = s.1.1.1.0;
      tags = s.1.1.1.1.0;
      election_id = e.0;
      primary = e.1.0;
      sasl_supported_mechs = e.1.1.0;
      speculative_authenticate = e.1.1.1.0;
      max_bson_object_size = e.1.1.1.1.0;
      max_write_batch_size = l.0;
      service_id = l.1.0;
      topology_version = l.1.1.0;
      max_message_size_bytes = l.1.1.1.0;
      connection_id = l.1.1.1.1.0;
    }

-- a reply's values, five at a time
abbrev pub reply_greeting : HelloCommandResponse → Values (five 0)
reply_greeting r = (r.is_writable_primary, (r.is_master, (r.hello_ok, (r.hosts, (r.passives, tt)))))

abbrev pub reply_membership : HelloCommandResponse → Values (five 5)
reply_membership r = (r.arbiters, (r.msg, (r.me, (r.compressors, (r.set_version, tt)))))

abbrev pub reply_role : HelloCommandResponse → Values (five 10)
reply_role r = (r.set_name, (r.hidden, (r.secondary, (r.arbiter_only, (r.is_replica_set, tt)))))

abbrev pub reply_state : HelloCommandResponse → Values (five 15)
reply_state r = (r.logical_session_timeout_minutes, (r.last_write, (r.min_wire_version, (r.max_wire_version, (r.tags, tt)))))

abbrev pub reply_election : HelloCommandResponse → Values (five 20)
reply_election r = (r.election_id, (r.primary, (r.sasl_supported_mechs, (r.speculative_authenticate, (r.max_bson_object_size, tt)))))

abbrev pub reply_limits : HelloCommandResponse → Values (five 25)
reply_limits r = (r.max_write_batch_size, (r.service_id, (r.topology_version, (r.max_message_size_bytes, (r.connection_id, tt)))))
