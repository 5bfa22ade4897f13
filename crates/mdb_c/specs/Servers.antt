-- A server as numbers and texts.
use Rattle.std.specs.Prelude.{ℕ, ℤ, ◌==◌, pos, false, List, slice_get, position, Option, Some, None, is_some, unwrap_or, option_map, option_and_then, if◌then◌else◌}
use Rattle.mdb_base.specs.Equality.{same_address}
use Rattle.mdb_base.specs.ErrorText.{error_text}
use Rattle.mdb_base.specs.Spelling.{address, object_id}
use Rattle.mdb_base.specs.declared.address.ServerAddress.{ServerAddress}
use Rattle.mdb_base.specs.declared.times.DateTime.{DateTime}
use Rattle.mdb_hello.specs.declared.response.HelloCommandResponse.{HelloCommandResponse}
use Rattle.mdb_parts.specs.Parts.{texts}
use Rattle.mdb_replies.specs.ReplyParts.{fields_text}
use Rattle.mdb_describe.specs.Fields.{response, error, set_version, min_wire_version, max_wire_version}
use Rattle.mdb_describe.specs.InfoText.{info_text}
use Rattle.mdb_describe.specs.declared.description.ServerDescription.{ServerDescription}
use Rattle.mdb_c.specs.Types.{flag_number, server_type_number}
use Rattle.mdb_c.specs.declared.server_numbers.ServerNumbers.{ServerNumbers}

-- the number of a time, and 0 for none
abbrev pub since_epoch : Option DateTime → ℤ
since_epoch (Some time) = time.0
since_epoch None = pos 0

abbrev pub server_numbers : ServerDescription → ServerNumbers
server_numbers d = record {
  round_trip = unwrap_or d.average_round_trip_time 0;
  updated = since_epoch d.last_update_time;
  kind = server_type_number d.server_type;
  min_wire = unwrap_or (min_wire_version d) (pos 0);
  max_wire = unwrap_or (max_wire_version d) (pos 0);
  set_version = unwrap_or (set_version d) (pos 0);
  has_round_trip = flag_number (is_some d.average_round_trip_time);
  has_updated = flag_number (is_some d.last_update_time);
  has_set_version = flag_number (is_some (set_version d));
  has_error = flag_number (is_some (error d));
}

-- The text of this number that a reply gives: the name of the set, the election id, the server's own address, its primary's, its hosts, passives and
-- arbiters, or all fields as a line has them.
abbrev pub reply_text : ℕ → HelloCommandResponse → Option (List ℕ)
reply_text which r =
    if which == 1 then r.set_name
    else if which == 2 then option_map object_id r.election_id
    else if which == 6 then r.me
    else if which == 7 then r.primary
    else if which == 8 then option_map texts r.hosts
    else if which == 9 then option_map texts r.passives
    else if which == 10 then option_map texts r.arbiters
    else if which == 11 then Some (fields_text r false)
    else None

-- The text of this number of a server: its error, its address, all that is told of it in one text, or one that its reply gives.
abbrev pub server_text : ℕ → ServerDescription → Option (List ℕ)
server_text which d =
    if which == 3 then option_map error_text (error d)
    else if which == 4 then Some (address d.address)
    else if which == 5 then Some (info_text d)
    else option_and_then (reply_text which) (response d)

-- the numbers of the server at the place, in the order of their addresses
abbrev pub numbers_at : List ServerDescription → ℕ → Option ServerNumbers
numbers_at servers i = option_map server_numbers (slice_get servers i)

-- the text of this number of the server at the place, in the order of their addresses
abbrev pub text_at : List ServerDescription → ℕ → ℕ → Option (List ℕ)
text_at servers i which = option_and_then (server_text which) (slice_get servers i)

-- the place of the server with the address
abbrev pub place_of : List ServerDescription → ServerAddress → Option ℕ
place_of servers a = position (λ d. same_address d.address a) servers
