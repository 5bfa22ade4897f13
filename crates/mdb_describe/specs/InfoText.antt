-- What is told of one server, as a text.
use Rattle.std.specs.Prelude.{ℕ, ℤ, List, [], ◌∷◌, ◌++◌, decimal, codes, flat_map, Option, Some, None, Result, Ok, Err}
use Rattle.std.specs.Fmt.{signed_decimal}
use Rattle.mdb_base.specs.declared.error.Error.{Error}
use Rattle.mdb_base.specs.declared.times.DateTime.{DateTime}
use Rattle.mdb_base.specs.Spelling.{address}
use Rattle.mdb_base.specs.ErrorText.{error_text}
use Rattle.mdb_base.specs.Tags.{Tag}
use Rattle.mdb_hello.specs.declared.response.HelloReply.{HelloReply}
use Rattle.mdb_hello.specs.declared.server_type.ServerType.{ServerType}
use Rattle.mdb_hello.specs.declared.server_type.ServerType.TheVariants.{Standalone, Mongos, RsPrimary, RsSecondary, RsArbiter, RsOther, RsGhost, LoadBalancer, Unknown}
use Rattle.mdb_describe.specs.declared.description.ServerDescription.{ServerDescription}
use Rattle.mdb_describe.specs.Fields.{set_name, set_version, tags, min_wire_version, max_wire_version}
use Rattle.mdb_describe.specs.Compatibility.{incompatible}

abbrev pub type_name : ServerType → List ℕ
type_name Standalone = codes "Standalone"
type_name Mongos = codes "Mongos"
type_name RsPrimary = codes "RsPrimary"
type_name RsSecondary = codes "RsSecondary"
type_name RsArbiter = codes "RsArbiter"
type_name RsOther = codes "RsOther"
type_name RsGhost = codes "RsGhost"
type_name LoadBalancer = codes "LoadBalancer"
type_name Unknown = codes "Unknown"

-- a number or a text after its name, and nothing where it is absent
abbrev pub number_part : List ℕ → Option ℤ → List ℕ
number_part name (Some n) = codes ", " ++ (name ++ (codes ": " ++ signed_decimal n))
number_part name None = []

abbrev pub text_part : List ℕ → Option (List ℕ) → List ℕ
text_part name (Some text) = codes ", " ++ (name ++ (codes ": " ++ text))
text_part name None = []

abbrev pub round_trip_part : Option ℕ → List ℕ
round_trip_part (Some n) = codes ", Average RTT: " ++ (decimal n ++ codes "ns")
round_trip_part None = []

abbrev pub time_part : Option DateTime → List ℕ
time_part (Some time) = codes ", Last Update Time: " ++ signed_decimal time.0
time_part None = []

abbrev pub tag_text : Tag → List ℕ
tag_text tag = tag.0 ++ (codes ": " ++ tag.1)

abbrev pub tags_text : List Tag → List ℕ
tags_text [] = []
tags_text (tag ∷ more) = tag_text tag ++ flat_map (λ other. codes ", " ++ tag_text other) more

abbrev pub tags_part : Option (List Tag) → List ℕ
tags_part (Some tags) = codes ", Tags: {" ++ (tags_text tags ++ codes "}")
tags_part None = []

-- what a reply adds, where this is why the driver cannot speak to the server
abbrev pub reply_part_with : ServerDescription → Option (List ℕ) → List ℕ
reply_part_with d reason =
    round_trip_part d.average_round_trip_time
    ++ (time_part d.last_update_time
    ++ (number_part (codes "Max Wire Version") (max_wire_version d)
    ++ (number_part (codes "Min Wire Version") (min_wire_version d)
    ++ (text_part (codes "Replica Set Name") (set_name d)
    ++ (number_part (codes "Replica Set Version") (set_version d)
    ++ (tags_part (tags d)
    ++ text_part (codes "Compatiblity Error") reason))))))

abbrev pub details_with : Result (Option HelloReply) Error → ServerDescription → Option (List ℕ) → List ℕ
details_with (Ok (Some reply)) d reason = reply_part_with d reason
details_with (Ok None) d reason = []
details_with (Err e) d reason = codes ", Error: " ++ error_text e

abbrev pub info_text_with : ServerDescription → Option (List ℕ) → List ℕ
info_text_with d reason = codes "{ Address: " ++ (address d.address ++ (codes ", Type: " ++ (type_name d.server_type ++ (details_with d.reply d reason ++ codes " }"))))

-- the address and the type, then what a reply or an error adds
abbrev pub info_text : ServerDescription → List ℕ
info_text d = info_text_with d (incompatible d)
