-- Replies that come as documents.
use Rattle.std.specs.Prelude.{◌≡◌, ℕ, min, List, ◌++◌, length, take, drop, replicate, Bool, not, ◌==◌, None, Result, Ok, Err, pos}
use Rattle.mdb_base.specs.Document.{Field}
use Rattle.mdb_base.specs.declared.address.ServerAddress.{ServerAddress}
use Rattle.mdb_bson.specs.Bson.{read as read_document}
use Rattle.mdb_bson.specs.declared.fault.Fault.{Fault}
use Rattle.mdb_bson.specs.declared.fault.Fault.TheVariants.{Size, Short, Length, Zero, Utf8, Bool as Truth, Kind, Depth, Past, Trailing}
use Rattle.mdb_hello.specs.Reply.{read as read_reply}
use Rattle.mdb_hello.specs.declared.response.HelloCommandResponse.{HelloCommandResponse}
use Rattle.mdb_session.specs.Texts.{IsAddressOf}
use Rattle.mdb_session.specs.declared.at.At.{At}
use Rattle.mdb_c.specs.declared.document_faults.DocumentFault.{DocumentFault}
use Rattle.mdb_c.specs.declared.documents.CameNumbers.{CameNumbers}
use Rattle.mdb_c.specs.declared.documents.Refused.{Refused}
use Rattle.mdb_c.specs.declared.documents.Refused.TheVariants as refused

-- what is bad, counted from 1
abbrev pub fault_number : Fault → ℕ
fault_number Size = 1
fault_number Short = 2
fault_number Length = 3
fault_number Zero = 4
fault_number Utf8 = 5
fault_number Truth = 6
fault_number Kind = 7
fault_number Depth = 8
fault_number Past = 9
fault_number Trailing = 10

-- the name in 36 bytes, with zeros behind it
abbrev pub padded : List ℕ → List ℕ
padded name = take (min (length name) 36) name ++ drop (min (length name) 36) (replicate 36 0)

abbrev pub byte_fault : Fault → ℕ → DocumentFault
byte_fault fault place = record { place = place; kind = fault_number fault; field = replicate 36 0 }

abbrev pub field_fault : List ℕ → DocumentFault
field_fault name = record { place = 0; kind = 11; field = padded name }

-- what a driver keeps of a reply: the fields that a line of a script names
abbrev pub kept_of : HelloCommandResponse → HelloCommandResponse
kept_of r =
    record r {
      compressors = None;
      last_write = None;
      sasl_supported_mechs = None;
      speculative_authenticate = None;
      max_bson_object_size = pos 0;
      max_write_batch_size = None;
      service_id = None;
      max_message_size_bytes = pos 0;
    }

abbrev pub reply_of_fields : Result HelloCommandResponse (List ℕ) → Result HelloCommandResponse DocumentFault
reply_of_fields (Ok r) = Ok (kept_of r)
reply_of_fields (Err name) = Err (field_fault name)

abbrev pub reply_of_document : Result (List Field) (Fault × ℕ) → Result HelloCommandResponse DocumentFault
reply_of_document (Ok fields) = reply_of_fields (read_reply fields)
reply_of_document (Err bad) = Err (byte_fault bad.0 bad.1)

-- what a driver keeps of the reply that the bytes are in BSON, or what is bad in them
abbrev pub reply_in : List ℕ → Result HelloCommandResponse DocumentFault
reply_in bytes = reply_of_document (read_document bytes)

-- why a document is not taken
abbrev pub IsUnread : List ℕ → Refused → Type 0
IsUnread document (refused.Bad fault) = reply_in document ≡ Err fault
IsUnread document refused.Malformed = ⊥
IsUnread document refused.NoMemory = Unit {0}

-- why an address and a document are not taken
abbrev pub IsRefused : List ℕ → List ℕ → Refused → Type 0
IsRefused address document (refused.Bad fault) = reply_in document ≡ Err fault
IsRefused address document refused.Malformed = (a : ServerAddress) → IsAddressOf address a → ⊥
IsRefused address document refused.NoMemory = Unit {0}

-- who tells of it, and when
abbrev pub at_of : CameNumbers → At
at_of came = record { moment = came.moment; seat = came.seat }

abbrev pub more_of : CameNumbers → Bool
more_of came = not (came.more == 0)
