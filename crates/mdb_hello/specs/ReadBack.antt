-- Which replies are read back from what they are written as: all whose numbers are of their types, whose tags stand by name, and whose session timeout is below 2^63.
use Rattle.std.specs.Prelude.{ℕ, ◌^◌, ◌<◌, List, [], ◌∷◌, Bool, true, false, Option, Some, None, IsTrue}
use Rattle.mdb_base.specs.Tags.{is_by_name}
use Rattle.mdb_hello.specs.Kinds.{Kind, a_flag, a_text, some_texts, a_small_number, a_number, a_count, an_id, some_tags, a_last_write, a_version, a_document, Of, is_small}
use Rattle.mdb_hello.specs.Table.{Row, Slot, Values, reply_fields}
use Rattle.mdb_hello.specs.Reply.{values}
use Rattle.mdb_hello.specs.declared.response.HelloCommandResponse.{HelloCommandResponse}

-- a value that is read back from what it is written as
abbrev pub IsPlain : (k : Kind) → Of k → Type 0
IsPlain a_small_number n = IsTrue (is_small n)
IsPlain a_count n = n < 2 ^ 63
IsPlain some_tags tags = IsTrue (is_by_name tags)
IsPlain a_flag x = Unit {0}
IsPlain a_text x = Unit {0}
IsPlain some_texts x = Unit {0}
IsPlain a_number x = Unit {0}
IsPlain an_id x = Unit {0}
IsPlain a_last_write x = Unit {0}
IsPlain a_version x = Unit {0}
IsPlain a_document x = Unit {0}

abbrev pub IsPlainSlot : (must : Bool) (k : Kind) → Slot must (Of k) → Type 0
IsPlainSlot true k x = IsPlain k x
IsPlainSlot false k None = Unit {0}
IsPlainSlot false k (Some x) = IsPlain k x

abbrev pub ArePlain : (rows : List Row) → Values rows → Type 0
ArePlain [] v = Unit {0}
ArePlain (row ∷ rows) v = IsPlainSlot row.required row.kind v.0 × ArePlain rows v.1

-- the session timeout is below 2^63
abbrev pub IsShort : Option ℕ → Type 0
IsShort timeout = IsPlainSlot false a_count timeout

abbrev pub IsPlainReply : HelloCommandResponse → Type 0
IsPlainReply r = ArePlain reply_fields (values r)
