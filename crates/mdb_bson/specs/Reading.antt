-- Documents as bytes (bsonspec.org, BSON 1.1), read from left to right, with the first fault that is met.
use Rattle.std.specs.Prelude.{◌≡◌, ℕ, zero, suc, ◌+◌, ◌-◌, ◌==◌, ◌||◌, List, [], ◌∷◌, ◌++◌, length, take, drop, map, Bool, true, false, Option, Some, None, option_map, Result, Ok, Err, nat_lt, if◌then◌else◌, ℤ, String}
use Rattle.std.specs.Int.{w32, w64, from_le_bytes, cast_signed}
use Rattle.std.specs.Str.{is_utf8}
use Rattle.std.specs.declared.alloc.Global.{Global}
use Rattle.mdb_base.specs.declared.document.Value.{Value}
use Rattle.mdb_base.specs.Document.{named_content, Content, int, boolean, text, list, id as an_id, date as a_date, nested, Field, fields_of, contents_of}
use Rattle.mdb_bson.specs.declared.fault.Fault.{Fault}
use Rattle.mdb_bson.specs.declared.fault.Fault.TheVariants as fault
use Rattle.mdb_bson.specs.declared.fault.Stop.{Stop}
use Rattle.mdb_bson.specs.declared.fault.Stop.TheVariants as stop
use Rattle.mdb_bson.specs.declared.kind.Kind.{Kind}
use Rattle.mdb_bson.specs.declared.kind.Kind.TheVariants as kind
use Rattle.mdb_bson.specs.Kinds.{kind_of}

-- what is bad, and how many bytes there are from there to the end
abbrev pub Bad : Type 0
Bad = Fault × ℕ

-- what stands at the front of bytes, with the bytes behind it
abbrev pub Reading : Type 0 → Type 0
Reading T = List ℕ → Result (T × List ℕ) Bad

infixl 10 ◌>>=◌
abbrev pub ◌>>=◌ : {A B : Type 0} → Result A Bad → (A → Result B Bad) → Result B Bad
(Ok x) >>= f = f x
(Err e) >>= f = Err e

-- What a function returned, seen by view, is what reading gives, unless there was no memory.
abbrev pub Stops : {Y : Type 0} → Stop → Result Y Bad → Type 0
Stops stop.Memory read = Unit {0}
Stops (stop.Bad f left) read = read ≡ Err (f, left)

abbrev pub Gives : {X Y : Type 0} → (X → Y) → Result X Stop → Result Y Bad → Type 0
Gives view (Ok x) read = read ≡ Ok (view x)
Gives view (Err e) read = Stops e read

-- the first byte and those behind it, as bytes again
abbrev pub joined : Option (ℕ × List ℕ) → List ℕ
joined None = []
joined (Some x) = x.0 ∷ x.1

-- so many bytes
abbrev pub front : ℕ → Reading (List ℕ)
front n bytes = if nat_lt (length bytes) n then Err (fault.Short, length bytes) else Ok (take n bytes, drop n bytes)

-- int32 ::= four bytes, the lowest first. A length is such a number; one below 0 is longer than all bytes.
unfoldable pub length_at : Reading ℕ
length_at bytes = do
  own ← front 4 bytes
  Ok (from_le_bytes w32 own.0, own.1)

unfoldable pub int32 : Reading ℤ
int32 bytes = do
  own ← front 4 bytes
  Ok (cast_signed w32 (from_le_bytes w32 own.0), own.1)

-- int64 ::= eight bytes, the lowest first
unfoldable pub int64 : Reading ℤ
int64 bytes = do
  own ← front 8 bytes
  Ok (cast_signed w64 (from_le_bytes w64 own.0), own.1)

abbrev pub utf8 : List ℕ → Option (List ℕ)
utf8 bytes = if is_utf8 bytes then Some bytes else None

abbrev pub utf8_or : Bad → List ℕ → Option (List ℕ) → Result (List ℕ × List ℕ) Bad
utf8_or bad rest (Some own) = Ok (own, rest)
utf8_or bad rest None = Err bad

-- a text of so many bytes, with what stands behind it
abbrev pub before_zero : List ℕ → ℕ → Reading (List ℕ)
before_zero own left [] = Err (fault.Zero, 0)
before_zero own left (zero ∷ rest) = utf8_or (fault.Utf8, left) rest (utf8 own)
before_zero own left (suc b ∷ rest) = Err (fault.Zero, length (suc b ∷ rest))

-- (byte*) "\x00", of so many bytes
unfoldable pub ended : ℕ → Reading (List ℕ)
ended n bytes = before_zero (take n bytes) (length bytes) (drop n bytes)

-- how many bytes stand before the first zero byte
abbrev pub name_len : List ℕ → ℕ
name_len [] = 0
name_len (zero ∷ rest) = 0
name_len (suc b ∷ rest) = suc (name_len rest)

-- cstring ::= (byte*) "\x00", without a zero byte before the last
abbrev pub name : Reading (List ℕ)
name bytes = ended (name_len bytes) bytes

-- string ::= int32 (byte*) "\x00", where the number counts the bytes and the zero byte
unfoldable pub string : Reading (List ℕ)
string bytes = do
  n ← length_at bytes
  if n.0 == 0 || nat_lt (length n.1) n.0 then Err (fault.Length, length bytes) else ended (n.0 - 1) n.1

-- "\x00" is false, and "\x01" is true
unfoldable pub truth : Reading (Option Content)
truth [] = Err (fault.Short, 0)
truth (zero ∷ rest) = Ok (Some (boolean false), rest)
truth (suc zero ∷ rest) = Ok (Some (boolean true), rest)
truth (suc (suc b) ∷ rest) = Err (fault.Bool, length (suc (suc b) ∷ rest))

unfoldable pub id : Reading (Option Content)
id bytes = do
  own ← front 12 bytes
  Ok (Some (an_id (record { 0 = own.0 })), own.1)

unfoldable pub date : Reading (Option Content)
date bytes = do
  n ← int64 bytes
  Ok (Some (a_date (record { 0 = n.0 })), n.1)

unfoldable pub text_value : Reading (Option Content)
text_value bytes = do
  own ← string bytes
  Ok (Some (text own.0), own.1)

unfoldable pub int32_value : Reading (Option Content)
int32_value bytes = do
  n ← int32 bytes
  Ok (Some (int n.0), n.1)

unfoldable pub int64_value : Reading (Option Content)
int64_value bytes = do
  n ← int64 bytes
  Ok (Some (int n.0), n.1)

-- a value of so many bytes, for which a document has nothing
unfoldable pub passed : ℕ → Reading (Option Content)
passed n bytes = do
  own ← front n bytes
  Ok (None, own.1)

-- binary ::= int32 subtype (byte*)
unfoldable pub binary : Reading (Option Content)
binary bytes = do
  n ← length_at bytes
  if nat_lt n.0 (length n.1) then passed (n.0 + 1) n.1 else Err (fault.Length, length bytes)

-- a regular expression: cstring cstring
unfoldable pub regex : Reading (Option Content)
regex bytes = do
  pattern ← name bytes
  options ← name pattern.1
  Ok (None, options.1)

-- DBPointer: string (byte*12)
unfoldable pub pointer : Reading (Option Content)
pointer bytes = do
  own ← string bytes
  passed 12 own.1

-- code, or a symbol: string
unfoldable pub code : Reading (Option Content)
code bytes = do
  own ← string bytes
  Ok (None, own.1)

-- an embedded document
unfoldable pub nested_value : Reading (List Field) → Reading (Option Content)
nested_value document bytes = do
  fields ← document bytes
  Ok (Some (nested (fields_of fields.0)), fields.1)

abbrev pub values_of : List Field → List Content
values_of fields = map (λ f. f.1) fields

-- an array: a document whose names say nothing
unfoldable pub list_value : Reading (List Field) → Reading (Option Content)
list_value document bytes = do
  fields ← document bytes
  Ok (Some (list (contents_of (values_of fields.0))), fields.1)

-- code_w_s ::= int32 string document, where the number counts all of it
unfoldable pub scoped : Reading (List Field) → Reading (Option Content)
scoped document bytes = do
  n ← length_at bytes
  own ← string n.1
  scope ← document own.1
  if length bytes - length scope.1 == n.0 then Ok (None, scope.1) else Err (fault.Length, length bytes)

-- a value, where `document` reads the documents in it
unfoldable pub value_of : Reading (List Field) → Kind → Reading (Option Content)
value_of document kind.Text bytes = text_value bytes
value_of document kind.Document bytes = nested_value document bytes
value_of document kind.List bytes = list_value document bytes
value_of document kind.Binary bytes = binary bytes
value_of document kind.Id bytes = id bytes
value_of document kind.Bool bytes = truth bytes
value_of document kind.Date bytes = date bytes
value_of document kind.Regex bytes = regex bytes
value_of document kind.Pointer bytes = pointer bytes
value_of document kind.Code bytes = code bytes
value_of document kind.Scoped bytes = scoped document bytes
value_of document kind.Int32 bytes = int32_value bytes
value_of document kind.Int64 bytes = int64_value bytes
value_of document (kind.Passed n) bytes = passed n bytes

abbrev pub value_or : Reading (List Field) → Option Kind → Reading (Option Content)
value_or document None bytes = Err (fault.Kind, length bytes)
value_or document (Some k) bytes = value_of document k bytes

unfoldable pub value : Reading (List Field) → ℕ → Reading (Option Content)
value document n bytes = value_or document (kind_of n) bytes

-- the field, where there is a value
abbrev pub field_of : List ℕ → Option Content → List Field
field_of own None = []
field_of own (Some c) = (own, c) ∷ []

-- what a field says, where there is one
abbrev pub found : Option (String Global × Value) → List Field
found None = []
found (Some f) = named_content f ∷ []

-- element ::= the number of a type, cstring, and the value; it ends before the zero byte of its document, behind which `end` bytes stand
unfoldable pub element : Reading (List Field) → ℕ → ℕ → Reading (List Field)
element document end n bytes = do
  own ← name bytes
  found ← value document n own.1
  if nat_lt end (length found.1) then Ok (field_of own.0 found.0, found.1) else Err (fault.Past, suc (length bytes))

-- the fields before the last zero byte, behind which `end` bytes stand
unfoldable pub last : List Field → ℕ → Reading (List Field)
last fields end rest = if length rest == end then Ok (fields, rest) else Err (fault.Zero, suc (length rest))

-- e_list "\x00", with `end` bytes behind it. There are no more elements than bytes.
unfoldable pub elements : Reading (List Field) → ℕ → List ℕ → Reading (List Field)
elements document end [] bytes = Err (fault.Zero, length bytes)
elements document end (_ ∷ more) [] = Err (fault.Zero, 0)
elements document end (_ ∷ more) (zero ∷ rest) = last [] end rest
elements document end (_ ∷ more) (suc n ∷ rest) = do
  first ← element document end (suc n) rest
  others ← elements document end more first.1
  Ok (first.0 ++ others.0, others.1)

-- document ::= int32 e_list "\x00", where the number counts all of it, and `document` reads the documents in it
unfoldable pub framed : Reading (List Field) → Reading (List Field)
framed document bytes = do
  n ← length_at bytes
  if nat_lt n.0 5 || nat_lt (length bytes) n.0 then Err (fault.Length, length bytes) else elements document (length bytes - n.0) n.1 n.1

-- a document, where so many may stand within one another
unfoldable pub document : ℕ → Reading (List Field)
document zero bytes = Err (fault.Depth, length bytes)
document (suc depth) bytes = framed (document depth) bytes

-- all of the bytes
unfoldable pub whole : List ℕ → Result (List Field) Bad
whole bytes =
    if nat_lt 16793600 (length bytes) then Err (fault.Size, length bytes)
    else document 100 bytes >>= λ x. if length x.1 == 0 then Ok x.0 else Err (fault.Trailing, length x.1)
