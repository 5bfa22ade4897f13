-- The kinds of a reply's fields: what a value of each kind is, which contents of a document are such a value, and how it is written.
use Rattle.std.specs.Prelude.{ℕ, ◌-◌, ◌^◌, min, ℤ, pos, negsuc, int_lt, List, [], ◌∷◌, ◌&&◌, not, Bool, Option, Some, None, option_map, option_and_then, if◌then◌else◌, codes, map, nat_eq}
use Rattle.std.specs.Cmp.Lexicographic.{pointwise, slice_cmp}
use Rattle.std.specs.Ordering.{match_ordering, nat_cmp}
use Rattle.mdb_base.specs.declared.object_id.ObjectId.{ObjectId}
use Rattle.mdb_base.specs.declared.times.DateTime.{DateTime}
use Rattle.mdb_base.specs.declared.topology_version.TopologyVersion.{TopologyVersion}
use Rattle.mdb_base.specs.Document.{Content, int, boolean, text, list, id, date, nested, contents_of, listed_contents, Field, fields_of, listed_fields}
use Rattle.mdb_base.specs.Tags.{Tag}
use Rattle.mdb_hello.specs.declared.response.LastWrite.{LastWrite}

pub data Kind : Type 0 where
  a_flag : Kind
  a_text : Kind
  some_texts : Kind
  a_small_number : Kind
  a_number : Kind
  a_count : Kind
  an_id : Kind
  some_tags : Kind
  a_last_write : Kind
  a_version : Kind
  a_document : Kind

-- the values of a kind
abbrev pub Of : Kind → Type 0
Of a_flag = Bool
Of a_text = List ℕ
Of some_texts = List (List ℕ)
Of a_small_number = ℤ
Of a_number = ℤ
Of a_count = ℕ
Of an_id = ObjectId
Of some_tags = List Tag
Of a_last_write = LastWrite
Of a_version = TopologyVersion
Of a_document = List Field

-- the first value of this name
abbrev pub named : List ℕ → List Field → Option Content
named name [] = None
named name (f ∷ fs) = if pointwise nat_eq f.0 name then Some f.1 else named name fs

abbrev pub flag_in : Content → Option Bool
flag_in (boolean answer) = Some answer
flag_in _ = None

abbrev pub text_in : Content → Option (List ℕ)
text_in (text bytes) = Some bytes
text_in _ = None

abbrev pub number_in : Content → Option ℤ
number_in (int n) = Some n
number_in _ = None

abbrev pub id_in : Content → Option ObjectId
id_in (id i) = Some i
id_in _ = None

abbrev pub date_in : Content → Option DateTime
date_in (date d) = Some d
date_in _ = None

abbrev pub document_in : Content → Option (List Field)
document_in (nested fs) = Some (listed_fields fs)
document_in _ = None

abbrev pub list_in : Content → Option (List Content)
list_in (list cs) = Some (listed_contents cs)
list_in _ = None

-- each of the values is a text
abbrev pub all_texts : List Content → Option (List (List ℕ))
all_texts [] = Some []
all_texts (c ∷ cs) = option_and_then (λ bytes. option_map (λ more. bytes ∷ more) (all_texts cs)) (text_in c)

-- a number of 32 bits with its sign
abbrev pub is_small : ℤ → Bool
is_small n = not (int_lt n (negsuc (2 ^ 31 - 1))) && not (int_lt (pos (2 ^ 31 - 1)) n)

abbrev pub small_number : ℤ → Option ℤ
small_number n = if is_small n then Some n else None

-- a number of at least 0
abbrev pub count_of : ℤ → Option ℕ
count_of (pos n) = Some n
count_of (negsuc n) = None

-- the tags with this one in its place by name, or with its value in place of that of the same name
abbrev pub put_tag : Tag → List Tag → List Tag
put_tag new [] = new ∷ []
put_tag new (tag ∷ tags) = match_ordering (slice_cmp nat_cmp new.0 tag.0) (new ∷ tag ∷ tags) ((tag.0, new.1) ∷ tags) (tag ∷ put_tag new tags)

-- each of the fields is a text; they are put over the tags from the last one on, so that of repeated names the first counts
abbrev pub put_tags : List Tag → List Field → Option (List Tag)
put_tags tags [] = Some tags
put_tags tags (f ∷ fs) = option_and_then (λ bytes. option_map (put_tag (f.0, bytes)) (put_tags tags fs)) (text_in f.1)

abbrev pub last_write : DateTime → LastWrite
last_write d = record { last_write_date = d }

abbrev pub version : ObjectId → ℤ → TopologyVersion
version process n = record { process_id = process; counter = n }

abbrev pub last_write_of : List Field → Option LastWrite
last_write_of fs = option_map last_write (option_and_then date_in (named (codes "lastWriteDate") fs))

abbrev pub version_of : List Field → Option TopologyVersion
version_of fs =
    option_and_then (λ process. option_map (version process) (option_and_then number_in (named (codes "counter") fs)))
    (option_and_then id_in (named (codes "processId") fs))

abbrev pub small_number_in : Content → Option ℤ
small_number_in c = option_and_then small_number (number_in c)

abbrev pub count_in : Content → Option ℕ
count_in c = option_and_then count_of (number_in c)

abbrev pub texts_in : Content → Option (List (List ℕ))
texts_in c = option_and_then all_texts (list_in c)

abbrev pub tags_in : Content → Option (List Tag)
tags_in c = option_and_then (put_tags []) (document_in c)

abbrev pub last_write_in : Content → Option LastWrite
last_write_in c = option_and_then last_write_of (document_in c)

abbrev pub version_in : Content → Option TopologyVersion
version_in c = option_and_then version_of (document_in c)

-- the value of a kind that a content is, where it is one
abbrev pub read_as : (k : Kind) → Content → Option (Of k)
read_as a_flag c = flag_in c
read_as a_text c = text_in c
read_as some_texts c = texts_in c
read_as a_small_number c = small_number_in c
read_as a_number c = number_in c
read_as a_count c = count_in c
read_as an_id c = id_in c
read_as some_tags c = tags_in c
read_as a_last_write c = last_write_in c
read_as a_version c = version_in c
read_as a_document c = document_in c

abbrev pub tag_field : Tag → Field
tag_field tag = (tag.0, text tag.1)

abbrev pub texts_content : List (List ℕ) → Content
texts_content texts = list (contents_of (map text texts))

-- a count past the greatest number of 64 bits with a sign is written as that number
abbrev pub count_content : ℕ → Content
count_content n = int (pos (min n (2 ^ 63 - 1)))

abbrev pub tags_content : List Tag → Content
tags_content tags = nested (fields_of (map tag_field tags))

abbrev pub last_write_content : LastWrite → Content
last_write_content w = nested (fields_of ((codes "lastWriteDate", date w.last_write_date) ∷ []))

abbrev pub version_content : TopologyVersion → Content
version_content v = nested (fields_of ((codes "processId", id v.process_id) ∷ (codes "counter", int v.counter) ∷ []))

abbrev pub document_content : List Field → Content
document_content fs = nested (fields_of fs)

-- how a value of a kind is written
abbrev pub written_as : (k : Kind) → Of k → Content
written_as a_flag answer = boolean answer
written_as a_text bytes = text bytes
written_as some_texts texts = texts_content texts
written_as a_small_number n = int n
written_as a_number n = int n
written_as a_count n = count_content n
written_as an_id i = id i
written_as some_tags tags = tags_content tags
written_as a_last_write w = last_write_content w
written_as a_version v = version_content v
written_as a_document fs = document_content fs
