-- The fields of a reply to a hello, in order, and how a table of fields is read from a document and written to one.
use Rattle.std.specs.Prelude.{ℕ, List, [], ◌∷◌, ◌++◌, Bool, true, false, Option, Some, None, Result, Ok, Err, codes}
use Rattle.std.specs.Option.{option_or}
use Rattle.std.specs.Result.{result_err}
use Rattle.mdb_base.specs.Document.{Content, Field}
use Rattle.mdb_hello.specs.Kinds.{Kind, a_flag, a_text, some_texts, a_small_number, a_number, a_count, an_id, some_tags, a_last_write, a_version, a_document, Of, named, read_as, written_as}

-- a field: its name, its kind, and whether each reply has it
pub record Row : Type 0 where
  pub name : List ℕ
  pub kind : Kind
  pub required : Bool

abbrev optional : List ℕ → Kind → Row
optional n k = record { name = n; kind = k; required = false }

abbrev required : List ℕ → Kind → Row
required n k = record { name = n; kind = k; required = true }

abbrev pub reply_fields : List Row
reply_fields =
    optional (codes "isWritablePrimary") a_flag
    ∷ optional (codes "ismaster") a_flag
    ∷ optional (codes "helloOk") a_flag
    ∷ optional (codes "hosts") some_texts
    ∷ optional (codes "passives") some_texts
    ∷ optional (codes "arbiters") some_texts
    ∷ optional (codes "msg") a_text
    ∷ optional (codes "me") a_text
    ∷ optional (codes "compression") some_texts
    ∷ optional (codes "setVersion") a_small_number
    ∷ optional (codes "setName") a_text
    ∷ optional (codes "hidden") a_flag
    ∷ optional (codes "secondary") a_flag
    ∷ optional (codes "arbiterOnly") a_flag
    ∷ optional (codes "isreplicaset") a_flag
    ∷ optional (codes "logicalSessionTimeoutMinutes") a_count
    ∷ optional (codes "lastWrite") a_last_write
    ∷ optional (codes "minWireVersion") a_small_number
    ∷ optional (codes "maxWireVersion") a_small_number
    ∷ optional (codes "tags") some_tags
    ∷ optional (codes "electionId") an_id
    ∷ optional (codes "primary") a_text
    ∷ optional (codes "saslSupportedMechs") some_texts
    ∷ optional (codes "speculativeAuthenticate") a_document
    ∷ required (codes "maxBsonObjectSize") a_number
    ∷ optional (codes "maxWriteBatchSize") a_number
    ∷ optional (codes "serviceId") an_id
    ∷ optional (codes "topologyVersion") a_version
    ∷ required (codes "maxMessageSizeBytes") a_small_number
    ∷ optional (codes "connectionId") a_number
    ∷ []

-- what a reply holds in place of a field
abbrev pub Slot : Bool → Type 0 → Type 0
Slot true T = T
Slot false T = Option T

-- a value for each field
abbrev pub Values : List Row → Type 0
Values [] = Unit {0}
Values (row ∷ rows) = Slot row.required (Of row.kind) × Values rows

abbrev pub on_ok : {A B E : Type 0} → (A → B) → Result A E → Result B E
on_ok f (Ok x) = Ok (f x)
on_ok f (Err e) = Err e

-- a value, or the name of a field of another type
abbrev pub of_its_type : {T : Type 0} → List ℕ → Option T → Result T (List ℕ)
of_its_type name None = Err name
of_its_type name (Some x) = Ok x

-- what is read of a field that each document has
abbrev pub required_in : {T : Type 0} → (Content → Option T) → List ℕ → Option Content → Result T (List ℕ)
required_in as_its_type name None = Err name
required_in as_its_type name (Some c) = of_its_type name (as_its_type c)

-- what is read of a field that may be absent
abbrev pub optional_in : {T : Type 0} → (Content → Option T) → List ℕ → Option Content → Result (Option T) (List ℕ)
optional_in as_its_type name None = Ok None
optional_in as_its_type name (Some c) = on_ok Some (of_its_type name (as_its_type c))

abbrev pub read_found : (must : Bool) (k : Kind) → List ℕ → Option Content → Result (Slot must (Of k)) (List ℕ)
read_found true k name c = required_in (read_as k) name c
read_found false k name c = optional_in (read_as k) name c

-- what a document says in a field
abbrev pub read_row : (row : Row) → List Field → Result (Slot row.required (Of row.kind)) (List ℕ)
read_row row doc = read_found row.required row.kind row.name (named row.name doc)

-- the first of two, and the second, or the first error
abbrev pub beside : {A B E : Type 0} → Result A E → Result B E → Result (A × B) E
beside (Err e) b = Err e
beside (Ok x) (Err e) = Err e
beside (Ok x) (Ok y) = Ok (x, y)

-- what a document says in each field, or the name of the first field that has another type or is required and absent
abbrev pub read_rows : (rows : List Row) → List Field → Result (Values rows) (List ℕ)
read_rows [] doc = Ok tt
read_rows (row ∷ rows) doc = beside (read_row row doc) (read_rows rows doc)

-- the name of the first field that has another type or is required and absent, where there is one
abbrev pub first_bad : List Row → List Field → Option (List ℕ)
first_bad [] doc = None
first_bad (row ∷ rows) doc = option_or (result_err (read_row row doc)) (first_bad rows doc)

-- a field, where it is there
abbrev pub optional_field : {T : Type 0} → (T → Content) → List ℕ → Option T → List Field
optional_field as_content name None = []
optional_field as_content name (Some x) = (name, as_content x) ∷ []

abbrev pub written_slot : (must : Bool) (k : Kind) → List ℕ → Slot must (Of k) → List Field
written_slot true k name x = (name, written_as k x) ∷ []
written_slot false k name x = optional_field (written_as k) name x

-- the fields that are there, in order
abbrev pub written_rows : (rows : List Row) → Values rows → List Field
written_rows [] v = []
written_rows (row ∷ rows) v = written_slot row.required row.kind row.name v.0 ++ written_rows rows v.1
