-- What a document says, without the memory that holds it: its names and values, in order.
use Rattle.std.specs.Prelude.{ℕ, ℤ, List, [], ◌∷◌, Bool, String, string_bytes, map}
use Rattle.std.specs.declared.alloc.Global.{Global}
use Rattle.mdb_base.specs.declared.object_id.ObjectId.{ObjectId}
use Rattle.mdb_base.specs.declared.times.DateTime.{DateTime}
use Rattle.mdb_base.specs.declared.document.Value.{Value, fold-Value}
use Rattle.mdb_base.specs.declared.document.Doc.{Doc, fold-Doc}
use Rattle.mdb_base.specs.declared.document.Value.TheOpen.{Value-F, Doc-F}

mutual
  pub data Content : Type 0 where
    int : ℤ → Content
    boolean : Bool → Content
    text : List ℕ → Content
    list : Contents → Content
    id : ObjectId → Content
    date : DateTime → Content
    nested : Fields → Content

  pub data Contents : Type 0 where
    no_contents : Contents
    content : Content → Contents → Contents

  pub data Fields : Type 0 where
    no_fields : Fields
    field : List ℕ → Content → Fields → Fields

-- a name with its value
abbrev pub Field : Type 0
Field = List ℕ × Content

-- lists of values and of fields, as they stand inside a value, and back
abbrev pub contents_of : List Content → Contents
contents_of [] = no_contents
contents_of (c ∷ cs) = content c (contents_of cs)

abbrev pub listed_contents : Contents → List Content
listed_contents no_contents = []
listed_contents (content c cs) = c ∷ listed_contents cs

abbrev pub fields_of : List Field → Fields
fields_of [] = no_fields
fields_of (f ∷ fs) = field f.0 f.1 (fields_of fs)

abbrev pub listed_fields : Fields → List Field
listed_fields no_fields = []
listed_fields (field name c fs) = (name, c) ∷ listed_fields fs

-- one level, with each value inside already seen as its content
abbrev pub value_step : Value-F Content (List Field) → Content
value_step (Value-F.Int n) = int n
value_step (Value-F.Bool b) = boolean b
value_step (Value-F.Text t) = text (string_bytes t)
value_step (Value-F.List v) = list (contents_of v.items)
value_step (Value-F.Id i) = id i
value_step (Value-F.Date d) = date d
value_step (Value-F.Nested fs) = nested (fields_of fs)

-- a name as its bytes, beside its content
abbrev pub named : String Global × Content → Field
named f = (string_bytes f.0, f.1)

abbrev pub doc_step : Doc-F Content (List Field) → List Field
doc_step d = map named d.fields.items

-- what a value says
abbrev pub value_content : Value → Content
value_content = fold-Value Content (List Field) value_step doc_step

-- what a document says
abbrev pub doc_content : Doc → List Field
doc_content = fold-Doc Content (List Field) value_step doc_step

-- what a field says
abbrev pub named_content : String Global × Value → Field
named_content f = (string_bytes f.0, value_content f.1)
