-- The document that bytes are.
use Rattle.std.specs.Prelude.{◌≡◌, ℕ, ◌-◌, List, length, Result, Ok, Err}
use Rattle.mdb_base.specs.Document.{Field, doc_content}
use Rattle.mdb_base.specs.declared.document.Doc.{Doc}
use Rattle.mdb_bson.specs.declared.fault.Fault.{Fault}
use Rattle.mdb_bson.specs.declared.fault.BsonError.{BsonError}
use Rattle.mdb_bson.specs.declared.fault.BsonError.TheVariants as bson
use Rattle.mdb_bson.specs.Reading.{Bad, whole}

-- a fault with the number of its byte, from 0
abbrev pub placed : List ℕ → Result (List Field) Bad → Result (List Field) (Fault × ℕ)
placed bytes (Ok fields) = Ok fields
placed bytes (Err bad) = Err (bad.0, length bytes - bad.1)

-- the document that the bytes are, or what is bad in them and where
abbrev pub read : List ℕ → Result (List Field) (Fault × ℕ)
read bytes = placed bytes (whole bytes)

-- The answer is what is read. Only lack of memory says nothing.
abbrev pub Reads : Result Doc BsonError → Result (List Field) (Fault × ℕ) → Type 0
Reads (Ok d) r = r ≡ Ok (doc_content d)
Reads (Err (bson.Bad f place)) r = r ≡ Err (f, place)
Reads (Err bson.OutOfMemory) r = Unit {0}
