-- What a link in memory holds and answers.
use Rattle.std.specs.Prelude.{◌≡◌, ℕ, ◌+◌, ◌-◌, ◌^◌, ◌==◌, min, List, [], ◌∷◌, length, drop, map, Bool, true, false, ◌||◌, Option, Some, None, Result, Ok, Err}
use Rattle.std.specs.List.{list_any}
use Rattle.mdb_base.specs.Document.{Field, doc_content}
use Rattle.mdb_base.specs.declared.document.Doc.{Doc}
use Rattle.mdb_base.specs.declared.error.Error.{Error}
use Rattle.mdb_hello.specs.Links.{LinkState}
use Rattle.mdb_hello.specs.declared.error.LinkError.{LinkError}
use Rattle.mdb_hello.specs.declared.error.LinkError.TheVariants as link
use Rattle.mdb_hello.specs.declared.memory_link.MemLink.{MemLink}

-- the documents that are left
abbrev pub left : MemLink → List (List Field)
left s = map doc_content (drop s.at s.documents.items)

abbrev pub first_of : List (List Field) → Option (List Field)
first_of [] = None
first_of (doc ∷ docs) = Some doc

-- the next document
abbrev pub next_document : MemLink → Option (List Field)
next_document s = first_of (left s)

abbrev pub link_state : MemLink → LinkState
link_state s = record { last_error = Some s.last_error; faults = s.faults }

-- a link that has not failed
abbrev pub unfailed : LinkState
unfailed = record { last_error = Some None; faults = 0 }

-- the error with which it fails
abbrev pub link_error : MemLink → Error
link_error s = s.error

-- the numbers of the calls that fail
abbrev pub listed_calls : MemLink → List ℕ
listed_calls s = s.fails.items

-- how many calls were made
abbrev pub call_count : MemLink → ℕ
call_count s = s.calls

-- the number of the next call, which ends at the greatest number of 64 bits
abbrev pub next_call : MemLink → ℕ
next_call s = min (call_count s + 1) (2 ^ 64 - 1)

-- the next call fails: its number is listed, or no document is left
abbrev pub fails_next : MemLink → Bool
fails_next s = list_any (λ number. number == next_call s) (listed_calls s) || length (left s) == 0

-- a call that failed with this error
abbrev pub failed : MemLink → MemLink
failed s = record s { calls = next_call s; faults = min (s.faults + 1) (2 ^ 64 - 1); last_error = Some s.error }

-- A call was counted, and all but the documents stays.
pub record IsCounted (old new : MemLink) : Type 0 where
  pub calls : call_count new ≡ next_call old
  pub fails : listed_calls new ≡ listed_calls old
  pub error : link_error new ≡ link_error old
  pub state : link_state new ≡ link_state old

-- A call that is to fail gives the link's error, which is then the last one, and leaves the documents; any other call
-- hands out the first of them. Running out of memory changes nothing.
abbrev pub Moves : MemLink → MemLink → Result Doc LinkError → Type 0
Moves old new (Ok doc) = IsCounted old new × (fails_next old ≡ false) × (left old ≡ doc_content doc ∷ left new)
Moves old new (Err (link.Failed error)) = (new ≡ failed old) × (fails_next old ≡ true) × (error ≡ link_error old)
Moves old new (Err link.OutOfMemory) = new ≡ old
