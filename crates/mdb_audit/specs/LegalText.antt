-- When the text of a log is legal, and what is wrong with one that isn't.
use Rattle.std.specs.Prelude.{ℕ, ◌+◌, ◌≡◌, List, [], ◌∷◌, ◌++◌, length, codes, Option, Some, None, Result, Ok, Err, ⊤}
use Rattle.mdb_base.specs.declared.out_of_memory.OutOfMemory.{OutOfMemory}
use Rattle.mdb_log.specs.PlainLegal.{LegalLog}
use Rattle.mdb_lines.specs.Script.{lines_of}
use Rattle.mdb_entries.specs.declared.shown.Shown.{Shown}
use Rattle.mdb_entries.specs.Shows.{shown_text, Shows}
use Rattle.mdb_judging.specs.Shown.{entry_of, entries_of}
use Rattle.mdb_judging.specs.Faults.{IsEntryFault}
use Rattle.mdb_judging.specs.declared.why.Why.{Why}
use Rattle.mdb_judging.specs.declared.why.Why.TheVariants.{Spelling, Opening, Grant, Place, Waiting}
use Rattle.mdb_audit.specs.declared.verdict.Verdict.{Verdict}
use Rattle.mdb_audit.specs.declared.verdict.Verdict.TheVariants.{Legal, Bad}

-- the line of this number, with its newline, shows the entry
pub record IsLine (n : ℕ) (line : List ℕ) (e : Shown) : Type 0 where
  pub text : line ≡ shown_text e ++ codes "\n"
  pub shows : Shows n (shown_text e) e

-- the lines, counted from n, show these entries
abbrev pub AreLines : ℕ → List (List ℕ) → List Shown → Type 0
AreLines n [] [] = ⊤
AreLines n (line ∷ lines) (e ∷ entries) = IsLine n line e × AreLines (n + 1) lines entries
AreLines n _ _ = ⊥

-- the line shows an entry, which is at fault after these entries for this cause
abbrev pub ShowsFault : Why → ℕ → List Shown → List ℕ → Type 0
ShowsFault why n before line = (e : Shown) × IsLine n line e × IsEntryFault why (entries_of before) (entry_of e)

-- The line of this number is at fault after these entries, for this cause: it shows no entry, or one that is at fault.
abbrev pub IsFault : Why → ℕ → List Shown → List ℕ → Type 0
IsFault Spelling n before line = (e : Shown) → IsLine n line e → ⊥
IsFault Opening n before line = ShowsFault Opening n before line
IsFault Grant n before line = ShowsFault Grant n before line
IsFault Place n before line = ShowsFault Place n before line
IsFault Waiting n before line = ShowsFault Waiting n before line

-- the lines are a legal log with this many entries
pub record IsLegalLines (lines : List (List ℕ)) (n : ℕ) : Type 0 where
  pub entries : List Shown
  pub all : AreLines 1 lines entries
  pub count : n ≡ length entries
  pub legal : LegalLog (entries_of entries)

-- the lines before this one are a legal log, and it is at fault
pub record IsBadLines (lines : List (List ℕ)) (n : ℕ) (why : Why) : Type 0 where
  pub front : List (List ℕ)
  pub line : List ℕ
  pub behind : List (List ℕ)
  pub all : lines ≡ front ++ line ∷ behind
  pub entries : List Shown
  pub before : AreLines 1 front entries
  pub legal : LegalLog (entries_of entries)
  pub number : n ≡ length entries + 1
  pub fault : IsFault why n entries line

-- The verdict on a text.
abbrev pub IsVerdict : List ℕ → Verdict → Type 0
IsVerdict text (Legal n) = IsLegalLines (lines_of text) n
IsVerdict text (Bad n why) = IsBadLines (lines_of text) n why
