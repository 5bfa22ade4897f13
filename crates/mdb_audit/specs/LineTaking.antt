-- What is said of the next line of a text.
use Rattle.std.specs.Prelude.{◌≡◌, ℕ, ◌+◌, List, [], ◌∷◌, ◌++◌, length, codes, Option, Some, None, Result, Ok, Err, ⊤}
use Rattle.mdb_base.specs.declared.out_of_memory.OutOfMemory.{OutOfMemory}
use Rattle.mdb_log.specs.PlainLegal.{LegalLog}
use Rattle.mdb_lines.specs.Script.{lines_of}
use Rattle.mdb_entries.specs.declared.shown.Shown.{Shown}
use Rattle.mdb_entries.specs.Shows.{Shows}
use Rattle.mdb_judging.specs.Shown.{entries_of}
use Rattle.mdb_judging.specs.Audited.{Audits}
use Rattle.mdb_judging.specs.declared.auditor.Auditor.{Auditor}
use Rattle.mdb_judging.specs.declared.why.Why.{Why}
use Rattle.mdb_audit.specs.LegalText.{IsLine, AreLines, IsFault}

-- the entry that the line of this number shows, given without its newline, or that it shows none
abbrev pub ShowsThis : ℕ → List ℕ → Option Shown → Type 0
ShowsThis n line (Some e) = Shows n line e
ShowsThis n line None = (e : Shown) → Shows n line e → ⊥

-- what comes of the next line, given with its newline: the log goes on, legal, or the line is at fault
abbrev pub LineTaken : List Shown → ℕ → List ℕ → Auditor → Result (Option Why) OutOfMemory → Type 0
LineTaken before n line a (Ok None) = (e : Shown) × IsLine n line e × LegalLog (entries_of (before ++ e ∷ [])) × Audits (entries_of (before ++ e ∷ [])) a
LineTaken before n line a (Ok (Some why)) = IsFault why n before line
LineTaken before n line a (Err x) = ⊤

-- what holds between two lines: those before show a legal log, and the auditor took it
pub record Between (text rest : List ℕ) (n : ℕ) (a : Auditor) : Type 0 where
  pub front : List (List ℕ)
  pub entries : List Shown
  pub all : lines_of text ≡ front ++ lines_of rest
  pub before : AreLines 1 front entries
  pub legal : LegalLog (entries_of entries)
  pub number : n ≡ length entries
  pub audits : Audits (entries_of entries) a
