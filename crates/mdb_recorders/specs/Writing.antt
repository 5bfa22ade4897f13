-- What a sink took of entries.
use Rattle.std.specs.Prelude.{◌≡◌, ℕ, List, ◌++◌, Option}
use Rattle.mdb_base.specs.Outside.{Held, Took}
use Rattle.mdb_log.specs.declared.log.Entry.{Entry}
use Rattle.mdb_lines.specs.LogText.{text_of}

-- what the sink of a writer holds, and the bytes of it that are the front of entries which were not written whole
pub record Writing : Type 0 where
  pub held : Option Held
  pub torn : List ℕ

-- The sink took bytes that, behind the front that was torn before, are the text of the entries, and a front that is torn now.
abbrev pub Wrote : Writing → Writing → List Entry → Type 0
Wrote old new entries = (bytes : List ℕ) × Took old.held new.held bytes × (old.torn ++ bytes ≡ text_of entries ++ new.torn)
