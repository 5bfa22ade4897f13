-- A reply with the facts of its step.
use Rattle.std.specs.Prelude.{◌≡◌, List, length}
use Rattle.mdb_log.specs.declared.log.Entry.{Entry}
use Rattle.mdb_session.specs.Facts.{AreLastFacts, filled}
use Rattle.mdb_session.specs.declared.fact_numbers.FactNumbers.{FactNumbers}
use Rattle.mdb_session.specs.declared.told.Told.{Told}

-- It tells the facts of the last entry of the log: how many there are, and where they fit their numbers, in place of those before.
abbrev pub IsTold : List Entry → Told → Told → Type 0
IsTold log before after = (facts : List FactNumbers) × AreLastFacts log facts × (after.count ≡ length facts) × (after.facts ≡ filled facts before.facts)
