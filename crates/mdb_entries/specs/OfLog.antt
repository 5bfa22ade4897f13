-- What the printed entries of a log show.
use Rattle.std.specs.Prelude.{map}
use Rattle.mdb_events.specs.SdamText.{sdam_text}
use Rattle.mdb_events.specs.declared.fact.Fact.{Fact}
use Rattle.mdb_events.specs.declared.fact.Fact.TheVariants.{Opened, Pool, Granted, Ended, Raised, Sdam, CheckNow, Cancel}
use Rattle.mdb_log.specs.declared.log.Entry.{Entry}
use Rattle.mdb_entries.specs.declared.shown.Shown.{Shown}
use Rattle.mdb_entries.specs.declared.shown.ShownFact.{ShownFact}
use Rattle.mdb_entries.specs.declared.shown.ShownFact.TheVariants as shown

abbrev pub shown_of_fact : Fact → ShownFact
shown_of_fact (Opened p a) = shown.Opened p a
shown_of_fact (Pool p e) = shown.Pool p e
shown_of_fact (Granted r p c) = shown.Granted r p c
shown_of_fact (Ended r e) = shown.Ended r e
shown_of_fact (Raised p service e) = shown.Raised p service e
shown_of_fact (Sdam e) = shown.Sdam (sdam_text e)
shown_of_fact (CheckNow a) = shown.CheckNow a
shown_of_fact (Cancel a) = shown.Cancel a

-- of events of servers and of the topology the texts alone
abbrev pub shown_of : Entry → Shown
shown_of e = record { step = e.step; reply = e.reply; facts = map shown_of_fact e.facts }
