-- The text of each end and each fact.
use Rattle.std.specs.Prelude.{ℕ, List, ◌++◌, decimal, codes}
use Rattle.mdb_base.specs.Spelling.{address}
use Rattle.mdb_base.specs.ErrorText.{error_text}
use Rattle.mdb_events.specs.Words.{service_or_dash}
use Rattle.mdb_events.specs.EventText.{event_text}
use Rattle.mdb_events.specs.SdamText.{sdam_text}
use Rattle.mdb_events.specs.declared.end.End.{End}
use Rattle.mdb_events.specs.declared.end.End.TheVariants.{Cleared, Failed, Closed, Warmed, Filled, GaveUp, TimedOut}
use Rattle.mdb_events.specs.declared.fact.Fact.{Fact}
use Rattle.mdb_events.specs.declared.fact.Fact.TheVariants.{Opened, Pool, Granted, Ended, Raised, Sdam, CheckNow, Cancel}

abbrev pub end_text : End → List ℕ
end_text (Cleared error) = codes "Cleared " ++ error_text error
end_text (Failed error) = codes "Failed " ++ error_text error
end_text Closed = codes "Closed"
end_text Warmed = codes "Warmed"
end_text Filled = codes "Filled"
end_text GaveUp = codes "GaveUp"
end_text TimedOut = codes "TimedOut"

abbrev pub fact_text : Fact → List ℕ
fact_text (Opened p a) = codes "Opened " ++ (decimal p ++ (codes " " ++ address a))
fact_text (Pool p e) = codes "Pool " ++ (decimal p ++ (codes " " ++ event_text e))
fact_text (Granted r p c) = codes "Granted " ++ (decimal r ++ (codes " " ++ (decimal p ++ (codes "." ++ decimal c))))
fact_text (Ended r end) = codes "Ended " ++ (decimal r ++ (codes " " ++ end_text end))
fact_text (Raised p service error) = codes "Raised " ++ (decimal p ++ (codes " " ++ (service_or_dash service ++ (codes " " ++ error_text error))))
fact_text (Sdam e) = codes "Sdam " ++ sdam_text e
fact_text (CheckNow a) = codes "CheckNow " ++ address a
fact_text (Cancel a) = codes "Cancel " ++ address a
