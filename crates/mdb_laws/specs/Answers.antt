-- Logs whose entries are a driver's answers, and what an answer tells of a request.
use Rattle.std.specs.Prelude.{◌≡◌, ℕ, List, [], ◌∷◌, ◌++◌, Some, ⊤}
use Rattle.mdb_log.specs.declared.log.Entry.{Entry}
use Rattle.mdb_log.specs.History.{of_pool, history_of}
use Rattle.mdb_log.specs.Homes.{Home}
use Rattle.mdb_log.specs.Requests.{outcome_of}
use Rattle.mdb_driver_rules.specs.Homes.{home_of}
use Rattle.mdb_driver_rules.specs.Lines.{entry_after}

-- The entry is the answer to its step after the log, whichever seat made it.
abbrev pub IsAnswer : List Entry → Entry → Type 0
IsAnswer log e = e ≡ entry_after e.seat log e.step

-- Each of the entries is the answer to its step after those before it.
abbrev pub AreAnswers : List Entry → List Entry → Type 0
AreAnswers log [] = ⊤
AreAnswers log (e ∷ es) = IsAnswer log e × AreAnswers (log ++ e ∷ []) es

-- The reply is the outcome of the request at the pool that its step concerns, with the entry.
abbrev pub TellsOutcome : List Entry → Entry → ℕ → Type 0
TellsOutcome log e r = (x : Home) × (home_of (history_of log) e.step.act ≡ Some x) × (e.reply ≡ outcome_of x.number (of_pool x.number (history_of (log ++ e ∷ []))) r)
