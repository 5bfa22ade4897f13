-- Options of the short logs, and laws of a log that they break.
use Rattle.std.specs.Prelude.{ℕ, ◌≤◌, List, [], Some}
use Rattle.mdb_base.specs.declared.options.Options.{Options}
use Rattle.mdb_log.specs.declared.log.Entry.{Entry}
use Rattle.mdb_log.specs.History.{history_of}
use Rattle.mdb_log.specs.Opening.{pool_options}
use Rattle.mdb_log.specs.Requests.{told}
use Rattle.mdb_driver_rules.specs.Lines.{options_of}
use Rattle.mdb_pool_laws.specs.CloseCauses.{EntriesCaused}
use Rattle.mdb_laws.specs.Answers.{AreAnswers}
use Rattle.mdb_laws.specs.Logs.{EachAnswer}
use Rattle.mdb_laws.specs.Refusals.{RefusesByTable}
use Rattle.mdb_laws.specs.Searches.{AnswerGrantsLast}
use Rattle.mdb_excluded.specs.Entries.{usual}

-- a connection that was available for ten milliseconds is idle
abbrev pub idling : Options
idling = record usual { max_idle_time = Some 10 }

-- at most one connection lives
abbrev pub one_live : Options
one_live = record usual { max_pool_size = Some 1 }

-- at most one is being established, and one is kept
abbrev pub one_pending : Options
one_pending = record usual { max_connecting = Some 1; min_pool_size = Some 1 }

-- what became of each request is told once at most
abbrev pub TellsOnce : List Entry → Type 0
TellsOnce log = (r : ℕ) → told (history_of log) r ≤ 1

-- each close of a connection has a cause, by the options of the opening
abbrev pub ClosesByCause : List Entry → Type 0
ClosesByCause log = EntriesCaused (pool_options (options_of log)) [] log

-- each entry is the answer to its step
abbrev pub IsAnswered : List Entry → Type 0
IsAnswered log = AreAnswers [] log

-- each entry is refused exactly as the table of refusals says, and a refused one makes no fact
abbrev pub IsRefusedRightly : List Entry → Type 0
IsRefusedRightly log = EachAnswer RefusesByTable log

-- each caller gets the available connection that came back last, or another one where none is available
abbrev pub SearchesLastFirst : List Entry → Type 0
SearchesLastFirst log = EachAnswer AnswerGrantsLast log
