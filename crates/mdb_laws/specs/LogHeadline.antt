-- What every log of a driver keeps, in one place.
use Rattle.std.specs.Prelude.{ℕ, ◌≡◌, ◌≤◌, true, List, []}
use Rattle.mdb_base.specs.declared.options.Options.{Options}
use Rattle.mdb_log.specs.declared.log.Entry.{Entry}
use Rattle.mdb_log.specs.declared.step.Step.{Step}
use Rattle.mdb_log.specs.Answer.{Answer}
use Rattle.mdb_log.specs.Beside.{KeepsLimits, GrantsAllFresh}
use Rattle.mdb_log.specs.History.{Item, history_of}
use Rattle.mdb_log.specs.Opening.{pool_options}
use Rattle.mdb_log.specs.Own.{IsAccepted}
use Rattle.mdb_log.specs.PlainLegal.{LegalLog}
use Rattle.mdb_log.specs.Requests.{told}
use Rattle.mdb_driver_rules.specs.Lines.{options_of}
use Rattle.mdb_pool_laws.specs.CloseCauses.{EntriesCaused}
use Rattle.mdb_pool_laws.specs.Dues.{EntriesDue}
use Rattle.mdb_laws.specs.Alike.{IsWithoutEffectBy}
use Rattle.mdb_laws.specs.Logs.{TellsByReply, EachAnswer}
use Rattle.mdb_laws.specs.Refusals.{RefusesByTable}
use Rattle.mdb_laws.specs.Searches.{AnswerGrantsLast}
use Rattle.mdb_laws.specs.Stale.{is_stale_error, is_stale_failure, SparesServerBy}

-- What the answer says of whole pools is what its step causes, no less and no more.
abbrev pub AnswerTellsPools : Options → List Item → Step → Answer → Type 0
AnswerTellsPools o h step a = TellsByReply o h step a a.reply

-- An accepted error of an operation that concerns its server no more is without effect, and a connection that failed with such an error says nothing of the server.
pub record IgnoresLateErrors (o : Options) (h : List Item) (step : Step) (a : Answer) : Type 0 where
  pub errors : IsAccepted a.reply → is_stale_error o h step ≡ true → IsWithoutEffectBy o h step a
  pub failures : IsAccepted a.reply → is_stale_failure o h step ≡ true → SparesServerBy o h step a

pub record LogHeadline (log : List Entry) : Type 0 where
  -- each line is refused exactly as the table of refusals says, and a refused one makes no fact
  pub refused : EachAnswer RefusesByTable log
  -- after every entry each live connection has one place, each grant went to the caller that waited longest, and nobody is left waiting who could be granted a connection
  pub legal : LegalLog log
  -- in every prefix at most max_connecting connections of a pool are pending, and at most max_pool_size live
  pub limits : KeepsLimits log
  -- no available connection is granted that is stale or idle
  pub fresh : GrantsAllFresh log
  -- every close has its cause and the first of its reasons that holds
  pub closes : EntriesCaused (pool_options (options_of log)) [] log
  -- what must be closed is: what failed, what comes back to a closed pool, and what maintenance finds stale or idle
  pub must_close : EntriesDue (pool_options (options_of log)) [] log
  -- the search for a caller ends at the connection that came back last of those that are left, and makes another only where none is: so what it meets stale or idle is closed
  pub searches : EachAnswer AnswerGrantsLast log
  -- pools are opened, marked ready, cleared and closed as servers come, change, fail and go, no less and no more
  pub pools : EachAnswer AnswerTellsPools log
  -- a request is told once at most that it has a connection or that it ended
  pub told_once : (r : ℕ) → told (history_of log) r ≤ 1
  -- late errors are without effect
  pub late_errors : EachAnswer IgnoresLateErrors log
