-- When the text of a log shows its entries: what its replies and facts are then, and what its lines show.
use Rattle.std.specs.Prelude.{◌≡◌, ℕ, ◌+◌, ◌&&◌, List, [], ◌∷◌, ◌++◌, codes, map, Bool, true, ⊤}
use Rattle.std.specs.List.{AllByRecursion, list_all}
use Rattle.mdb_base.specs.AddressRule.{is_address}
use Rattle.mdb_base.specs.declared.error.Error.{Error}
use Rattle.mdb_events.specs.declared.end.End.{End}
use Rattle.mdb_events.specs.declared.end.End.TheVariants as end
use Rattle.mdb_events.specs.declared.fact.Fact.{Fact}
use Rattle.mdb_events.specs.declared.fact.Fact.TheVariants as fact
use Rattle.mdb_events.specs.declared.sdam.SdamEvent.{SdamEvent}
use Rattle.mdb_events.specs.declared.sdam.SdamEvent.TheVariants as event
use Rattle.mdb_event_reading.specs.EventTypes.{is_event}
use Rattle.mdb_log.specs.declared.log.Entry.{Entry}
use Rattle.mdb_log.specs.declared.reply.Reply.{Reply}
use Rattle.mdb_log.specs.declared.reply.Reply.TheVariants as reply
use Rattle.mdb_lines.specs.Grammar.{is_printable}
use Rattle.mdb_lines.specs.LogText.{text_of}
use Rattle.mdb_lines.specs.Script.{AreAllowed, lines_of}
use Rattle.mdb_parts.specs.ErrorParts.{is_error}
use Rattle.mdb_event_reading.specs.SdamTexts.{is_server_id, IsShownOfTypes}
use Rattle.mdb_event_reading.specs.OfEvents.{shown_of_sdam}
use Rattle.mdb_entries.specs.Facts.{IsFactOfTypes}
use Rattle.mdb_entries.specs.OfLog.{shown_of_fact, shown_of}
use Rattle.mdb_entries.specs.Replies.{IsReplyOfTypes}
use Rattle.mdb_entries.specs.Shows.{shown_text, Shows}

-- Addresses and errors keep the rules of the grammar, and the messages of errors are printable.

abbrev pub is_plain_error : Error → Bool
is_plain_error e = is_error e && is_printable e.message

abbrev pub is_plain_end : End → Bool
is_plain_end (end.Cleared e) = is_plain_error e
is_plain_end (end.Failed e) = is_plain_error e
is_plain_end _ = true

abbrev pub is_plain_reply : Reply → Bool
is_plain_reply (reply.Ended e) = is_plain_end e
is_plain_reply _ = true

-- nor is the number negative that a server gave to a connection
abbrev pub is_plain_event : SdamEvent → Bool
is_plain_event (event.ServerDescriptionChanged e) = is_address e.address
is_plain_event (event.ServerOpening e) = is_address e.address
is_plain_event (event.ServerClosed e) = is_address e.address
is_plain_event (event.TopologyDescriptionChanged e) = true
is_plain_event (event.TopologyOpening e) = true
is_plain_event (event.TopologyClosed e) = true
is_plain_event (event.ServerHeartbeatStarted e) = is_address e.server_address && is_server_id e.server_connection_id
is_plain_event (event.ServerHeartbeatSucceeded e) = is_address e.server_address && is_server_id e.server_connection_id
is_plain_event (event.ServerHeartbeatFailed e) = (is_address e.server_address && is_server_id e.server_connection_id) && is_plain_error e.failure

abbrev pub is_plain_fact : Fact → Bool
is_plain_fact (fact.Opened p a) = is_address a
is_plain_fact (fact.Pool p e) = is_event e
is_plain_fact (fact.Granted r p c) = true
is_plain_fact (fact.Ended r e) = is_plain_end e
is_plain_fact (fact.Raised p service e) = is_plain_error e
is_plain_fact (fact.Sdam e) = is_plain_event e
is_plain_fact (fact.CheckNow a) = is_address a
is_plain_fact (fact.Cancel a) = is_address a

abbrev pub has_plain_answer : Entry → Bool
has_plain_answer e = is_plain_reply e.reply && list_all is_plain_fact e.facts

-- Each number is one of its type.

abbrev pub IsEventOfTypes : Fact → Type 0
IsEventOfTypes (fact.Sdam e) = IsShownOfTypes (shown_of_sdam e)
IsEventOfTypes _ = ⊤

pub record IsFactTyped (f : Fact) : Type 0 where
  pub own : IsFactOfTypes (shown_of_fact f)
  pub event : IsEventOfTypes f

pub record IsTyped (e : Entry) : Type 0 where
  pub reply : IsReplyOfTypes e.reply
  pub facts : AllByRecursion IsFactTyped e.facts

-- The steps of a log may stand in a script, and its answers are plain.
pub record IsPlainLog (log : List Entry) : Type 0 where
  pub steps : AreAllowed 1 (map (λ e. e.step) log)
  pub types : AllByRecursion IsTyped log
  pub rules : list_all has_plain_answer log ≡ true

-- an entry's line, with its newline
abbrev pub shown_line : Entry → List ℕ
shown_line e = shown_text (shown_of e) ++ codes "\n"

-- the lines from this number on show these entries
abbrev pub ShowAll : ℕ → List Entry → Type 0
ShowAll n [] = ⊤
ShowAll n (e ∷ es) = Shows n (shown_text (shown_of e)) (shown_of e) × ShowAll (n + 1) es

-- The text of a log has a line for each entry, which shows it.
pub record TextShows (log : List Entry) : Type 0 where
  pub lines : lines_of (text_of log) ≡ map shown_line log
  pub shows : ShowAll 1 log
