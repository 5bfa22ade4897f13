-- What a plain answer shows keeps the rules of what entries show.
use Rattle.std.proofs.Common.{◌≡◌, true, List, [], ◌∷◌, map, refl, ◌&&◌}
use Rattle.std.specs.List.{AllByRecursion, list_all}
use Rattle.std.proofs.lemmas.Bool.{and_parts, and_from}
use Rattle.mdb_base.specs.AddressRule.{is_address}
use Rattle.mdb_base.specs.declared.error.Error.{Error}
use Rattle.mdb_events.specs.declared.end.End.{End}
use Rattle.mdb_events.specs.declared.end.End.TheVariants as end
use Rattle.mdb_events.specs.declared.fact.Fact.{Fact}
use Rattle.mdb_events.specs.declared.fact.Fact.TheVariants as fact
use Rattle.mdb_events.specs.declared.sdam.SdamEvent.{SdamEvent}
use Rattle.mdb_events.specs.declared.sdam.SdamEvent.TheVariants as event
use Rattle.mdb_event_reading.specs.EndForms.{is_end}
use Rattle.mdb_event_reading.proofs.PrintLemmas.{prints}
use Rattle.mdb_log.specs.declared.reply.Reply.{Reply}
use Rattle.mdb_log.specs.declared.reply.Reply.TheVariants as reply
use Rattle.mdb_parts.specs.ErrorParts.{is_error}
use Rattle.mdb_event_reading.specs.OfEvents.{shown_of_sdam}
use Rattle.mdb_event_reading.specs.SdamTexts.{is_server_id, is_shown}
use Rattle.mdb_event_reading.proofs.OfSdam.EventTexts.{sdam_is_text}
use Rattle.mdb_entries.specs.Facts.{is_fact, TellsEvent, IsFact}
use Rattle.mdb_entries.specs.OfLog.{shown_of_fact}
use Rattle.mdb_entries.specs.Replies.{is_reply}
use Rattle.mdb_entries.specs.Answers.{is_plain_error, is_plain_end, is_plain_reply, is_plain_event, is_plain_fact, IsEventOfTypes, IsFactTyped}

-- the rules, and that messages are printable

pub record HasMessage (e : Error) : Type 0 where
  pub rules : is_error e ≡ true
  pub own : prints e.message ≡ true

pub error_parts : (e : Error) → is_plain_error e ≡ true → HasMessage e
error_parts e h = let p = and_parts (is_error e) (prints e.message) h in record { rules = p.0; own = p.1 }

end_rules : (e : End) → is_plain_end e ≡ true → is_end e ≡ true
end_rules (end.Cleared e) h = (error_parts e h).rules
end_rules (end.Failed e) h = (error_parts e h).rules
end_rules end.Closed h = refl
end_rules end.Warmed h = refl
end_rules end.Filled h = refl
end_rules end.GaveUp h = refl
end_rules end.TimedOut h = refl

pub reply_rules : (x : Reply) → is_plain_reply x ≡ true → is_reply x ≡ true
reply_rules (reply.Pooled p c) h = refl
reply_rules (reply.Establishing p c) h = refl
reply_rules reply.Waiting h = refl
reply_rules (reply.Ended e) h = end_rules e h
reply_rules (reply.Job p c) h = refl
reply_rules reply.NoJob h = refl
reply_rules (reply.Changed b) h = refl
reply_rules (reply.Count n) h = refl
reply_rules reply.Done h = refl
reply_rules (reply.Refused why) h = refl

pub event_rules : (e : SdamEvent) → is_plain_event e ≡ true → is_shown (shown_of_sdam e) ≡ true
event_rules (event.ServerDescriptionChanged e) h = h
event_rules (event.ServerOpening e) h = h
event_rules (event.ServerClosed e) h = h
event_rules (event.TopologyDescriptionChanged e) h = refl
event_rules (event.TopologyOpening e) h = refl
event_rules (event.TopologyClosed e) h = refl
event_rules (event.ServerHeartbeatStarted e) h = h
event_rules (event.ServerHeartbeatSucceeded e) h = h
event_rules (event.ServerHeartbeatFailed e) h =
    let beat = is_address e.server_address && is_server_id e.server_connection_id in
    let p = and_parts beat (is_plain_error e.failure) h in
    and_from beat (is_error e.failure) p.0 (error_parts e.failure p.1).rules

fact_rules : (f : Fact) → is_plain_fact f ≡ true → is_fact (shown_of_fact f) ≡ true
fact_rules (fact.Opened p a) h = h
fact_rules (fact.Pool p e) h = h
fact_rules (fact.Granted r p c) h = refl
fact_rules (fact.Ended r e) h = end_rules e h
fact_rules (fact.Raised p service e) h = (error_parts e h).rules
fact_rules (fact.Sdam e) h = refl
fact_rules (fact.CheckNow a) h = h
fact_rules (fact.Cancel a) h = h

-- what a plain fact shows is shown

events_tell : (f : Fact) → IsEventOfTypes f → is_plain_fact f ≡ true → TellsEvent (shown_of_fact f)
events_tell (fact.Opened p a) types h = tt
events_tell (fact.Pool p e) types h = tt
events_tell (fact.Granted r p c) types h = tt
events_tell (fact.Ended r e) types h = tt
events_tell (fact.Raised p service e) types h = tt
events_tell (fact.Sdam e) types h = sdam_is_text e (record { types = types; rules = event_rules e h })
events_tell (fact.CheckNow a) types h = tt
events_tell (fact.Cancel a) types h = tt

fact_shows : (f : Fact) → IsFactTyped f → is_plain_fact f ≡ true → IsFact (shown_of_fact f)
fact_shows f types h = record { types = types.own; rules = fact_rules f h; event = events_tell f types.event h }

pub facts_show : (fs : List Fact) → AllByRecursion IsFactTyped fs → list_all is_plain_fact fs ≡ true → AllByRecursion IsFact (map shown_of_fact fs)
facts_show [] types h = tt
facts_show (f ∷ fs) types h = let p = and_parts (is_plain_fact f) (list_all is_plain_fact fs) h in (fact_shows f types.0 p.0, facts_show fs types.1 p.1)
