-- The texts of plain answers have printable bytes alone.
use Rattle.std.proofs.Common.{◌≡◌, ℕ, ◌<◌, ◌^◌, ◌+◌, true, false, List, [], ◌∷◌, ◌++◌, map, refl, decimal, codes, ◌&&◌}
use Rattle.std.specs.List.{AllByRecursion, list_all}
use Rattle.std.proofs.lemmas.Bool.{and_parts}
use Rattle.mdb_base.specs.AddressRule.{is_address}
use Rattle.mdb_base.specs.ErrorText.{error_text}
use Rattle.mdb_base.specs.declared.error.Error.{Error}
use Rattle.mdb_base.specs.Spelling.{address}
use Rattle.mdb_events.specs.EventText.{event_text}
use Rattle.mdb_events.specs.FactText.{end_text}
use Rattle.mdb_events.specs.SdamText.{sdam_text}
use Rattle.mdb_events.specs.Words.{service_or_dash}
use Rattle.mdb_events.specs.declared.end.End.{End}
use Rattle.mdb_events.specs.declared.end.End.TheVariants as end
use Rattle.mdb_events.specs.declared.fact.Fact.{Fact}
use Rattle.mdb_events.specs.declared.fact.Fact.TheVariants as fact
use Rattle.mdb_events.specs.declared.sdam.SdamEvent.{SdamEvent}
use Rattle.mdb_events.specs.declared.sdam.SdamEvent.TheVariants as event
use Rattle.mdb_event_reading.specs.EndForms.{IsEndOfTypes}
use Rattle.mdb_event_reading.proofs.PrintLemmas.{prints, both_print, decimal_prints, narrow_prints, address_prints, error_prints}
use Rattle.mdb_event_reading.proofs.PrintEvents.{service_prints, event_prints}
use Rattle.mdb_log.specs.declared.reply.What.TheVariants as what
use Rattle.mdb_log.specs.declared.reply.Refused.{Refused}
use Rattle.mdb_log.specs.declared.reply.Refused.TheVariants as refused
use Rattle.mdb_log.specs.declared.reply.Reply.{Reply}
use Rattle.mdb_log.specs.declared.reply.Reply.TheVariants as reply
use Rattle.mdb_lines.specs.LogText.{refused_text, connection_text, reply_text}
use Rattle.mdb_parts.specs.ErrorParts.{IsErrorOfTypes}
use Rattle.mdb_event_reading.specs.OfEvents.{shown_of_sdam}
use Rattle.mdb_event_reading.specs.SdamTexts.{is_server_id, IsShownOfTypes}
use Rattle.mdb_event_reading.proofs.OfSdam.EventTexts.{HasPlainMessage, sdam_same, shown_prints}
use Rattle.mdb_entries.specs.Facts.{shown_fact, shown_facts}
use Rattle.mdb_entries.specs.OfLog.{shown_of_fact}
use Rattle.mdb_entries.specs.Replies.{IsRefusedOfTypes, IsReplyOfTypes}
use Rattle.mdb_entries.specs.Answers.{is_plain_error, is_plain_end, is_plain_reply, is_plain_event, IsFactTyped, is_plain_fact}
use Rattle.mdb_entries.proofs.PlainLemmas.{error_parts, event_rules}

-- printable bytes

plain_error_prints : (e : Error) → IsErrorOfTypes e → is_plain_error e ≡ true → prints (error_text e) ≡ true
plain_error_prints e types h = let p = error_parts e h in error_prints e types p.rules p.own

end_prints : (e : End) → IsEndOfTypes e → is_plain_end e ≡ true → prints (end_text e) ≡ true
end_prints (end.Cleared e) types h = plain_error_prints e types h
end_prints (end.Failed e) types h = plain_error_prints e types h
end_prints end.Closed types h = refl
end_prints end.Warmed types h = refl
end_prints end.Filled types h = refl
end_prints end.GaveUp types h = refl
end_prints end.TimedOut types h = refl

place_prints : (p c : ℕ) → p < 2 ^ 32 → c < 2 ^ 32 → prints (connection_text p c) ≡ true
place_prints p c lp lc = both_print (decimal p) (codes "." ++ decimal c) (narrow_prints p lp) (narrow_prints c lc)

refusal_prints : (why : Refused) → IsRefusedOfTypes why → prints (refused_text why) ≡ true
refusal_prints (refused.TimeBack m) types = decimal_prints m types
refusal_prints refused.UnknownServer types = refl
refusal_prints refused.RequestKnown types = refl
refusal_prints refused.UnknownRequest types = refl
refusal_prints refused.NotHolder types = refl
refusal_prints refused.NotPending types = refl
refusal_prints refused.Unpinned types = refl
refusal_prints refused.PinInUse types = refl
refusal_prints refused.PinState types = refl
refusal_prints refused.CheckRunning types = refl
refusal_prints refused.NotChecking types = refl
refusal_prints refused.WrongMode types = refl
refusal_prints (refused.Exhausted what.Pool) types = refl
refusal_prints (refused.Exhausted what.Generation) types = refl
refusal_prints (refused.Exhausted what.Monitor) types = refl
refusal_prints (refused.Exhausted what.Servers) types = refl

pub reply_prints : (x : Reply) → IsReplyOfTypes x → is_plain_reply x ≡ true → prints (reply_text x) ≡ true
reply_prints (reply.Pooled p c) types h = place_prints p c types.0 types.1
reply_prints (reply.Establishing p c) types h = place_prints p c types.0 types.1
reply_prints reply.Waiting types h = refl
reply_prints (reply.Ended e) types h = end_prints e types h
reply_prints (reply.Job p c) types h = place_prints p c types.0 types.1
reply_prints reply.NoJob types h = refl
reply_prints (reply.Changed true) types h = refl
reply_prints (reply.Changed false) types h = refl
reply_prints (reply.Count n) types h = decimal_prints n types
reply_prints reply.Done types h = refl
reply_prints (reply.Refused why) types h = refusal_prints why types

-- a number and what follows it
numbered : (n : ℕ) (rest : List ℕ) → n < 2 ^ 32 → prints rest ≡ true → prints (decimal n ++ rest) ≡ true
numbered n rest lt l = both_print (decimal n) rest (narrow_prints n lt) l

event_message : (e : SdamEvent) → is_plain_event e ≡ true → HasPlainMessage (shown_of_sdam e)
event_message (event.ServerDescriptionChanged e) h = tt
event_message (event.ServerOpening e) h = tt
event_message (event.ServerClosed e) h = tt
event_message (event.TopologyDescriptionChanged e) h = tt
event_message (event.TopologyOpening e) h = tt
event_message (event.TopologyClosed e) h = tt
event_message (event.ServerHeartbeatStarted e) h = tt
event_message (event.ServerHeartbeatSucceeded e) h = tt
event_message (event.ServerHeartbeatFailed e) h =
    (error_parts e.failure (and_parts (is_address e.server_address && is_server_id e.server_connection_id) (is_plain_error e.failure) h).1).own

event_text_prints : (e : SdamEvent) → IsShownOfTypes (shown_of_sdam e) → is_plain_event e ≡ true → prints (sdam_text e) ≡ true
event_text_prints e types h = rw (sdam_same e) (shown_prints (shown_of_sdam e) (record { types = types; rules = event_rules e h }) (event_message e h))

fact_prints : (f : Fact) → IsFactTyped f → is_plain_fact f ≡ true → prints (shown_fact (shown_of_fact f)) ≡ true
fact_prints (fact.Opened p a) types h = numbered p (codes " " ++ address a) types.own (address_prints a h)
fact_prints (fact.Pool p e) types h = numbered p (codes " " ++ event_text e) types.own.0 (event_prints e types.own.1 h)
fact_prints (fact.Granted party p c) types h = numbered party (codes " " ++ connection_text p c) types.own.0 (place_prints p c types.own.1 types.own.2)
fact_prints (fact.Ended request e) types h = numbered request (codes " " ++ end_text e) types.own.0 (end_prints e types.own.1 h)
fact_prints (fact.Raised p service e) types h =
    let error = codes " " ++ error_text e in
    numbered p (codes " " ++ (service_or_dash service ++ error)) types.own.0
    (both_print (service_or_dash service) error (service_prints service types.own.1) (plain_error_prints e types.own.2 h))
fact_prints (fact.Sdam e) types h = event_text_prints e types.event h
fact_prints (fact.CheckNow a) types h = address_prints a h
fact_prints (fact.Cancel a) types h = address_prints a h

pub facts_print : (fs : List Fact) → AllByRecursion IsFactTyped fs → list_all is_plain_fact fs ≡ true → prints (shown_facts (map shown_of_fact fs)) ≡ true
facts_print [] types h = refl
facts_print (f ∷ fs) types h =
    let p = and_parts (is_plain_fact f) (list_all is_plain_fact fs) h in
    both_print (shown_fact (shown_of_fact f)) (shown_facts (map shown_of_fact fs)) (fact_prints f types.0 p.0) (facts_print fs types.1 p.1)
