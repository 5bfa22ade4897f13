-- Facts that are spelled alike are the same.
use Rattle.std.proofs.Common.{◌≡◌, ℕ, ◌<◌, ◌^◌, true, List, ◌++◌, Option, Ok, IfSome, refl, ap, subst, decimal, codes}
use Rattle.std.proofs.lemmas.List.{append_cancel_left}
use Rattle.mdb_base.specs.AddressReading.{until, beyond}
use Rattle.mdb_base.specs.AddressRule.{is_address}
use Rattle.mdb_base.specs.ErrorText.{error_text}
use Rattle.mdb_base.specs.Spelling.{address}
use Rattle.mdb_base.specs.declared.address.ServerAddress.{ServerAddress}
use Rattle.mdb_base.specs.declared.error.Error.{Error}
use Rattle.mdb_base.specs.declared.object_id.ObjectId.{ObjectId}
use Rattle.mdb_events.specs.EventText.{event_text}
use Rattle.mdb_events.specs.FactText.{end_text}
use Rattle.mdb_events.specs.Words.{service_or_dash}
use Rattle.mdb_events.specs.declared.cmap.CmapEvent.{CmapEvent}
use Rattle.mdb_events.specs.declared.end.End.{End}
use Rattle.mdb_event_reading.specs.EndForms.{is_end, IsEndOfTypes}
use Rattle.mdb_event_reading.specs.EventTypes.{is_event, IsEventOfTypes}
use Rattle.mdb_event_reading.proofs.DashLemmas.{service_lacks}
use Rattle.mdb_event_reading.proofs.EndLemmas.{end_same}
use Rattle.mdb_event_reading.proofs.SameEvents.{event_same}
use Rattle.mdb_event_reading.proofs.SameWords.{narrow_and_rest, services_same}
use Rattle.mdb_lines.specs.LogText.{connection_text}
use Rattle.mdb_parts.specs.ErrorParts.{is_error, IsErrorOfTypes}
use Rattle.mdb_parts.specs.Types.{IsIdOfTypes}
use Rattle.mdb_parts.proofs.Same.{word_same, address_same}
use Rattle.mdb_parts.proofs.SameErrors.{error_same}
use Rattle.mdb_entries.specs.declared.shown.ShownFact.{ShownFact}
use Rattle.mdb_entries.specs.declared.shown.ShownFact.TheVariants as fact
use Rattle.mdb_entries.specs.Facts.{shown_fact, IsFact}
use Rattle.mdb_entries.specs.FactForms.{fact_kind, pool_kind, other_kind, ReadsOpened, ReadsPool, ReadsGranted, ReadsEnded, ReadsRaised, ReadsSdam, ReadsCheckNow, ReadsCancel, ReadsNamed}
use Rattle.mdb_entries.proofs.FactLemmas.{fact_read}
use Rattle.mdb_entries.proofs.SameReplies.{place_same}

opened_gives : (p : ℕ) (a : ServerAddress) → p < 2 ^ 32 → is_address a ≡ true → ReadsOpened (codes " " ++ (decimal p ++ (codes " " ++ address a))) (Ok (fact.Opened p a))
opened_gives p a lp h q b lq k e =
    let p1 = narrow_and_rest p q (codes " " ++ address a) (codes " " ++ address b) lp lq refl refl (append_cancel_left (codes " ") _ _ e) in
    let p2 = address_same a b h k (append_cancel_left (codes " ") (address a) (address b) p1.1) in
    rw (p1.0, p2) refl

pool_gives : (p : ℕ) (d : CmapEvent) → p < 2 ^ 32 → IsEventOfTypes d → is_event d ≡ true → ReadsPool (codes " " ++ (decimal p ++ (codes " " ++ event_text d))) (Ok (fact.Pool p d))
pool_gives p d lp td hd q e lq te he same =
    let p1 = narrow_and_rest p q (codes " " ++ event_text d) (codes " " ++ event_text e) lp lq refl refl (append_cancel_left (codes " ") _ _ same) in
    let p2 = event_same d e td te hd he (append_cancel_left (codes " ") (event_text d) (event_text e) p1.1) in
    rw (p1.0, p2) refl

granted_gives : (r p c : ℕ) → r < 2 ^ 32 → p < 2 ^ 32 → c < 2 ^ 32 → ReadsGranted (codes " " ++ (decimal r ++ (codes " " ++ connection_text p c))) (Ok (fact.Granted r p c))
granted_gives r p c lr lp lc s q d ls lq ld e =
    let p1 = narrow_and_rest r s (codes " " ++ connection_text p c) (codes " " ++ connection_text q d) lr ls refl refl (append_cancel_left (codes " ") _ _ e) in
    let p2 = place_same p c q d lp lc lq ld (append_cancel_left (codes " ") (connection_text p c) (connection_text q d) p1.1) in
    rw (p1.0, p2.0, p2.1) refl

ended_gives : (r : ℕ) (d : End) → r < 2 ^ 32 → IsEndOfTypes d → is_end d ≡ true → ReadsEnded (codes " " ++ (decimal r ++ (codes " " ++ end_text d))) (Ok (fact.Ended r d))
ended_gives r d lr td hd s e ls te he same =
    let p1 = narrow_and_rest r s (codes " " ++ end_text d) (codes " " ++ end_text e) lr ls refl refl (append_cancel_left (codes " ") _ _ same) in
    let p2 = end_same d e td te hd he (append_cancel_left (codes " ") (end_text d) (end_text e) p1.1) in
    rw (p1.0, p2) refl

raised_gives : (p : ℕ) (x : Option ObjectId) (d : Error) → p < 2 ^ 32 → IfSome x IsIdOfTypes → IsErrorOfTypes d → is_error d ≡ true
    → ReadsRaised (codes " " ++ (decimal p ++ (codes " " ++ (service_or_dash x ++ (codes " " ++ error_text d))))) (Ok (fact.Raised p x d))
raised_gives p x d lp tx td hd q y e lq ty te he same =
    let x2 = codes " " ++ error_text d in
    let y2 = codes " " ++ error_text e in
    let p1 = narrow_and_rest p q (codes " " ++ (service_or_dash x ++ x2)) (codes " " ++ (service_or_dash y ++ y2)) lp lq refl refl (append_cancel_left (codes " ") _ _ same) in
    let p2 = word_same (service_or_dash x) (service_or_dash y) x2 y2 (service_lacks x) (service_lacks y) refl refl (append_cancel_left (codes " ") _ _ p1.1) in
    let service = services_same x y tx ty p2.0 in
    let error = error_same d e td te hd he (append_cancel_left (codes " ") (error_text d) (error_text e) p2.1) in
    rw (p1.0, service, error) refl

sdam_gives : (text : List ℕ) → ReadsSdam (codes " " ++ text) (Ok (fact.Sdam text))
sdam_gives text other e = ap fact.Sdam (append_cancel_left (codes " ") text other e)

check_gives : (a : ServerAddress) → is_address a ≡ true → ReadsCheckNow (codes " " ++ address a) (Ok (fact.CheckNow a))
check_gives a h b k e = ap fact.CheckNow (address_same a b h k (append_cancel_left (codes " ") (address a) (address b) e))

cancel_gives : (a : ServerAddress) → is_address a ≡ true → ReadsCancel (codes " " ++ address a) (Ok (fact.Cancel a))
cancel_gives a h b k e = ap fact.Cancel (address_same a b h k (append_cancel_left (codes " ") (address a) (address b) e))

fact_gives : (f : ShownFact) → IsFact f → ReadsNamed (shown_fact f) (Ok f)
unfolding until beyond fact_kind pool_kind other_kind
fact_gives (fact.Opened p a) h = opened_gives p a h.types h.rules
fact_gives (fact.Pool p e) h = pool_gives p e h.types.0 h.types.1 h.rules
fact_gives (fact.Granted party p c) h = granted_gives party p c h.types.0 h.types.1 h.types.2
fact_gives (fact.Ended request e) h = ended_gives request e h.types.0 h.types.1 h.rules
fact_gives (fact.Raised p service e) h = raised_gives p service e h.types.0 h.types.1 h.types.2 h.rules
fact_gives (fact.Sdam event) h = sdam_gives event
fact_gives (fact.CheckNow a) h = check_gives a h.rules
fact_gives (fact.Cancel a) h = cancel_gives a h.rules

pub fact_same : (d e : ShownFact) → IsFact d → IsFact e → shown_fact d ≡ shown_fact e → d ≡ e
fact_same d e hd he same = fact_read e (Ok d) he (subst (λ (t : List ℕ). ReadsNamed t (Ok d)) same (fact_gives d hd))
