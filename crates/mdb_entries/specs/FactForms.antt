-- What reading gives for each fact, from what stands behind its name.
use Rattle.std.specs.Prelude.{◌≡◌, ℕ, ◌<◌, ◌^◌, List, ◌++◌, codes, decimal, Option, Some, None, IfSome, Result, true, if◌then◌else◌, bytes_eq, MatchOption}
use Rattle.std.specs.Option.{option_or}
use Rattle.mdb_base.specs.AddressReading.{until, beyond}
use Rattle.mdb_base.specs.AddressRule.{is_address}
use Rattle.mdb_base.specs.ErrorText.{error_text}
use Rattle.mdb_base.specs.Spelling.{address}
use Rattle.mdb_base.specs.declared.address.ServerAddress.{ServerAddress}
use Rattle.mdb_base.specs.declared.error.Error.{Error}
use Rattle.mdb_base.specs.declared.object_id.ObjectId.{ObjectId}
use Rattle.mdb_events.specs.EventText.{event_text}
use Rattle.mdb_events.specs.FactText.{end_text}
use Rattle.mdb_events.specs.Words.{service_or_dash}
use Rattle.mdb_events.specs.declared.cmap.CmapEvent.{CmapEvent}
use Rattle.mdb_events.specs.declared.end.End.{End}
use Rattle.mdb_event_reading.specs.EndForms.{is_end, IsEndOfTypes}
use Rattle.mdb_event_reading.specs.EventTypes.{is_event, IsEventOfTypes}
use Rattle.mdb_lines.specs.LogText.{connection_text}
use Rattle.mdb_parts.specs.declared.line_error.LineError.{LineError}
use Rattle.mdb_parts.specs.ErrorParts.{is_error, IsErrorOfTypes}
use Rattle.mdb_parts.specs.Reading.{Gives}
use Rattle.mdb_parts.specs.Types.{IsIdOfTypes}
use Rattle.mdb_entries.specs.declared.fact_kind.FactKind.{FactKind}
use Rattle.mdb_entries.specs.declared.fact_kind.FactKind.TheVariants as kind
use Rattle.mdb_entries.specs.declared.shown.ShownFact.{ShownFact}
use Rattle.mdb_entries.specs.declared.shown.ShownFact.TheVariants as fact

unfoldable pub pool_kind : List ℕ → Option FactKind
pool_kind word =
    if bytes_eq word (codes "Opened") then Some kind.Opened
    else if bytes_eq word (codes "Pool") then Some kind.Pool
    else if bytes_eq word (codes "Granted") then Some kind.Granted
    else if bytes_eq word (codes "Ended") then Some kind.Ended
    else if bytes_eq word (codes "Raised") then Some kind.Raised
    else None

unfoldable pub other_kind : List ℕ → Option FactKind
other_kind word =
    if bytes_eq word (codes "Sdam") then Some kind.Sdam
    else if bytes_eq word (codes "CheckNow") then Some kind.CheckNow
    else if bytes_eq word (codes "Cancel") then Some kind.Cancel
    else None

-- the fact of this name
unfoldable pub fact_kind : List ℕ → Option FactKind
fact_kind word = option_or (pool_kind word) (other_kind word)

abbrev pub ReadsOpened : List ℕ → Result ShownFact LineError → Type 0
ReadsOpened text r =
    (p : ℕ) (a : ServerAddress) → p < 2 ^ 32 → is_address a ≡ true
    → text ≡ codes " " ++ (decimal p ++ (codes " " ++ address a)) → Gives (fact.Opened p a) r

abbrev pub ReadsPool : List ℕ → Result ShownFact LineError → Type 0
ReadsPool text r =
    (p : ℕ) (e : CmapEvent) → p < 2 ^ 32 → IsEventOfTypes e → is_event e ≡ true
    → text ≡ codes " " ++ (decimal p ++ (codes " " ++ event_text e)) → Gives (fact.Pool p e) r

abbrev pub ReadsGranted : List ℕ → Result ShownFact LineError → Type 0
ReadsGranted text r =
    (party p c : ℕ) → party < 2 ^ 32 → p < 2 ^ 32 → c < 2 ^ 32
    → text ≡ codes " " ++ (decimal party ++ (codes " " ++ connection_text p c)) → Gives (fact.Granted party p c) r

abbrev pub ReadsEnded : List ℕ → Result ShownFact LineError → Type 0
ReadsEnded text r =
    (request : ℕ) (e : End) → request < 2 ^ 32 → IsEndOfTypes e → is_end e ≡ true
    → text ≡ codes " " ++ (decimal request ++ (codes " " ++ end_text e)) → Gives (fact.Ended request e) r

abbrev pub ReadsRaised : List ℕ → Result ShownFact LineError → Type 0
ReadsRaised text r =
    (p : ℕ) (service : Option ObjectId) (e : Error) → p < 2 ^ 32 → IfSome service IsIdOfTypes → IsErrorOfTypes e → is_error e ≡ true
    → text ≡ codes " " ++ (decimal p ++ (codes " " ++ (service_or_dash service ++ (codes " " ++ error_text e)))) → Gives (fact.Raised p service e) r

abbrev pub ReadsSdam : List ℕ → Result ShownFact LineError → Type 0
ReadsSdam text r = (event : List ℕ) → text ≡ codes " " ++ event → Gives (fact.Sdam event) r

abbrev pub ReadsCheckNow : List ℕ → Result ShownFact LineError → Type 0
ReadsCheckNow text r = (a : ServerAddress) → is_address a ≡ true → text ≡ codes " " ++ address a → Gives (fact.CheckNow a) r

abbrev pub ReadsCancel : List ℕ → Result ShownFact LineError → Type 0
ReadsCancel text r = (a : ServerAddress) → is_address a ≡ true → text ≡ codes " " ++ address a → Gives (fact.Cancel a) r

abbrev pub ReadsFact : FactKind → List ℕ → Result ShownFact LineError → Type 0
ReadsFact kind.Opened text r = ReadsOpened text r
ReadsFact kind.Pool text r = ReadsPool text r
ReadsFact kind.Granted text r = ReadsGranted text r
ReadsFact kind.Ended text r = ReadsEnded text r
ReadsFact kind.Raised text r = ReadsRaised text r
ReadsFact kind.Sdam text r = ReadsSdam text r
ReadsFact kind.CheckNow text r = ReadsCheckNow text r
ReadsFact kind.Cancel text r = ReadsCancel text r

-- A fact is read by its name. One of no name gives nothing.
abbrev pub ReadsNamed : List ℕ → Result ShownFact LineError → Type 0
ReadsNamed text r = MatchOption (fact_kind (until 32 text)) (Unit {0}) (λ kind. ReadsFact kind (beyond 32 text) r)
