-- What reading gives for each event of a server or of the topology, from what stands behind its name.
use Rattle.std.specs.Prelude.{◌≡◌, ℕ, ◌<◌, ◌^◌, List, [], ◌++◌, codes, decimal, Option, Some, None, Result, true, if◌then◌else◌, bytes_eq, MatchOption}
use Rattle.std.specs.Option.{option_or}
use Rattle.mdb_base.specs.AddressReading.{until, beyond}
use Rattle.mdb_base.specs.AddressRule.{is_address}
use Rattle.mdb_base.specs.ErrorText.{error_text}
use Rattle.mdb_base.specs.Spelling.{address}
use Rattle.mdb_base.specs.declared.address.ServerAddress.{ServerAddress}
use Rattle.mdb_base.specs.declared.error.Error.{Error}
use Rattle.mdb_describe.specs.InfoText.{type_name}
use Rattle.mdb_events.specs.Words.{signed_or_dash, truth}
use Rattle.mdb_hello.specs.declared.server_type.ServerType.{ServerType}
use Rattle.mdb_srv.specs.declared.topology_type.TopologyType.{TopologyType}
use Rattle.mdb_parts.specs.ErrorParts.{is_error, IsErrorOfTypes}
use Rattle.mdb_parts.specs.declared.line_error.LineError.{LineError}
use Rattle.mdb_parts.specs.Reading.{Gives}
use Rattle.mdb_event_reading.specs.declared.sdam_kind.SdamKind.{SdamKind}
use Rattle.mdb_event_reading.specs.declared.sdam_kind.SdamKind.TheVariants as kind
use Rattle.mdb_event_reading.specs.declared.shown_sdam.ShownBeat.{ShownBeat}
use Rattle.mdb_event_reading.specs.declared.shown_sdam.ShownSdam.{ShownSdam}
use Rattle.mdb_event_reading.specs.declared.shown_sdam.ShownSdam.TheVariants as event
use Rattle.mdb_event_reading.specs.SdamTexts.{kind_text, IsBeat}

unfoldable pub change_kind : List ℕ → Option SdamKind
change_kind word =
    if bytes_eq word (codes "ServerDescriptionChanged") then Some kind.ServerChanged
    else if bytes_eq word (codes "ServerOpening") then Some kind.ServerOpening
    else if bytes_eq word (codes "ServerClosed") then Some kind.ServerClosed
    else if bytes_eq word (codes "TopologyDescriptionChanged") then Some kind.TopologyChanged
    else if bytes_eq word (codes "TopologyOpening") then Some kind.TopologyOpening
    else if bytes_eq word (codes "TopologyClosed") then Some kind.TopologyClosed
    else None

unfoldable pub beat_kind : List ℕ → Option SdamKind
beat_kind word =
    if bytes_eq word (codes "ServerHeartbeatStarted") then Some kind.Started
    else if bytes_eq word (codes "ServerHeartbeatSucceeded") then Some kind.Succeeded
    else if bytes_eq word (codes "ServerHeartbeatFailed") then Some kind.Failed
    else None

-- the event of this name
unfoldable pub sdam_kind : List ℕ → Option SdamKind
sdam_kind word = option_or (change_kind word) (beat_kind word)

abbrev pub ReadsServerChanged : List ℕ → Result ShownSdam LineError → Type 0
ReadsServerChanged text r =
    (a : ServerAddress) (old new : ServerType) → is_address a ≡ true
    → text ≡ codes " " ++ (address a ++ (codes " " ++ (type_name old ++ (codes " " ++ type_name new)))) → Gives (event.ServerChanged a old new) r

abbrev pub ReadsServerOpening : List ℕ → Result ShownSdam LineError → Type 0
ReadsServerOpening text r = (a : ServerAddress) → is_address a ≡ true → text ≡ codes " " ++ address a → Gives (event.ServerOpening a) r

abbrev pub ReadsServerClosed : List ℕ → Result ShownSdam LineError → Type 0
ReadsServerClosed text r = (a : ServerAddress) → is_address a ≡ true → text ≡ codes " " ++ address a → Gives (event.ServerClosed a) r

abbrev pub ReadsTopologyChanged : List ℕ → Result ShownSdam LineError → Type 0
ReadsTopologyChanged text r =
    (old new : TopologyType) (count size : ℕ) → count < 2 ^ 64 → size < 2 ^ 64
    → text ≡ codes " " ++ (kind_text old count ++ (codes " " ++ kind_text new size)) → Gives (event.TopologyChanged old count new size) r

-- a check, and what follows it
abbrev pub beat_start : ShownBeat → List ℕ → List ℕ
beat_start b rest = codes " " ++ (address b.address ++ (codes " awaited=" ++ (truth b.awaited ++ (codes " driver=" ++ (decimal b.driver ++ (codes " server=" ++ (signed_or_dash b.server ++ rest)))))))

abbrev pub ReadsStarted : List ℕ → Result ShownSdam LineError → Type 0
ReadsStarted text r = (b : ShownBeat) → IsBeat b → text ≡ beat_start b [] → Gives (event.Started b) r

abbrev pub ReadsSucceeded : List ℕ → Result ShownSdam LineError → Type 0
ReadsSucceeded text r = (b : ShownBeat) (n : ℕ) → IsBeat b → n < 2 ^ 64 → text ≡ beat_start b (codes " duration=" ++ decimal n) → Gives (event.Succeeded b n) r

abbrev pub ReadsFailed : List ℕ → Result ShownSdam LineError → Type 0
ReadsFailed text r =
    (b : ShownBeat) (n : ℕ) (e : Error) → IsBeat b → n < 2 ^ 64 → IsErrorOfTypes e → is_error e ≡ true
    → text ≡ beat_start b (codes " duration=" ++ (decimal n ++ (codes " " ++ error_text e))) → Gives (event.Failed b n e) r

abbrev pub ReadsKind : SdamKind → List ℕ → Result ShownSdam LineError → Type 0
ReadsKind kind.ServerChanged text r = ReadsServerChanged text r
ReadsKind kind.ServerOpening text r = ReadsServerOpening text r
ReadsKind kind.ServerClosed text r = ReadsServerClosed text r
ReadsKind kind.TopologyChanged text r = ReadsTopologyChanged text r
ReadsKind kind.TopologyOpening text r = Gives event.TopologyOpening r
ReadsKind kind.TopologyClosed text r = Gives event.TopologyClosed r
ReadsKind kind.Started text r = ReadsStarted text r
ReadsKind kind.Succeeded text r = ReadsSucceeded text r
ReadsKind kind.Failed text r = ReadsFailed text r

-- An event is read by its name. One of no name gives nothing.
abbrev pub ReadsNamed : List ℕ → Result ShownSdam LineError → Type 0
ReadsNamed text r = MatchOption (sdam_kind (until 32 text)) (Unit {0}) (λ kind. ReadsKind kind (beyond 32 text) r)
