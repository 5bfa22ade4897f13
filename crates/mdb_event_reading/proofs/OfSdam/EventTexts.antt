-- The text of an event is that of what it shows, and has printable bytes alone where the message of its error has.
use Rattle.std.proofs.Common.{◌≡◌, ℕ, ℤ, ◌<◌, ◌^◌, true, List, ◌++◌, Option, Some, None, IfSome, FitsSigned, refl, sym, ap, ◌∙◌, append_assoc, length, decimal, codes}
use Rattle.std.specs.Int.{w64}
use Rattle.std.proofs.lemmas.Bool.{and_parts}
use Rattle.mdb_base.specs.ErrorText.{error_text}
use Rattle.mdb_base.specs.Spelling.{address}
use Rattle.mdb_describe.specs.InfoText.{type_name}
use Rattle.mdb_events.specs.SdamText.{sdam_text}
use Rattle.mdb_events.specs.Words.{signed_or_dash, truth}
use Rattle.mdb_events.specs.declared.sdam.SdamEvent.{SdamEvent}
use Rattle.mdb_events.specs.declared.sdam.SdamEvent.TheVariants.{ServerDescriptionChanged, ServerOpening, ServerClosed, TopologyDescriptionChanged, TopologyOpening, TopologyClosed, ServerHeartbeatStarted, ServerHeartbeatSucceeded, ServerHeartbeatFailed}
use Rattle.mdb_hello.specs.declared.server_type.ServerType.{ServerType}
use Rattle.mdb_hello.specs.declared.server_type.ServerType.TheVariants as server
use Rattle.mdb_srv.specs.Polling.{topology_name}
use Rattle.mdb_srv.specs.declared.topology_type.TopologyType.{TopologyType}
use Rattle.mdb_srv.specs.declared.topology_type.TopologyType.TheVariants as topology
use Rattle.mdb_event_reading.proofs.PrintLemmas.{prints, both_print, decimal_prints, narrow_prints, signed_prints, address_prints, error_prints}
use Rattle.mdb_event_reading.proofs.PrintEvents.{truth_prints, placed_prints}
use Rattle.mdb_parts.specs.ErrorParts.{is_error}
use Rattle.mdb_base.specs.AddressRule.{is_address}
use Rattle.mdb_event_reading.specs.declared.shown_sdam.ShownBeat.{ShownBeat}
use Rattle.mdb_event_reading.specs.declared.shown_sdam.ShownSdam.{ShownSdam}
use Rattle.mdb_event_reading.specs.declared.shown_sdam.ShownSdam.TheVariants as event
use Rattle.mdb_event_reading.specs.SdamTexts.{kind_text, beat_text, shown_sdam, is_server_id, is_beat, IsBeatOfTypes, IsShown, IsSdamText}
use Rattle.mdb_event_reading.specs.OfEvents.{shown_of_sdam}

-- the text of a check, and what follows it
beat_first : (b : ShownBeat) (rest : List ℕ) → address b.address ++ (codes " awaited=" ++ (truth b.awaited ++ (codes " driver=" ++ (decimal b.driver ++ (codes " server=" ++ (signed_or_dash b.server ++ rest)))))) ≡ beat_text b ++ rest
beat_first b rest =
    let p6 = signed_or_dash b.server in
    let p5 = decimal b.driver ++ (codes " server=" ++ p6) in
    let p4 = truth b.awaited ++ (codes " driver=" ++ p5) in
    sym
    (append_assoc (address b.address) (codes " awaited=" ++ p4) rest
    ∙ ap (λ (t : List ℕ). address b.address ++ (codes " awaited=" ++ t))
    (append_assoc (truth b.awaited) (codes " driver=" ++ p5) rest
    ∙ ap (λ (t : List ℕ). truth b.awaited ++ (codes " driver=" ++ t)) (append_assoc (decimal b.driver) (codes " server=" ++ p6) rest)))

kinds_first : (old new : TopologyType) (count size : ℕ) → topology_name old ++ (codes "/" ++ (decimal count ++ (codes " " ++ kind_text new size))) ≡ kind_text old count ++ (codes " " ++ kind_text new size)
kinds_first old new count size = sym (append_assoc (topology_name old) (codes "/" ++ decimal count) (codes " " ++ kind_text new size))

pub sdam_same : (e : SdamEvent) → sdam_text e ≡ shown_sdam (shown_of_sdam e)
sdam_same (ServerDescriptionChanged e) = refl
sdam_same (ServerOpening e) = refl
sdam_same (ServerClosed e) = refl
sdam_same (TopologyDescriptionChanged e) =
    ap (λ (t : List ℕ). codes "TopologyDescriptionChanged " ++ t)
    (kinds_first e.previous_description.topology_type e.new_description.topology_type (length e.previous_description.servers) (length e.new_description.servers))
sdam_same (TopologyOpening e) = refl
sdam_same (TopologyClosed e) = refl
sdam_same (ServerHeartbeatStarted e) = refl
sdam_same (ServerHeartbeatSucceeded e) =
    let b : ShownBeat = record { address = e.server_address; awaited = e.awaited; driver = e.driver_connection_id; server = e.server_connection_id } in
    ap (λ (t : List ℕ). codes "ServerHeartbeatSucceeded " ++ t) (beat_first b (codes " duration=" ++ decimal e.duration))
sdam_same (ServerHeartbeatFailed e) =
    let b : ShownBeat = record { address = e.server_address; awaited = e.awaited; driver = e.driver_connection_id; server = e.server_connection_id } in
    ap (λ (t : List ℕ). codes "ServerHeartbeatFailed " ++ t) (beat_first b (codes " duration=" ++ (decimal e.duration ++ (codes " " ++ error_text e.failure))))

pub sdam_is_text : (e : SdamEvent) → IsShown (shown_of_sdam e) → IsSdamText (sdam_text e)
sdam_is_text e h = record { event = shown_of_sdam e; own = h; text_is = sdam_same e }

-- printable bytes

type_prints : (kind : ServerType) → prints (type_name kind) ≡ true
type_prints server.Standalone = refl
type_prints server.Mongos = refl
type_prints server.RsPrimary = refl
type_prints server.RsSecondary = refl
type_prints server.RsArbiter = refl
type_prints server.RsOther = refl
type_prints server.RsGhost = refl
type_prints server.LoadBalancer = refl
type_prints server.Unknown = refl

kind_prints : (kind : TopologyType) (n : ℕ) → n < 2 ^ 64 → prints (kind_text kind n) ≡ true
kind_prints kind n lt = both_print (topology_name kind) (codes "/" ++ decimal n) (own kind) (decimal_prints n lt)
  where
    own : (k : TopologyType) → prints (topology_name k) ≡ true
    own topology.Unknown = refl
    own topology.Single = refl
    own topology.Sharded = refl
    own topology.ReplicaSetNoPrimary = refl
    own topology.ReplicaSetWithPrimary = refl
    own topology.LoadBalanced = refl

server_prints : (o : Option ℤ) → IfSome o (FitsSigned w64) → prints (signed_or_dash o) ≡ true
server_prints None fits = refl
server_prints (Some z) fits = signed_prints z fits

beat_prints : (b : ShownBeat) → IsBeatOfTypes b → is_beat b ≡ true → prints (beat_text b) ≡ true
beat_prints b types h =
    let p6 = codes " server=" ++ signed_or_dash b.server in
    let p5 = codes " driver=" ++ (decimal b.driver ++ p6) in
    let p4 = codes " awaited=" ++ (truth b.awaited ++ p5) in
    placed_prints b.address p4 (and_parts (is_address b.address) (is_server_id b.server) h).0
    (both_print (truth b.awaited) p5 (truth_prints b.awaited)
    (both_print (decimal b.driver) p6 (narrow_prints b.driver types.driver) (server_prints b.server types.server)))

-- the message of its error is printable
abbrev pub HasPlainMessage : ShownSdam → Type 0
HasPlainMessage (event.Failed b n e) = prints e.message ≡ true
HasPlainMessage _ = Unit {0}

pub shown_prints : (e : ShownSdam) → IsShown e → HasPlainMessage e → prints (shown_sdam e) ≡ true
shown_prints (event.ServerChanged a old new) h m =
    let types = codes " " ++ (type_name old ++ (codes " " ++ type_name new)) in
    placed_prints a types h.rules (both_print (type_name old) (codes " " ++ type_name new) (type_prints old) (type_prints new))
shown_prints (event.ServerOpening a) h m = address_prints a h.rules
shown_prints (event.ServerClosed a) h m = address_prints a h.rules
shown_prints (event.TopologyChanged old count new size) h m = both_print (kind_text old count) (codes " " ++ kind_text new size) (kind_prints old count h.types.0) (kind_prints new size h.types.1)
shown_prints event.TopologyOpening h m = refl
shown_prints event.TopologyClosed h m = refl
shown_prints (event.Started b) h m = beat_prints b h.types h.rules
shown_prints (event.Succeeded b n) h m = both_print (beat_text b) (codes " duration=" ++ decimal n) (beat_prints b h.types.1 h.rules) (decimal_prints n h.types.0)
shown_prints (event.Failed b n e) h m =
    let p = and_parts (is_beat b) (is_error e) h.rules in
    let error = codes " " ++ error_text e in
    both_print (beat_text b) (codes " duration=" ++ (decimal n ++ error)) (beat_prints b h.types.1 p.0)
    (both_print (decimal n) error (decimal_prints n h.types.0) (error_prints e h.types.2 p.1 m))
