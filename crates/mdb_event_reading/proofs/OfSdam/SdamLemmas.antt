-- The text of an event is read as that event, and has no bar.
use Rattle.std.proofs.Common.{◌≡◌, ℕ, ℤ, ◌<◌, ◌^◌, true, false, Bool, List, [], ◌++◌, Option, Some, None, IfSome, FitsSigned, Result, refl, sym, ap, ◌∙◌, append_assoc, append-nil, decimal, codes}
use Rattle.std.specs.Int.{w64}
use Rattle.std.proofs.lemmas.Bool.{and_parts}
use Rattle.mdb_base.specs.AddressReading.{until, beyond}
use Rattle.mdb_base.specs.AddressRule.{is_address}
use Rattle.mdb_base.specs.ErrorText.{error_text}
use Rattle.mdb_base.specs.Spelling.{address}
use Rattle.mdb_describe.specs.InfoText.{type_name}
use Rattle.mdb_events.specs.Words.{signed_or_dash, truth}
use Rattle.mdb_hello.specs.declared.server_type.ServerType.{ServerType}
use Rattle.mdb_hello.specs.declared.server_type.ServerType.TheVariants as server
use Rattle.mdb_srv.specs.Polling.{topology_name}
use Rattle.mdb_srv.specs.declared.topology_type.TopologyType.{TopologyType}
use Rattle.mdb_srv.specs.declared.topology_type.TopologyType.TheVariants as topology
use Rattle.mdb_event_reading.proofs.BarLemmas.{decimal_no_bar, narrow_no_bar, signed_no_bar, address_no_bar, error_no_bar}
use Rattle.mdb_parts.specs.ErrorParts.{is_error}
use Rattle.mdb_parts.specs.declared.line_error.LineError.{LineError}
use Rattle.mdb_parts.specs.Reading.{lacks, Gives}
use Rattle.mdb_parts.proofs.CommaLemmas.{lacks_append}
use Rattle.mdb_event_reading.specs.declared.shown_sdam.ShownBeat.{ShownBeat}
use Rattle.mdb_event_reading.specs.declared.shown_sdam.ShownSdam.{ShownSdam}
use Rattle.mdb_event_reading.specs.declared.shown_sdam.ShownSdam.TheVariants as event
use Rattle.mdb_event_reading.specs.SdamTexts.{kind_text, beat_text, shown_sdam, is_server_id, is_beat, IsBeatOfTypes, IsShown, IsSdamText, IsServerId, IsBeat}
use Rattle.mdb_event_reading.specs.SdamForms.{beat_start, sdam_kind, change_kind, beat_kind, ReadsNamed}

-- the text of a check, and what follows it

spread : (b : ShownBeat) (rest : List ℕ) → codes " " ++ (beat_text b ++ rest) ≡ beat_start b rest
spread b rest =
    let p6 = signed_or_dash b.server in
    let p5 = decimal b.driver ++ (codes " server=" ++ p6) in
    let p4 = truth b.awaited ++ (codes " driver=" ++ p5) in
    ap (λ (t : List ℕ). codes " " ++ t)
    (append_assoc (address b.address) (codes " awaited=" ++ p4) rest
    ∙ ap (λ (t : List ℕ). address b.address ++ (codes " awaited=" ++ t))
    (append_assoc (truth b.awaited) (codes " driver=" ++ p5) rest
    ∙ ap (λ (t : List ℕ). truth b.awaited ++ (codes " driver=" ++ t)) (append_assoc (decimal b.driver) (codes " server=" ++ p6) rest)))

alone : (b : ShownBeat) → codes " " ++ beat_text b ≡ beat_start b []
alone b = ap (λ (t : List ℕ). codes " " ++ t) (sym (append-nil (beat_text b))) ∙ spread b []

server_rule : (o : Option ℤ) → IfSome o (FitsSigned w64) → is_server_id o ≡ true → IfSome o IsServerId
server_rule None fits h = tt
server_rule (Some z) fits h = (fits, h)

beat_of : (b : ShownBeat) → IsBeatOfTypes b → is_beat b ≡ true → IsBeat b
beat_of b types h =
    let p = and_parts (is_address b.address) (is_server_id b.server) h in
    record { place = p.0; driver = types.driver; server = server_rule b.server types.server p.1 }

pub sdam_read : (e : ShownSdam) (r : Result ShownSdam LineError) → IsShown e → ReadsNamed (shown_sdam e) r → Gives e r
unfolding until beyond sdam_kind change_kind beat_kind
sdam_read (event.ServerChanged a old new) r h reads = reads a old new h.rules refl
sdam_read (event.ServerOpening a) r h reads = reads a h.rules refl
sdam_read (event.ServerClosed a) r h reads = reads a h.rules refl
sdam_read (event.TopologyChanged old count new size) r h reads = reads old new count size h.types.0 h.types.1 refl
sdam_read event.TopologyOpening r h reads = reads
sdam_read event.TopologyClosed r h reads = reads
sdam_read (event.Started b) r h reads = reads b (beat_of b h.types h.rules) (alone b)
sdam_read (event.Succeeded b n) r h reads = reads b n (beat_of b h.types.1 h.rules) h.types.0 (spread b (codes " duration=" ++ decimal n))
sdam_read (event.Failed b n e) r h reads =
    let p = and_parts (is_beat b) (is_error e) h.rules in
    reads b n e (beat_of b h.types.1 p.0) h.types.0 h.types.2 p.1 (spread b (codes " duration=" ++ (decimal n ++ (codes " " ++ error_text e))))

-- bars

both : (xs ys : List ℕ) → lacks 124 xs ≡ true → lacks 124 ys ≡ true → lacks 124 (xs ++ ys) ≡ true
both = lacks_append 124

type_no_bar : (kind : ServerType) → lacks 124 (type_name kind) ≡ true
type_no_bar server.Standalone = refl
type_no_bar server.Mongos = refl
type_no_bar server.RsPrimary = refl
type_no_bar server.RsSecondary = refl
type_no_bar server.RsArbiter = refl
type_no_bar server.RsOther = refl
type_no_bar server.RsGhost = refl
type_no_bar server.LoadBalancer = refl
type_no_bar server.Unknown = refl

kind_no_bar : (kind : TopologyType) (n : ℕ) → n < 2 ^ 64 → lacks 124 (kind_text kind n) ≡ true
kind_no_bar kind n lt = both (topology_name kind) (codes "/" ++ decimal n) (own kind) (decimal_no_bar n lt)
  where
    own : (k : TopologyType) → lacks 124 (topology_name k) ≡ true
    own topology.Unknown = refl
    own topology.Single = refl
    own topology.Sharded = refl
    own topology.ReplicaSetNoPrimary = refl
    own topology.ReplicaSetWithPrimary = refl
    own topology.LoadBalanced = refl

truth_no_bar : (b : Bool) → lacks 124 (truth b) ≡ true
truth_no_bar true = refl
truth_no_bar false = refl

server_no_bar : (o : Option ℤ) → IfSome o (FitsSigned w64) → lacks 124 (signed_or_dash o) ≡ true
server_no_bar None fits = refl
server_no_bar (Some z) fits = signed_no_bar z fits

beat_no_bar : (b : ShownBeat) → IsBeatOfTypes b → is_beat b ≡ true → lacks 124 (beat_text b) ≡ true
beat_no_bar b types h =
    let p6 = codes " server=" ++ signed_or_dash b.server in
    let p5 = codes " driver=" ++ (decimal b.driver ++ p6) in
    let p4 = codes " awaited=" ++ (truth b.awaited ++ p5) in
    both (address b.address) p4 (address_no_bar b.address (and_parts (is_address b.address) (is_server_id b.server) h).0)
    (both (truth b.awaited) p5 (truth_no_bar b.awaited)
    (both (decimal b.driver) p6 (narrow_no_bar b.driver types.driver) (server_no_bar b.server types.server)))

pub shown_no_bar : (e : ShownSdam) → IsShown e → lacks 124 (shown_sdam e) ≡ true
shown_no_bar (event.ServerChanged a old new) h =
    let types = codes " " ++ (type_name old ++ (codes " " ++ type_name new)) in
    both (address a) types (address_no_bar a h.rules) (both (type_name old) (codes " " ++ type_name new) (type_no_bar old) (type_no_bar new))
shown_no_bar (event.ServerOpening a) h = address_no_bar a h.rules
shown_no_bar (event.ServerClosed a) h = address_no_bar a h.rules
shown_no_bar (event.TopologyChanged old count new size) h = both (kind_text old count) (codes " " ++ kind_text new size) (kind_no_bar old count h.types.0) (kind_no_bar new size h.types.1)
shown_no_bar event.TopologyOpening h = refl
shown_no_bar event.TopologyClosed h = refl
shown_no_bar (event.Started b) h = beat_no_bar b h.types h.rules
shown_no_bar (event.Succeeded b n) h = both (beat_text b) (codes " duration=" ++ decimal n) (beat_no_bar b h.types.1 h.rules) (decimal_no_bar n h.types.0)
shown_no_bar (event.Failed b n e) h =
    let p = and_parts (is_beat b) (is_error e) h.rules in
    let error = codes " " ++ error_text e in
    both (beat_text b) (codes " duration=" ++ (decimal n ++ error)) (beat_no_bar b h.types.1 p.0)
    (both (decimal n) error (decimal_no_bar n h.types.0) (error_no_bar e h.types.2 p.1))

pub sdam_no_bar : (text : List ℕ) → IsSdamText text → lacks 124 text ≡ true
sdam_no_bar text h = rw h.text_is (shown_no_bar h.event h.own)
