-- Events of pools that are spelled alike are the same.
use Rattle.std.proofs.Common.{◌≡◌, ℕ, ◌<◌, ◌^◌, Bool, true, List, ◌++◌, Option, Some, None, Ok, IfSome, refl, ap, subst, codes, decimal}
use Rattle.std.proofs.lemmas.List.{append_cancel_left}
use Rattle.std.proofs.lemmas.Fmt.{decimal_injective}
use Rattle.mdb_base.specs.AddressReading.{until, beyond}
use Rattle.mdb_base.specs.AddressRule.{is_address}
use Rattle.mdb_base.specs.Spelling.{address}
use Rattle.mdb_base.specs.declared.address.ServerAddress.{ServerAddress}
use Rattle.mdb_base.specs.declared.object_id.ObjectId.{ObjectId}
use Rattle.mdb_events.specs.EventText.{options_or_dash, event_text}
use Rattle.mdb_events.specs.Words.{number_or_dash, service_or_dash, truth, closed_word, failed_word}
use Rattle.mdb_events.specs.declared.cmap.ConnectionPoolOptions.{ConnectionPoolOptions}
use Rattle.mdb_events.specs.declared.cmap.CmapEvent.{CmapEvent}
use Rattle.mdb_events.specs.declared.cmap.CmapEvent.TheVariants as event
use Rattle.mdb_events.specs.declared.reasons.ConnectionClosedReason.{ConnectionClosedReason}
use Rattle.mdb_events.specs.declared.reasons.ConnectionCheckoutFailedReason.{ConnectionCheckoutFailedReason}
use Rattle.mdb_parts.specs.Types.{IsIdOfTypes}
use Rattle.mdb_parts.proofs.Same.{word_same, address_same}
use Rattle.mdb_event_reading.specs.EventTypes.{is_event, AreSizesOfTypes, IsEventOfTypes}
use Rattle.mdb_event_reading.specs.EventForms.{event_kind, pool_kind, connection_kind, ReadsPlace, ReadsConnection, ReadsTimed, ReadsCreated, ReadsCleared, ReadsClosed, ReadsFailed, ReadsNamed}
use Rattle.mdb_event_reading.proofs.DashLemmas.{service_lacks, closed_lacks, failed_lacks}
use Rattle.mdb_event_reading.proofs.EventLemmas.{event_read}
use Rattle.mdb_event_reading.proofs.SameWords.{address_and_rest, narrow_and_rest, narrow_same, narrows_and_rest, wides_same, services_same, truths_same, closed_same, failed_same}

place_gives : (does : ServerAddress → CmapEvent) (a : ServerAddress) → is_address a ≡ true → ReadsPlace does (codes " " ++ address a) (Ok (does a))
place_gives does a h b k e = ap does (address_same a b h k (append_cancel_left (codes " ") (address a) (address b) e))

connection_gives : (does : ServerAddress → ℕ → CmapEvent) (a : ServerAddress) (c : ℕ) → is_address a ≡ true → c < 2 ^ 32
    → ReadsConnection does (codes " " ++ (address a ++ (codes " " ++ decimal c))) (Ok (does a c))
connection_gives does a c h lc b d k ld e =
    let p1 = address_and_rest a b (codes " " ++ decimal c) (codes " " ++ decimal d) h k refl refl (append_cancel_left (codes " ") _ _ e) in
    let p2 = narrow_same c d lc ld (append_cancel_left (codes " ") (decimal c) (decimal d) p1.1) in
    rw (p1.0, p2) refl

timed_gives : (does : ServerAddress → ℕ → ℕ → CmapEvent) (a : ServerAddress) (c m : ℕ) → is_address a ≡ true → c < 2 ^ 32 → m < 2 ^ 64
    → ReadsTimed does (codes " " ++ (address a ++ (codes " " ++ (decimal c ++ (codes " " ++ decimal m))))) (Ok (does a c m))
timed_gives does a c m h lc lm b d n k ld ln e =
    let p1 = address_and_rest a b (codes " " ++ (decimal c ++ (codes " " ++ decimal m))) (codes " " ++ (decimal d ++ (codes " " ++ decimal n))) h k refl refl (append_cancel_left (codes " ") _ _ e) in
    let p2 = narrow_and_rest c d (codes " " ++ decimal m) (codes " " ++ decimal n) lc ld refl refl (append_cancel_left (codes " ") _ _ p1.1) in
    let p3 = decimal_injective m n lm ln (append_cancel_left (codes " ") (decimal m) (decimal n) p2.1) in
    rw (p1.0, p2.0, p3) refl

sizes_same : (o p : Option ConnectionPoolOptions) → IfSome o AreSizesOfTypes → IfSome p AreSizesOfTypes → options_or_dash o ≡ options_or_dash p → o ≡ p
sizes_same None None to tp e = refl
sizes_same None (Some p) to tp e = absurd (cc)
sizes_same (Some o) None to tp e = absurd (cc)
sizes_same (Some o) (Some p) to tp e =
    let o3 = codes " idle=" ++ number_or_dash o.max_idle_time in
    let p3 = codes " idle=" ++ number_or_dash p.max_idle_time in
    let max = narrows_and_rest o.max_pool_size p.max_pool_size (codes " min=" ++ (number_or_dash o.min_pool_size ++ o3)) (codes " min=" ++ (number_or_dash p.min_pool_size ++ p3)) to.max tp.max refl refl (append_cancel_left (codes "max=") _ _ e) in
    let min = narrows_and_rest o.min_pool_size p.min_pool_size o3 p3 to.min tp.min refl refl (append_cancel_left (codes " min=") _ _ max.1) in
    let idle = wides_same o.max_idle_time p.max_idle_time to.idle tp.idle (append_cancel_left (codes " idle=") _ _ min.1) in
    let all : ◌≡◌ {A = ConnectionPoolOptions} (record { max_pool_size = o.max_pool_size; min_pool_size = o.min_pool_size; max_idle_time = o.max_idle_time }) p = rw (max.0, min.0, idle) refl in
    ap Some all

created_gives : (a : ServerAddress) (o : Option ConnectionPoolOptions) → is_address a ≡ true → IfSome o AreSizesOfTypes
    → ReadsCreated (codes " " ++ (address a ++ (codes " " ++ options_or_dash o))) (Ok (event.PoolCreated (record { address = a; options = o })))
created_gives a o h to b p k tp e =
    let p1 = address_and_rest a b (codes " " ++ options_or_dash o) (codes " " ++ options_or_dash p) h k refl refl (append_cancel_left (codes " ") _ _ e) in
    let p2 = sizes_same o p to tp (append_cancel_left (codes " ") _ _ p1.1) in
    rw (p1.0, p2) refl

cleared_gives : (a : ServerAddress) (x : Option ObjectId) (i : Bool) → is_address a ≡ true → IfSome x IsIdOfTypes
    → ReadsCleared (codes " " ++ (address a ++ (codes " service=" ++ (service_or_dash x ++ (codes " interrupt=" ++ truth i))))) (Ok (event.PoolCleared (record { address = a; service_id = x; interrupt_in_use_connections = i })))
cleared_gives a x i h tx b y j k ty e =
    let x2 = codes " interrupt=" ++ truth i in
    let y2 = codes " interrupt=" ++ truth j in
    let p1 = address_and_rest a b (codes " service=" ++ (service_or_dash x ++ x2)) (codes " service=" ++ (service_or_dash y ++ y2)) h k refl refl (append_cancel_left (codes " ") _ _ e) in
    let p2 = word_same (service_or_dash x) (service_or_dash y) x2 y2 (service_lacks x) (service_lacks y) refl refl (append_cancel_left (codes " service=") _ _ p1.1) in
    let service = services_same x y tx ty p2.0 in
    let interrupt = truths_same i j (append_cancel_left (codes " interrupt=") _ _ p2.1) in
    rw (p1.0, service, interrupt) refl

closed_gives : (a : ServerAddress) (c : ℕ) (r : ConnectionClosedReason) (x : Option ObjectId) → is_address a ≡ true → c < 2 ^ 32 → IfSome x IsIdOfTypes
    → ReadsClosed (codes " " ++ (address a ++ (codes " " ++ (decimal c ++ (codes " " ++ (closed_word r ++ (codes " service=" ++ service_or_dash x))))))) (Ok (event.ConnectionClosed (record { address = a; connection_id = c; reason = r; service_id = x })))
closed_gives a c r x h lc tx b d s y k ld ty e =
    let x3 = codes " service=" ++ service_or_dash x in
    let y3 = codes " service=" ++ service_or_dash y in
    let x2 = codes " " ++ (closed_word r ++ x3) in
    let y2 = codes " " ++ (closed_word s ++ y3) in
    let p1 = address_and_rest a b (codes " " ++ (decimal c ++ x2)) (codes " " ++ (decimal d ++ y2)) h k refl refl (append_cancel_left (codes " ") _ _ e) in
    let p2 = narrow_and_rest c d x2 y2 lc ld refl refl (append_cancel_left (codes " ") _ _ p1.1) in
    let p3 = word_same (closed_word r) (closed_word s) x3 y3 (closed_lacks r) (closed_lacks s) refl refl (append_cancel_left (codes " ") _ _ p2.1) in
    let reason = closed_same r s p3.0 in
    let service = services_same x y tx ty (append_cancel_left (codes " service=") _ _ p3.1) in
    rw (p1.0, p2.0, reason, service) refl

failed_gives : (a : ServerAddress) (r : ConnectionCheckoutFailedReason) (m : ℕ) → is_address a ≡ true → m < 2 ^ 64
    → ReadsFailed (codes " " ++ (address a ++ (codes " " ++ (failed_word r ++ (codes " " ++ decimal m))))) (Ok (event.ConnectionCheckoutFailed (record { address = a; reason = r; duration = m })))
failed_gives a r m h lm b s n k ln e =
    let x2 = codes " " ++ decimal m in
    let y2 = codes " " ++ decimal n in
    let p1 = address_and_rest a b (codes " " ++ (failed_word r ++ x2)) (codes " " ++ (failed_word s ++ y2)) h k refl refl (append_cancel_left (codes " ") _ _ e) in
    let p2 = word_same (failed_word r) (failed_word s) x2 y2 (failed_lacks r) (failed_lacks s) refl refl (append_cancel_left (codes " ") _ _ p1.1) in
    let reason = failed_same r s p2.0 in
    let duration = decimal_injective m n lm ln (append_cancel_left (codes " ") _ _ p2.1) in
    rw (p1.0, reason, duration) refl

event_gives : (e : CmapEvent) → IsEventOfTypes e → is_event e ≡ true → ReadsNamed (event_text e) (Ok e)
unfolding until beyond event_kind pool_kind connection_kind
event_gives (event.PoolCreated e) types rules = created_gives e.address e.options rules types
event_gives (event.PoolReady e) types rules = place_gives (λ a. event.PoolReady (record { address = a })) e.address rules
event_gives (event.PoolCleared e) types rules = cleared_gives e.address e.service_id e.interrupt_in_use_connections rules types
event_gives (event.PoolClosed e) types rules = place_gives (λ a. event.PoolClosed (record { address = a })) e.address rules
event_gives (event.ConnectionCreated e) types rules = connection_gives (λ a c. event.ConnectionCreated (record { address = a; connection_id = c })) e.address e.connection_id rules types
event_gives (event.ConnectionReady e) types rules =
    timed_gives (λ a c m. event.ConnectionReady (record { address = a; connection_id = c; duration = m })) e.address e.connection_id e.duration rules types.0 types.1
event_gives (event.ConnectionClosed e) types rules = closed_gives e.address e.connection_id e.reason e.service_id rules types.0 types.1
event_gives (event.ConnectionCheckoutStarted e) types rules = place_gives (λ a. event.ConnectionCheckoutStarted (record { address = a })) e.address rules
event_gives (event.ConnectionCheckoutFailed e) types rules = failed_gives e.address e.reason e.duration rules types
event_gives (event.ConnectionCheckedOut e) types rules =
    timed_gives (λ a c m. event.ConnectionCheckedOut (record { address = a; connection_id = c; duration = m })) e.address e.connection_id e.duration rules types.0 types.1
event_gives (event.ConnectionCheckedIn e) types rules = connection_gives (λ a c. event.ConnectionCheckedIn (record { address = a; connection_id = c })) e.address e.connection_id rules types

pub event_same : (d e : CmapEvent) → IsEventOfTypes d → IsEventOfTypes e → is_event d ≡ true → is_event e ≡ true → event_text d ≡ event_text e → d ≡ e
event_same d e td te hd he same = event_read e (Ok d) te he (subst (λ (t : List ℕ). ReadsNamed t (Ok d)) same (event_gives d td hd))
