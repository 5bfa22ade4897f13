-- No text of an event or of an end has a bar.
use Rattle.std.proofs.Common.{◌≡◌, ℕ, suc, ◌<◌, ◌≤◌, ◌^◌, ◌&&◌, Bool, true, false, eqb, leb, List, [], ◌∷◌, ◌++◌, length, Option, Some, None, IfSome, refl, arith, inl, inr, decimal, codes, flat_map, ℤ, pos, negsuc, FitsSigned}
use Rattle.std.specs.Int.{w64}
use Rattle.std.specs.List.{list_all}
use Rattle.std.specs.Fmt.{signed_decimal}
use Rattle.std.specs.Str.Parse.{AllDigits}
use Rattle.std.proofs.lemmas.Str.Parse.{digit_from_value}
use Rattle.std.proofs.lemmas.Fmt.{decimal_is_IsNumeral}
use Rattle.std.proofs.lemmas.Bool.{ne_eqb, cases_Bool, leb-true, and_parts, and_from, or_cases}
use Rattle.mdb_base.specs.AddressRule.{is_name_byte, is_v6_byte, is_name_host, is_v6_host, is_host, is_address}
use Rattle.mdb_base.specs.ErrorText.{kind_text, labels_text, version_part, error_text}
use Rattle.mdb_base.specs.Spelling.{address, has_colon, object_id}
use Rattle.mdb_base.specs.declared.address.ServerAddress.{ServerAddress}
use Rattle.mdb_base.specs.declared.error.Error.{Error}
use Rattle.mdb_base.specs.declared.error.ErrorKind.{ErrorKind}
use Rattle.mdb_base.specs.declared.error.ErrorKind.TheVariants as kind
use Rattle.mdb_base.specs.declared.object_id.ObjectId.{ObjectId}
use Rattle.mdb_base.specs.declared.topology_version.TopologyVersion.{TopologyVersion}
use Rattle.mdb_base.proofs.AddressAgain.{lacks_by}
use Rattle.mdb_events.specs.EventText.{options_or_dash, event_text}
use Rattle.mdb_events.specs.FactText.{end_text}
use Rattle.mdb_events.specs.Words.{number_or_dash, service_or_dash, truth, closed_word, failed_word}
use Rattle.mdb_events.specs.declared.cmap.ConnectionPoolOptions.{ConnectionPoolOptions}
use Rattle.mdb_events.specs.declared.cmap.CmapEvent.{CmapEvent}
use Rattle.mdb_events.specs.declared.cmap.CmapEvent.TheVariants as event
use Rattle.mdb_events.specs.declared.end.End.{End}
use Rattle.mdb_events.specs.declared.end.End.TheVariants as end
use Rattle.mdb_events.specs.declared.reasons.ConnectionClosedReason.{ConnectionClosedReason}
use Rattle.mdb_events.specs.declared.reasons.ConnectionClosedReason.TheVariants as closed
use Rattle.mdb_events.specs.declared.reasons.ConnectionCheckoutFailedReason.{ConnectionCheckoutFailedReason}
use Rattle.mdb_events.specs.declared.reasons.ConnectionCheckoutFailedReason.TheVariants as failed
use Rattle.mdb_parts.specs.ErrorParts.{is_error, is_kind, are_labels, is_message, is_version, IsVersionOfTypes, IsKindOfTypes, IsErrorOfTypes}
use Rattle.mdb_parts.specs.Reading.{lacks}
use Rattle.mdb_parts.specs.WordRule.{is_word, keeps}
use Rattle.mdb_parts.proofs.AddressLemmas.{id_lacks_byte}
use Rattle.mdb_parts.proofs.CommaLemmas.{lacks_append}
use Rattle.mdb_parts.proofs.ErrorLemmas.{label_rule}
use Rattle.mdb_parts.proofs.WordLemmas.{word_lacks}
use Rattle.mdb_event_reading.specs.EndForms.{is_end, IsEndOfTypes}
use Rattle.mdb_event_reading.specs.EventTypes.{is_event, AreSizesOfTypes, IsEventOfTypes}

-- texts one behind the other
both : (xs ys : List ℕ) → lacks 124 xs ≡ true → lacks 124 ys ≡ true → lacks 124 (xs ++ ys) ≡ true
both = lacks_append 124

-- numbers

digits_no_bar : (ds : List ℕ) → AllDigits 10 ds → lacks 124 ds ≡ true
digits_no_bar [] h = refl
digits_no_bar (d ∷ ds) h =
    let range = digit_from_value d h.0 in
    let other : eqb d 124 ≡ false = ne_eqb d 124 (λ e. omega (arith, range.1)) in
    and_from _ _ (rw other refl) (digits_no_bar ds h.1)

pub decimal_no_bar : (n : ℕ) → n < 2 ^ 64 → lacks 124 (decimal n) ≡ true
decimal_no_bar n lt = digits_no_bar (decimal n) (decimal_is_IsNumeral n lt).0.1

pub narrow_no_bar : (n : ℕ) → n < 2 ^ 32 → lacks 124 (decimal n) ≡ true
narrow_no_bar n lt = decimal_no_bar n (omega arith)

pub signed_no_bar : (z : ℤ) → FitsSigned w64 z → lacks 124 (signed_decimal z) ≡ true
signed_no_bar (pos n) fits = decimal_no_bar n (omega (arith, fits))
signed_no_bar (negsuc n) fits = decimal_no_bar (suc n) (omega (arith, fits))

-- addresses and ids

host_no_bar : (host : List ℕ) → is_host host ≡ true → lacks 124 host ≡ true
unfolding is_name_host is_v6_host
host_no_bar host h = elim (or_cases (is_name_host host) (is_v6_host host) h) [
  | inl n ↦ (let p = and_parts (leb 1 (length host)) (leb (length host) 255 && list_all is_name_byte host) n in
      lacks_by is_name_byte 124 refl host (and_parts (leb (length host) 255) (list_all is_name_byte host) p.1).1)
  | inr v ↦ (let p = and_parts (leb 2 (length host)) (leb (length host) 45 && (list_all is_v6_byte host && has_colon host)) v in
      let q = and_parts (leb (length host) 45) (list_all is_v6_byte host && has_colon host) p.1 in
      lacks_by is_v6_byte 124 refl host (and_parts (list_all is_v6_byte host) (has_colon host) q.1).0)
]

pub address_no_bar : (a : ServerAddress) → is_address a ≡ true → lacks 124 (address a) ≡ true
address_no_bar a h =
    let p = and_parts (is_host a.host) (leb 1 a.port && leb a.port 65535) h in
    let le : a.port ≤ 65535 = leb-true a.port 65535 (and_parts (leb 1 a.port) (leb a.port 65535) p.1).1 in
    let host = host_no_bar a.host p.0 in
    let port = decimal_no_bar a.port (omega arith) in
    elim (cases_Bool (has_colon a.host)) [
      | inl some ↦ rw some (both a.host (codes "]:" ++ decimal a.port) host port)
      | inr none ↦ rw none (both a.host (codes ":" ++ decimal a.port) host port)
    ]

pub id_no_bar : (id : ObjectId) → lacks 124 (object_id id) ≡ true
id_no_bar id = id_lacks_byte 124 refl (omega arith) id

pub service_no_bar : (o : Option ObjectId) → lacks 124 (service_or_dash o) ≡ true
service_no_bar None = refl
service_no_bar (Some id) = id_no_bar id

-- errors

kind_no_bar : (k : ErrorKind) → IsKindOfTypes k → lacks 124 (kind_text k) ≡ true
kind_no_bar kind.Network types = refl
kind_no_bar kind.NetworkTimeout types = refl
kind_no_bar kind.Auth types = refl
kind_no_bar kind.IncompatibleServer types = refl
kind_no_bar (kind.Command code) types = let small = types.sfits in signed_no_bar code (record { sfits = omega (arith, small) })
kind_no_bar kind.Other types = refl

more_labels : (labels : List (List ℕ)) → list_all is_word labels ≡ true → lacks 124 (flat_map (λ l. codes "," ++ l) labels) ≡ true
more_labels [] h = refl
more_labels (label ∷ labels) h =
    let p = and_parts (is_word label) (list_all is_word labels) h in
    both label (flat_map (λ l. codes "," ++ l) labels) (word_lacks 124 refl label p.0) (more_labels labels p.1)

labels_no_bar : (labels : List (List ℕ)) → list_all is_word labels ≡ true → lacks 124 (labels_text labels) ≡ true
labels_no_bar [] h = refl
labels_no_bar (label ∷ labels) h =
    let p = and_parts (is_word label) (list_all is_word labels) h in
    both label (flat_map (λ l. codes "," ++ l) labels) (word_lacks 124 refl label p.0) (more_labels labels p.1)

version_no_bar : (o : Option TopologyVersion) → IfSome o IsVersionOfTypes → lacks 124 (version_part o) ≡ true
version_no_bar None types = refl
version_no_bar (Some v) types = both (object_id v.process_id) (codes "." ++ signed_decimal v.counter) (id_no_bar v.process_id) (signed_no_bar v.counter types.counter)

message_no_bar : (e : Error) → is_error e ≡ true → lacks 124 e.message ≡ true
unfolding is_error is_message
message_no_bar e h =
    let p = and_parts (is_kind e.kind) (are_labels e.labels && (keeps is_version e.topology_version && is_message e.message)) h in
    let q = and_parts (are_labels e.labels) (keeps is_version e.topology_version && is_message e.message) p.1 in
    let r = and_parts (keeps is_version e.topology_version) (is_message e.message) q.1 in
    (and_parts (leb (length e.message) 256) (lacks 124 e.message) r.1).1

pub label_words : (e : Error) → is_error e ≡ true → list_all is_word e.labels ≡ true
unfolding is_error
label_words e h =
    let p = and_parts (is_kind e.kind) (are_labels e.labels && (keeps is_version e.topology_version && is_message e.message)) h in
    label_rule e.labels (and_parts (are_labels e.labels) (keeps is_version e.topology_version && is_message e.message) p.1).0

pub error_no_bar : (e : Error) → IsErrorOfTypes e → is_error e ≡ true → lacks 124 (error_text e) ≡ true
error_no_bar e types h =
    let message = codes " msg=" ++ e.message in
    let version = version_part e.topology_version ++ message in
    both (kind_text e.kind) (labels_text e.labels ++ version) (kind_no_bar e.kind types.own)
    (both (labels_text e.labels) version (labels_no_bar e.labels (label_words e h))
    (both (version_part e.topology_version) message (version_no_bar e.topology_version types.version) (message_no_bar e h)))

-- ends

pub end_no_bar : (e : End) → IsEndOfTypes e → is_end e ≡ true → lacks 124 (end_text e) ≡ true
end_no_bar (end.Cleared e) types h = error_no_bar e types h
end_no_bar (end.Failed e) types h = error_no_bar e types h
end_no_bar end.Closed types h = refl
end_no_bar end.Warmed types h = refl
end_no_bar end.Filled types h = refl
end_no_bar end.GaveUp types h = refl
end_no_bar end.TimedOut types h = refl

-- events

sizes_no_bar : (o : Option ConnectionPoolOptions) → IfSome o AreSizesOfTypes → lacks 124 (options_or_dash o) ≡ true
sizes_no_bar None types = refl
sizes_no_bar (Some o) types =
    let idle = codes " idle=" ++ number_or_dash o.max_idle_time in
    let min = codes " min=" ++ (number_or_dash o.min_pool_size ++ idle) in
    both (number_or_dash o.max_pool_size) min (narrow o.max_pool_size types.max)
    (both (number_or_dash o.min_pool_size) idle (narrow o.min_pool_size types.min) (wide o.max_idle_time types.idle))
  where
    narrow : (n : Option ℕ) → IfSome n (λ k. k < 2 ^ 32) → lacks 124 (number_or_dash n) ≡ true
    narrow None h = refl
    narrow (Some n) h = narrow_no_bar n h

    wide : (n : Option ℕ) → IfSome n (λ k. k < 2 ^ 64) → lacks 124 (number_or_dash n) ≡ true
    wide None h = refl
    wide (Some n) h = decimal_no_bar n h

truth_no_bar : (b : Bool) → lacks 124 (truth b) ≡ true
truth_no_bar true = refl
truth_no_bar false = refl

closed_no_bar : (r : ConnectionClosedReason) → lacks 124 (closed_word r) ≡ true
closed_no_bar closed.Stale = refl
closed_no_bar closed.Idle = refl
closed_no_bar closed.Error = refl
closed_no_bar closed.Dropped = refl
closed_no_bar closed.PoolClosed = refl

failed_no_bar : (r : ConnectionCheckoutFailedReason) → lacks 124 (failed_word r) ≡ true
failed_no_bar failed.Timeout = refl
failed_no_bar failed.ConnectionError = refl

-- an address and what follows it
placed : (a : ServerAddress) (rest : List ℕ) → is_address a ≡ true → lacks 124 rest ≡ true → lacks 124 (address a ++ rest) ≡ true
placed a rest h l = both (address a) rest (address_no_bar a h) l

-- a connection, and milliseconds
timed : (c m : ℕ) → c < 2 ^ 32 → m < 2 ^ 64 → lacks 124 (decimal c ++ (codes " " ++ decimal m)) ≡ true
timed c m lc lm = both (decimal c) (codes " " ++ decimal m) (narrow_no_bar c lc) (decimal_no_bar m lm)

pub event_no_bar : (e : CmapEvent) → IsEventOfTypes e → is_event e ≡ true → lacks 124 (event_text e) ≡ true
event_no_bar (event.PoolCreated e) types h = placed e.address (codes " " ++ options_or_dash e.options) h (sizes_no_bar e.options types)
event_no_bar (event.PoolReady e) types h = address_no_bar e.address h
event_no_bar (event.PoolCleared e) types h =
    let interrupt = codes " interrupt=" ++ truth e.interrupt_in_use_connections in
    placed e.address (codes " service=" ++ (service_or_dash e.service_id ++ interrupt)) h
    (both (service_or_dash e.service_id) interrupt (service_no_bar e.service_id) (truth_no_bar e.interrupt_in_use_connections))
event_no_bar (event.PoolClosed e) types h = address_no_bar e.address h
event_no_bar (event.ConnectionCreated e) types h = placed e.address (codes " " ++ decimal e.connection_id) h (narrow_no_bar e.connection_id types)
event_no_bar (event.ConnectionReady e) types h =
    placed e.address (codes " " ++ (decimal e.connection_id ++ (codes " " ++ decimal e.duration))) h (timed e.connection_id e.duration types.0 types.1)
event_no_bar (event.ConnectionClosed e) types h =
    let service = codes " service=" ++ service_or_dash e.service_id in
    let reason = codes " " ++ (closed_word e.reason ++ service) in
    placed e.address (codes " " ++ (decimal e.connection_id ++ reason)) h
    (both (decimal e.connection_id) reason (narrow_no_bar e.connection_id types.0)
    (both (closed_word e.reason) service (closed_no_bar e.reason) (service_no_bar e.service_id)))
event_no_bar (event.ConnectionCheckoutStarted e) types h = address_no_bar e.address h
event_no_bar (event.ConnectionCheckoutFailed e) types h =
    let duration = codes " " ++ decimal e.duration in
    placed e.address (codes " " ++ (failed_word e.reason ++ duration)) h
    (both (failed_word e.reason) duration (failed_no_bar e.reason) (decimal_no_bar e.duration types))
event_no_bar (event.ConnectionCheckedOut e) types h =
    placed e.address (codes " " ++ (decimal e.connection_id ++ (codes " " ++ decimal e.duration))) h (timed e.connection_id e.duration types.0 types.1)
event_no_bar (event.ConnectionCheckedIn e) types h = placed e.address (codes " " ++ decimal e.connection_id) h (narrow_no_bar e.connection_id types)
