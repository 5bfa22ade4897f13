-- Texts of events of pools have printable bytes alone.
use Rattle.std.proofs.Common.{◌≡◌, ℕ, ◌<◌, ◌^◌, Bool, true, false, List, ◌++◌, Option, Some, None, IfSome, refl, decimal, codes}
use Rattle.mdb_base.specs.AddressRule.{is_address}
use Rattle.mdb_base.specs.Spelling.{address}
use Rattle.mdb_base.specs.declared.address.ServerAddress.{ServerAddress}
use Rattle.mdb_base.specs.declared.object_id.ObjectId.{ObjectId}
use Rattle.mdb_events.specs.EventText.{options_or_dash, event_text}
use Rattle.mdb_events.specs.Words.{number_or_dash, service_or_dash, truth, closed_word, failed_word}
use Rattle.mdb_events.specs.declared.cmap.ConnectionPoolOptions.{ConnectionPoolOptions}
use Rattle.mdb_events.specs.declared.cmap.CmapEvent.{CmapEvent}
use Rattle.mdb_events.specs.declared.cmap.CmapEvent.TheVariants as event
use Rattle.mdb_events.specs.declared.reasons.ConnectionClosedReason.{ConnectionClosedReason}
use Rattle.mdb_events.specs.declared.reasons.ConnectionClosedReason.TheVariants as closed
use Rattle.mdb_events.specs.declared.reasons.ConnectionCheckoutFailedReason.{ConnectionCheckoutFailedReason}
use Rattle.mdb_events.specs.declared.reasons.ConnectionCheckoutFailedReason.TheVariants as failed
use Rattle.mdb_parts.specs.Types.{IsIdOfTypes}
use Rattle.mdb_event_reading.specs.EventTypes.{is_event, AreSizesOfTypes, IsEventOfTypes}
use Rattle.mdb_event_reading.proofs.PrintLemmas.{prints, both_print, decimal_prints, narrow_prints, address_prints, id_prints}

pub service_prints : (o : Option ObjectId) → IfSome o IsIdOfTypes → prints (service_or_dash o) ≡ true
service_prints None h = refl
service_prints (Some id) h = id_prints id h

sizes_print : (o : Option ConnectionPoolOptions) → IfSome o AreSizesOfTypes → prints (options_or_dash o) ≡ true
sizes_print None types = refl
sizes_print (Some o) types =
    let idle = codes " idle=" ++ number_or_dash o.max_idle_time in
    let min = codes " min=" ++ (number_or_dash o.min_pool_size ++ idle) in
    both_print (number_or_dash o.max_pool_size) min (narrow o.max_pool_size types.max)
    (both_print (number_or_dash o.min_pool_size) idle (narrow o.min_pool_size types.min) (wide o.max_idle_time types.idle))
  where
    narrow : (n : Option ℕ) → IfSome n (λ k. k < 2 ^ 32) → prints (number_or_dash n) ≡ true
    narrow None h = refl
    narrow (Some n) h = narrow_prints n h

    wide : (n : Option ℕ) → IfSome n (λ k. k < 2 ^ 64) → prints (number_or_dash n) ≡ true
    wide None h = refl
    wide (Some n) h = decimal_prints n h

pub truth_prints : (b : Bool) → prints (truth b) ≡ true
truth_prints true = refl
truth_prints false = refl

closed_prints : (r : ConnectionClosedReason) → prints (closed_word r) ≡ true
closed_prints closed.Stale = refl
closed_prints closed.Idle = refl
closed_prints closed.Error = refl
closed_prints closed.Dropped = refl
closed_prints closed.PoolClosed = refl

failed_prints : (r : ConnectionCheckoutFailedReason) → prints (failed_word r) ≡ true
failed_prints failed.Timeout = refl
failed_prints failed.ConnectionError = refl

-- an address and what follows it
pub placed_prints : (a : ServerAddress) (rest : List ℕ) → is_address a ≡ true → prints rest ≡ true → prints (address a ++ rest) ≡ true
placed_prints a rest h l = both_print (address a) rest (address_prints a h) l

-- a connection, and milliseconds
timed_prints : (c m : ℕ) → c < 2 ^ 32 → m < 2 ^ 64 → prints (decimal c ++ (codes " " ++ decimal m)) ≡ true
timed_prints c m lc lm = both_print (decimal c) (codes " " ++ decimal m) (narrow_prints c lc) (decimal_prints m lm)

pub event_prints : (e : CmapEvent) → IsEventOfTypes e → is_event e ≡ true → prints (event_text e) ≡ true
event_prints (event.PoolCreated e) types h = placed_prints e.address (codes " " ++ options_or_dash e.options) h (sizes_print e.options types)
event_prints (event.PoolReady e) types h = address_prints e.address h
event_prints (event.PoolCleared e) types h =
    let interrupt = codes " interrupt=" ++ truth e.interrupt_in_use_connections in
    placed_prints e.address (codes " service=" ++ (service_or_dash e.service_id ++ interrupt)) h
    (both_print (service_or_dash e.service_id) interrupt (service_prints e.service_id types) (truth_prints e.interrupt_in_use_connections))
event_prints (event.PoolClosed e) types h = address_prints e.address h
event_prints (event.ConnectionCreated e) types h = placed_prints e.address (codes " " ++ decimal e.connection_id) h (narrow_prints e.connection_id types)
event_prints (event.ConnectionReady e) types h =
    placed_prints e.address (codes " " ++ (decimal e.connection_id ++ (codes " " ++ decimal e.duration))) h (timed_prints e.connection_id e.duration types.0 types.1)
event_prints (event.ConnectionClosed e) types h =
    let service = codes " service=" ++ service_or_dash e.service_id in
    let reason = codes " " ++ (closed_word e.reason ++ service) in
    placed_prints e.address (codes " " ++ (decimal e.connection_id ++ reason)) h
    (both_print (decimal e.connection_id) reason (narrow_prints e.connection_id types.0)
    (both_print (closed_word e.reason) service (closed_prints e.reason) (service_prints e.service_id types.1)))
event_prints (event.ConnectionCheckoutStarted e) types h = address_prints e.address h
event_prints (event.ConnectionCheckoutFailed e) types h =
    let duration = codes " " ++ decimal e.duration in
    placed_prints e.address (codes " " ++ (failed_word e.reason ++ duration)) h
    (both_print (failed_word e.reason) duration (failed_prints e.reason) (decimal_prints e.duration types))
event_prints (event.ConnectionCheckedOut e) types h =
    placed_prints e.address (codes " " ++ (decimal e.connection_id ++ (codes " " ++ decimal e.duration))) h (timed_prints e.connection_id e.duration types.0 types.1)
event_prints (event.ConnectionCheckedIn e) types h = placed_prints e.address (codes " " ++ decimal e.connection_id) h (narrow_prints e.connection_id types)
