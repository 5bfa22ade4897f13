-- Words that texts are made of.
use Rattle.std.specs.Prelude.{ℕ, ℤ, List, codes, decimal, Bool, true, false, Option, Some, None}
use Rattle.std.specs.Fmt.{signed_decimal}
use Rattle.mdb_base.specs.declared.object_id.ObjectId.{ObjectId}
use Rattle.mdb_base.specs.Spelling.{object_id}
use Rattle.mdb_events.specs.declared.reasons.ConnectionClosedReason.{ConnectionClosedReason}
use Rattle.mdb_events.specs.declared.reasons.ConnectionClosedReason.TheVariants.{Stale, Idle, Error, Dropped, PoolClosed}
use Rattle.mdb_events.specs.declared.reasons.ConnectionCheckoutFailedReason.{ConnectionCheckoutFailedReason}
use Rattle.mdb_events.specs.declared.reasons.ConnectionCheckoutFailedReason.TheVariants.{Timeout, ConnectionError}

-- a number, or a dash where there is none
abbrev pub number_or_dash : Option ℕ → List ℕ
number_or_dash None = codes "-"
number_or_dash (Some n) = decimal n

-- a number that may be below zero, or a dash where there is none
abbrev pub signed_or_dash : Option ℤ → List ℕ
signed_or_dash None = codes "-"
signed_or_dash (Some n) = signed_decimal n

-- an id, or a dash where there is none
abbrev pub service_or_dash : Option ObjectId → List ℕ
service_or_dash None = codes "-"
service_or_dash (Some id) = object_id id

abbrev pub truth : Bool → List ℕ
truth true = codes "true"
truth false = codes "false"

abbrev pub closed_word : ConnectionClosedReason → List ℕ
closed_word Stale = codes "Stale"
closed_word Idle = codes "Idle"
closed_word Error = codes "Error"
closed_word Dropped = codes "Dropped"
closed_word PoolClosed = codes "PoolClosed"

abbrev pub failed_word : ConnectionCheckoutFailedReason → List ℕ
failed_word Timeout = codes "Timeout"
failed_word ConnectionError = codes "ConnectionError"

abbrev pub closed_reason : ConnectionClosedReason → List ℕ
closed_reason Stale = codes "Connection became stale because the pool was cleared"
closed_reason Idle = codes "Connection has been available but unused for longer than the configured max idle time"
closed_reason Error = codes "An error occurred while using the connection"
closed_reason Dropped = codes "Connection was dropped during an operation"
closed_reason PoolClosed = codes "Connection pool was closed"

abbrev pub failed_reason : ConnectionCheckoutFailedReason → List ℕ
failed_reason Timeout = codes "Wait queue timeout elapsed without a connection becoming available"
failed_reason ConnectionError = codes "An error occurred while trying to establish a new connection"
