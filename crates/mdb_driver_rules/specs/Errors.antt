-- What errors mark and clear, and what the monitor of the server is asked.
use Rattle.std.specs.Prelude.{ℕ, ℤ, pos, int_lt, Bool, true, false, not, ◌&&◌, ◌||◌, if◌then◌else◌, List, [], ◌∷◌, codes, Option, Some, None, unwrap_or}
use Rattle.mdb_base.specs.declared.address.ServerAddress.{ServerAddress}
use Rattle.mdb_base.specs.declared.object_id.ObjectId.{ObjectId}
use Rattle.mdb_base.specs.declared.options.Options.{Options}
use Rattle.mdb_base.specs.declared.error.Error.{Error}
use Rattle.mdb_base.specs.Errors.{is_plain_network, is_auth, is_state_change, is_shutting_down, has_label}
use Rattle.mdb_describe.specs.declared.topology.TopologyDescription.{TopologyDescription}
use Rattle.mdb_events.specs.declared.fact.Fact.{Fact}
use Rattle.mdb_events.specs.declared.fact.Fact.TheVariants.{CheckNow, Cancel}
use Rattle.mdb_log.specs.declared.step.Act.{Act}
use Rattle.mdb_log.specs.declared.step.Act.TheVariants as Do
use Rattle.mdb_log.specs.declared.checked.HelloResult.TheVariants as Hello
use Rattle.mdb_log.specs.declared.checked.BeatenResult.TheVariants as Beaten
use Rattle.mdb_log.specs.History.{Item, of_pool}
use Rattle.mdb_log.specs.Connections.{service_of, wire_of}
use Rattle.mdb_driver_rules.specs.Homes.{is_here}
use Rattle.mdb_driver_rules.specs.Current.{Phase, establishing, operating, Complaint, complaint_of, is_current}

-- The rows of the table of errors that mark or clear.
pub data Case : Type 0 where
  -- a hello or a check of the open pool met it
  monitored : Case
  -- it is current, and says that the server's state changed
  state_change : Case
  -- it is current, and the connection is lost
  lost : Case

abbrev pub is_handshake : Phase → Bool
is_handshake (establishing at) = true
is_handshake operating = false

-- a broken connection, or one that failed to be established, where the server does not say that it is overloaded
abbrev pub is_loss : Phase → Error → Bool
is_loss phase e = (is_plain_network e.kind || is_handshake phase) && not (has_label e (codes "SystemOverloadedError"))

abbrev pub case_of : Phase → Error → Option Case
case_of phase e = if is_state_change e.kind then Some state_change else (if is_loss phase e then Some lost else None)

-- Which part of a pool is cleared.
pub data Clear : Type 0 where
  nothing : Clear
  whole : Clear
  only : ObjectId → Clear

abbrev pub where_so : Bool → Clear → Clear
where_so b clear = if b then clear else nothing

-- the service, where there is one
abbrev pub for_service : Option ObjectId → Clear
for_service None = nothing
for_service (Some s) = only s

-- whether the server becomes Unknown, without and with load balancing
abbrev pub marks : Bool → Case → Bool
marks balanced monitored = true
marks balanced state_change = not balanced
marks balanced lost = not balanced

-- What is cleared, without and with load balancing: by whether the description changed, whether the error is of a server that shuts down or has a wire version below 8, and the connection's service.
abbrev pub clears : Bool → Case → Bool → Bool → Option ObjectId → Clear
clears false monitored changed hard s = where_so changed whole
clears false state_change changed hard s = where_so (changed && hard) whole
clears false lost changed hard s = where_so changed whole
clears true monitored changed hard s = nothing
clears true state_change changed hard s = where_so hard (for_service s)
clears true lost changed hard s = for_service s

-- What the monitor of the address is asked: a check now after a state change, and to cancel its check after a clear by a loss that is none of authentication.
abbrev pub asks : Bool → Case → Error → Clear → ServerAddress → List Fact
asks false state_change e clear a = CheckNow a ∷ []
asks false lost e whole a = if is_auth e.kind then [] else (Cancel a ∷ [])
asks _ _ e clear a = []

-- An error that has a row: of which pool, and what its row reads; the wire version is 0 where the connection was not established.
pub record Trouble : Type 0 where
  pub row : Case
  pub pool : ℕ
  pub address : ServerAddress
  pub error : Error
  pub wire : ℤ
  pub service : Option ObjectId

-- the server shuts down, or its wire version is below 8
abbrev pub is_hard : Trouble → Bool
is_hard x = is_shutting_down x.error.kind || int_lt x.wire (pos 8)

abbrev pub monitor_trouble : List Item → ServerAddress → ℕ → Error → Option Trouble
monitor_trouble k a p e = if is_here k a p then Some (record { row = monitored; pool = p; address = a; error = e; wire = pos 0; service = None }) else None

abbrev pub current_trouble : List Item → Complaint → Option Case → Option Trouble
current_trouble k x None = None
current_trouble k x (Some row) = Some (record { row = row; pool = x.pool; address = x.address; error = x.error; wire = unwrap_or (wire_of (of_pool x.pool k) x.connection) (pos 0); service = service_of (of_pool x.pool k) x.connection })

abbrev pub complaint_trouble : Options → List Item → TopologyDescription → Option Complaint → Option Trouble
complaint_trouble o k t None = None
complaint_trouble o k t (Some x) = if is_current o k t x then current_trouble k x (case_of x.phase x.error) else None

-- The trouble that an act tells of, None where it tells of none that counts; k is the history with the act, and t what was known before it.
abbrev pub trouble_of : Options → List Item → TopologyDescription → Act → Option Trouble
trouble_of o k t (Do.Hello a p (Hello.Err e)) = monitor_trouble k a p e
trouble_of o k t (Do.Beaten a p duration (Beaten.Err e)) = monitor_trouble k a p e
trouble_of o k t act = complaint_trouble o k t (complaint_of k act)
