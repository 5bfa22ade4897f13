-- What the monitor of a pool knows, read off the checks and round trips of that pool, and what its checks make known.
use Rattle.std.specs.Prelude.{ℕ, ◌+◌, ◌&&◌, ◌==◌, Bool, true, false, not, if◌then◌else◌, List, [], ◌∷◌, length, None, unwrap_or}
use Rattle.mdb_base.specs.declared.address.ServerAddress.{ServerAddress}
use Rattle.mdb_base.specs.declared.options.Options.{Options}
use Rattle.mdb_hello.specs.declared.response.HelloCommandResponse.{HelloCommandResponse}
use Rattle.mdb_hello.specs.declared.response.HelloReply.{HelloReply}
use Rattle.mdb_events.specs.declared.fact.Fact.{Fact}
use Rattle.mdb_events.specs.declared.fact.Fact.TheVariants.{Sdam}
use Rattle.mdb_events.specs.declared.sdam.SdamEvent.{SdamEvent}
use Rattle.mdb_monitor.specs.declared.monitor.Setting.{Setting}
use Rattle.mdb_monitor.specs.declared.check.CheckResult.{CheckResult}
use Rattle.mdb_monitor.specs.declared.check.CheckResult.TheVariants as Check
use Rattle.mdb_monitor.specs.Asking.{wanted, unwanted}
use Rattle.mdb_monitor.specs.Average.{mean}
use Rattle.mdb_monitor.specs.Items.{MonitorItem, began, ended, measured, since, is_running, fresh_of, version_of, connection_of, samples}
use Rattle.mdb_monitor.specs.Beginnings.{begin_row}
use Rattle.mdb_monitor.specs.Endings.{event_of}
use Rattle.mdb_log.specs.declared.checked.BeatenResult.{BeatenResult}
use Rattle.mdb_log.specs.declared.checked.BeatenResult.TheVariants.{Ok, Err, Cancelled}
use Rattle.mdb_log.specs.declared.step.Act.{Act}
use Rattle.mdb_log.specs.declared.step.Act.TheVariants.{Beat, Beaten, Rtt, Want, Unwant}
use Rattle.mdb_log.specs.History.{Item, did, made}
use Rattle.mdb_log.specs.Connections.{one_if}
use Rattle.mdb_driver_rules.specs.Homes.{is_here}

-- the reply of a step, which has no document and no time of the cluster
abbrev pub hello_reply : ServerAddress → HelloCommandResponse → HelloReply
hello_reply a r = record { server_address = a; command_response = r; raw_command_response = []; cluster_time = None }

abbrev pub check_result : ServerAddress → BeatenResult → CheckResult
check_result a (Ok r more) = Check.Ok (hello_reply a r) more
check_result a (Err error) = Check.Err error
check_result a (Cancelled error) = Check.Cancelled error

-- An act that names a pool is of that pool only where it is the open one of the address.
abbrev pub is_of : List Item → ℕ → ServerAddress → ℕ → Bool
is_of h p a q = is_here h a q && (q == p)

abbrev pub has_reply : BeatenResult → Bool
has_reply (Ok r more) = true
has_reply (Err error) = false
has_reply (Cancelled error) = false

-- The monitor has a connection: a check succeeded since its last failure or cancellation.
abbrev pub connected_after : (ServerAddress → ℕ → Bool) → Act → Bool → Bool
connected_after own (Beaten a q duration came) known = if own a q then has_reply came else known
connected_after own _ known = known

abbrev pub is_connected : List Item → ℕ → Bool
is_connected [] p = false
is_connected (did step reply ∷ h) p = connected_after (is_of h p) step.act (is_connected h p)
is_connected (made m fact ∷ h) p = is_connected h p

-- The act begins a check that connects.
abbrev pub connects : List Item → Act → Bool
connects h (Beat a q) = not (is_connected h q)
connects h _ = false

-- How many checks began so far that connected: the fresh number of the next connection.
abbrev pub fresh : List Item → ℕ
fresh [] = 0
fresh (did step reply ∷ h) = fresh h + one_if (connects h step.act)
fresh (made m fact ∷ h) = fresh h

-- the number of the connection that a check makes; a check over a connection needs none
abbrev pub fresh_for : List Item → ℕ → ℕ
fresh_for h p = if is_connected h p then 0 else fresh h

-- with what the act does there
abbrev pub with_check : (ServerAddress → ℕ → Bool) → ℕ → Act → List MonitorItem → List MonitorItem
with_check own n (Beat a q) xs = if own a q then began n ∷ xs else xs
with_check own n (Beaten a q duration came) xs = if own a q then ended duration (check_result a came) ∷ xs else xs
with_check own n (Rtt a q sample) xs = if own a q then measured sample ∷ xs else xs
with_check own n _ xs = xs

-- what was done at the monitor of a pool
abbrev pub monitor_items : List Item → ℕ → List MonitorItem
monitor_items [] p = []
monitor_items (did step reply ∷ h) p = with_check (is_of h p) (fresh_for h p) step.act (monitor_items h p)
monitor_items (made m fact ∷ h) p = monitor_items h p

-- the last check that began did not end
abbrev pub runs : List Item → ℕ → Bool
runs h p = is_running (monitor_items h p)

-- what it goes by is what came since its last failure or cancellation
abbrev pub recent : List Item → ℕ → List MonitorItem
recent h p = since (monitor_items h p)

-- Servers are asked to answer when something changes, where the options do not say otherwise.
abbrev pub streams : Options → Bool
streams o = unwrap_or o.streaming true

-- how a server is monitored: where the options name no time, every 10 seconds, over a connection that is made within 10 seconds
abbrev pub setting : Options → ServerAddress → Setting
setting o a = record { address = a; allow_streaming = streams o; heartbeat = unwrap_or o.heartbeat 10000; connect = unwrap_or o.connect 10000 }

-- the average round trip of the pool's server
abbrev pub average : Options → List Item → ℕ → ℕ
average o h p = mean (samples (streams o) (recent h p))

-- the event of a check that begins
abbrev pub begin_event : Options → List Item → ServerAddress → ℕ → SdamEvent
begin_event o h a p = (begin_row (setting o a) (recent h p) (fresh_for h p)).event

-- the event of a check that ended
abbrev pub end_event : Options → List MonitorItem → ServerAddress → ℕ → BeatenResult → SdamEvent
end_event o xs a duration came = event_of (setting o a) (connection_of xs) (version_of xs) (fresh_of xs) duration (check_result a came)

-- The fact of a check that begins or ends, after the history before it.
abbrev pub heartbeat : Options → List Item → Act → List Fact
heartbeat o h (Beat a p) = Sdam (begin_event o h a p) ∷ []
heartbeat o h (Beaten a p duration came) = if is_here h a p then (Sdam (end_event o (recent h p) a duration came) ∷ []) else []
heartbeat o h _ = []

-- the watchers who ask for a check now
abbrev pub asking : Act → List ℕ → List ℕ
asking (Want w) watchers = wanted w watchers
asking (Unwant w) watchers = unwanted w watchers
asking _ watchers = watchers

abbrev pub watchers_of : List Item → List ℕ
watchers_of [] = []
watchers_of (did step reply ∷ h) = asking step.act (watchers_of h)
watchers_of (made m fact ∷ h) = watchers_of h

-- how many they are
abbrev pub check_count : List Item → ℕ
check_count h = length (watchers_of h)
