-- What was done at one monitor, newest first, and what it knows from that.
use Rattle.std.specs.Prelude.{ℕ, Bool, true, false, not, ◌&&◌, Option, Some, None, is_some, is_none, List, [], ◌∷◌}
use Rattle.mdb_base.specs.declared.topology_version.TopologyVersion.{TopologyVersion}
use Rattle.mdb_hello.specs.declared.response.HelloReply.{HelloReply}
use Rattle.mdb_monitor.specs.declared.knowledge.Connection.{Connection}
use Rattle.mdb_monitor.specs.declared.check.CheckResult.{CheckResult}
use Rattle.mdb_monitor.specs.declared.check.CheckResult.TheVariants.{Ok, Err, Cancelled}

pub data MonitorItem : Type 0 where
  -- a check began, with a fresh number for the connection that it may make
  began : ℕ → MonitorItem
  -- the check that ran ended after so many nanoseconds
  ended : ℕ → CheckResult → MonitorItem
  -- a round trip was measured beside the checks
  measured : ℕ → MonitorItem

-- what came since the last failure or cancellation
abbrev pub since : List MonitorItem → List MonitorItem
since [] = []
since (ended duration (Err error) ∷ h) = []
since (ended duration (Cancelled error) ∷ h) = []
since (x ∷ h) = x ∷ since h

-- the last check that began did not end
abbrev pub is_running : List MonitorItem → Bool
is_running [] = false
is_running (began fresh ∷ xs) = true
is_running (ended duration result ∷ xs) = false
is_running (measured sample ∷ xs) = is_running xs

-- the fresh number that the last check was given
abbrev pub fresh_of : List MonitorItem → ℕ
fresh_of [] = 0
fresh_of (began fresh ∷ xs) = fresh
fresh_of (ended duration result ∷ xs) = fresh_of xs
fresh_of (measured sample ∷ xs) = fresh_of xs

-- the version in the last reply
abbrev pub version_of : List MonitorItem → Option TopologyVersion
version_of [] = None
version_of (ended duration (Ok reply more) ∷ xs) = reply.command_response.topology_version
version_of (_ ∷ xs) = version_of xs

-- the last reply said that more come
abbrev pub more_follows : List MonitorItem → Bool
more_follows [] = false
more_follows (ended duration (Ok reply more) ∷ xs) = more
more_follows (_ ∷ xs) = more_follows xs

-- the connection that there is; a check that succeeds without one made it, and its reply has the server's number
abbrev pub connection_with : Option Connection → ℕ → HelloReply → Connection
connection_with (Some known) fresh reply = known
connection_with None fresh reply = record { driver_id = fresh; server_id = reply.command_response.connection_id }

-- the connection that the first check that succeeded made
abbrev pub connection_of : List MonitorItem → Option Connection
connection_of [] = None
connection_of (ended duration (Ok reply more) ∷ xs) = Some (connection_with (connection_of xs) (fresh_of xs) reply)
connection_of (_ ∷ xs) = connection_of xs

-- the server is asked to answer when something changes: a version is known, and streaming is allowed
abbrev pub awaits : Bool → Option TopologyVersion → Bool
awaits streaming version = is_some version && streaming

-- the duration is a sample, where the test holds
abbrev pub sampled_if : Bool → ℕ → List ℕ → List ℕ
sampled_if true duration samples = duration ∷ samples
sampled_if false duration samples = samples

-- the samples, the newest first: a check that connected is one; then every check that was not awaited is one; and what was measured beside the checks
abbrev pub samples : Bool → List MonitorItem → List ℕ
samples streaming [] = []
samples streaming (measured sample ∷ xs) = sample ∷ samples streaming xs
samples streaming (ended duration (Ok reply more) ∷ xs) = sampled_if (not (awaits streaming (version_of xs))) duration (sampled_if (is_none (connection_of xs)) duration (samples streaming xs))
samples streaming (_ ∷ xs) = samples streaming xs
