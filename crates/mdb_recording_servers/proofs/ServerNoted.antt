-- What is kept stands for one event more.
use Rattle.std.proofs.Common.{ℕ, ◌+◌, ◌-◌, ◌≡◌, ◌==◌, Bool, true, false, if◌then◌else◌, List, ◌∷◌, Option, Some, None, refl, sym, ap, ◌∙◌, arith}
use Rattle.mdb_recording_servers.specs.ServerEvents.{server_of_event}
use Rattle.mdb_recording_servers.specs.ServerLives.{server_of, server_named, topology_of}
use Rattle.mdb_recording_servers.specs.ServerRules.{known_of}
use Rattle.mdb_recording_servers.specs.ServerStanding.{StandsFor}
use Rattle.mdb_recording_servers.specs.ServerSteps.{server_after, topology_after}
use Rattle.mdb_recording_servers.specs.ServerTables.{server_at, SetsServer}
use Rattle.mdb_recording_servers.specs.declared.event.Seen.{Seen}
use Rattle.mdb_recording_servers.specs.declared.event.ServerEvent.{ServerEvent}
use Rattle.mdb_recording_servers.specs.declared.event.ServerEvent.TheVariants as events
use Rattle.mdb_recording_servers.specs.declared.event.ServerKind.{ServerKind}
use Rattle.mdb_recording_servers.specs.declared.event.ServerKind.TheVariants as kinds
use Rattle.mdb_recording_servers.specs.declared.event.ServerTold.{ServerTold}
use Rattle.mdb_recording_servers.specs.declared.event.ServerTold.TheVariants as told
use Rattle.mdb_recording_servers.specs.declared.judge.ServerJudge.{ServerJudge}
use Rattle.mdb_recording_servers.specs.declared.known.Known.{Known}
use Rattle.mdb_recording_servers.specs.declared.server.Server.{Server}
use Rattle.mdb_recording_servers.specs.declared.server_lines.ServerLines.{ServerLines}

same : (q p : ℕ) → (q == p) ≡ true → q ≡ p
same q p e = grind arith

-- an event on the line n
abbrev seen : ℕ → ServerEvent → Seen
seen n e = record { line = n; event = e }

abbrev made : Bool → Bool → ℕ → Option ServerKind → ServerLines → Server
made a b n k x = record { is_open = a; is_checked = b; checks = n; kind = k; lines = x }

-- the lines of a server after an event on the line n of the one with that number, by whether it is the same
abbrev step_lines : Bool → ServerTold → ℕ → ServerLines → ServerLines
step_lines b told.Opened n x = record x { opened = if b then Some n else x.opened; kind_told = if b then Some n else x.kind_told }
step_lines b told.Closed n x = record x { closed = if b then Some n else x.closed; kind_told = if b then Some n else x.kind_told }
step_lines b (told.Changed from to) n x = record x { kind_told = if b then Some n else x.kind_told }
step_lines b told.CheckStarted n x = record x { check_started = if b then Some n else x.check_started }
step_lines b told.CheckEnded n x = record x { check_ended = if b then Some n else x.check_ended }

-- the server after it
abbrev step : Bool → ServerTold → ℕ → Server → Server
step b told.Opened n x = made (if b then true else x.is_open) (if b then false else x.is_checked) x.checks (if b then Some kinds.Unknown else x.kind) (step_lines b told.Opened n x.lines)
step b told.Closed n x = made (if b then false else x.is_open) x.is_checked x.checks (if b then None else x.kind) (step_lines b told.Closed n x.lines)
step b (told.Changed from to) n x = made x.is_open x.is_checked x.checks (if b then to else x.kind) (step_lines b (told.Changed from to) n x.lines)
step b told.CheckStarted n x = made x.is_open (if b then true else x.is_checked) (if b then 1 + x.checks else x.checks) x.kind (step_lines b told.CheckStarted n x.lines)
step b told.CheckEnded n x = made x.is_open (if b then false else x.is_checked) (if b then x.checks - 1 else x.checks) x.kind (step_lines b told.CheckEnded n x.lines)

stepped : (b : Bool) (t : ServerTold) (n : ℕ) (x : Server) → step b t n x ≡ if b then server_after t n x else x
stepped true told.Opened n x = refl
stepped true told.Closed n x = refl
stepped true (told.Changed from to) n x = refl
stepped true told.CheckStarted n x = refl
stepped true told.CheckEnded n x = refl
stepped false told.Opened n x = refl
stepped false told.Closed n x = refl
stepped false (told.Changed from to) n x = refl
stepped false told.CheckStarted n x = refl
stepped false told.CheckEnded n x = refl

told-step : (p : ℕ) (t : ServerTold) (n : ℕ) (h : List Seen) (s : ℕ) → server_of s (seen n (events.Server p t) ∷ h) ≡ step (p == s) t n (server_of s h)
told-step p told.Opened n h s = refl
told-step p told.Closed n h s = refl
told-step p (told.Changed from to) n h s = refl
told-step p told.CheckStarted n h s = refl
told-step p told.CheckEnded n h s = refl

-- what one event more tells of a server
server-step : (p : ℕ) (t : ServerTold) (n : ℕ) (h : List Seen) (s : ℕ) → server_of s (seen n (events.Server p t) ∷ h) ≡ if p == s then server_after t n (server_of s h) else server_of s h
server-step p t n h s = told-step p t n h s ∙ stepped (p == s) t n (server_of s h)

-- what it tells of the topology
topology-step : (e : ServerEvent) (n : ℕ) (h : List Seen) → topology_of (seen n e ∷ h) ≡ topology_after e n (topology_of h)
topology-step (events.Server s told.Opened) n h = refl
topology-step (events.Server s told.Closed) n h = refl
topology-step (events.Server s (told.Changed from to)) n h = refl
topology-step (events.Server s told.CheckStarted) n h = refl
topology-step (events.Server s told.CheckEnded) n h = refl
topology-step events.TopologyOpened n h = refl
topology-step events.TopologyChanged n h = refl
topology-step events.TopologyClosed n h = refl

servers-step : (e : ServerEvent) (n : ℕ) (h : List Seen) (x : Server) (old new : ServerJudge) → x ≡ server_named (server_of_event e) h → StandsFor h old → SetsServer e n x old.servers new.servers → (s : ℕ) → server_at new.servers s ≡ server_of s (seen n e ∷ h)
servers-step (events.Server p t) n h x old new known stands sets s = sets s ∙ go (p == s) refl ∙ sym (server-step p t n h s)
  where
    go : (b : Bool) → (p == s) ≡ b → (if b then server_after t n x else server_at old.servers s) ≡ if b then server_after t n (server_of s h) else server_of s h
    go true u = ap (server_after t n) known ∙ ap (λ k. server_after t n (server_of k h)) (same p s u)
    go false u = stands.servers s
servers-step events.TopologyOpened n h x old new known stands sets s = ap (λ t. server_at t s) sets ∙ stands.servers s
servers-step events.TopologyChanged n h x old new known stands sets s = ap (λ t. server_at t s) sets ∙ stands.servers s
servers-step events.TopologyClosed n h x old new known stands sets s = ap (λ t. server_at t s) sets ∙ stands.servers s

-- what is kept stands for the event too
pub noted : (e : Seen) (k : Known) (h : List Seen) (old new : ServerJudge) → StandsFor h old → k ≡ known_of h e.event → SetsServer e.event e.line k.server old.servers new.servers → new.topology ≡ topology_after e.event e.line k.topology → StandsFor (e ∷ h) new
noted e k h old new stands known sets changes = record {
  servers = servers-step e.event e.line h k.server old new (ap (λ x. x.server) known) stands sets;
  topology = changes ∙ ap (λ x. topology_after e.event e.line x.topology) known ∙ sym (topology-step e.event e.line h);
}
