-- Why a step is refused: the first row whose condition holds, and at last a number that its facts would take past a limit.
use Rattle.std.specs.Prelude.{ℕ, ◌+◌, Bool, true, false, not, ◌&&◌, if◌then◌else◌, nat_lt, is_some, List, [], ◌∷◌, length, Option, Some, None, unwrap_or}
use Rattle.mdb_base.specs.declared.options.Options.{Options}
use Rattle.mdb_events.specs.declared.fact.Fact.{Fact}
use Rattle.mdb_events.specs.declared.fact.Fact.TheVariants.{Opened, Raised, Sdam}
use Rattle.mdb_events.specs.declared.sdam.SdamEvent.TheVariants.{ServerHeartbeatStarted}
use Rattle.mdb_log.specs.declared.step.Step.{Step}
use Rattle.mdb_log.specs.declared.step.Act.{Act}
use Rattle.mdb_log.specs.declared.step.Act.TheVariants as Do
use Rattle.mdb_log.specs.declared.step.FailedAt.TheVariants.{Pre, Post}
use Rattle.mdb_log.specs.declared.reply.What.{What}
use Rattle.mdb_log.specs.declared.reply.What.TheVariants.{Pool, Generation, Monitor, Servers}
use Rattle.mdb_log.specs.declared.reply.Refused.{Refused}
use Rattle.mdb_log.specs.declared.reply.Refused.TheVariants.{TimeBack, UnknownServer, RequestKnown, UnknownRequest, NotHolder, NotPending, Unpinned, PinInUse, PinState, CheckRunning, NotChecking, WrongMode, Exhausted}
use Rattle.mdb_log.specs.History.{Item, made, of_pool, open_pool, last_moment}
use Rattle.mdb_log.specs.Connections.{has, pending_list, holding, held, pins}
use Rattle.mdb_log.specs.Requests.{some_act, names_party, is_open}
use Rattle.mdb_log.specs.State.{generation_of}
use Rattle.mdb_pool_rules.specs.Refusal.{wrong_service, first_row}
use Rattle.mdb_log.specs.Homes.{Home}
use Rattle.mdb_driver_rules.specs.Homes.{home_of, is_here, begun}
use Rattle.mdb_driver_rules.specs.Monitors.{runs, is_connected}
use Rattle.mdb_driver_rules.specs.Description.{description_of}
use Rattle.mdb_driver_rules.specs.Facts.{step_facts}

-- no pool is open at the address of the act, or none is one that the act concerns
abbrev pub homeless : List Item → Act → Bool
homeless h act = not (is_some (home_of h act))

abbrev pub is_pending : List Item → ℕ → ℕ → Bool
is_pending h q c = has c (pending_list (of_pool q h))

-- the connection has a pin
abbrev pub has_pin : List Item → ℕ → ℕ → Bool
has_pin h q c = nat_lt 0 (pins (of_pool q h) c)

-- the connection that the party holds of the pool has one
abbrev pub holds_pinned : List Item → Option Home → ℕ → Bool
holds_pinned h None r = false
holds_pinned h (Some x) r = has_pin h x.number (unwrap_or (holding (of_pool x.number h) r) 0)

-- The rows of each act, in the order of the reasons.
abbrev pub rows_of : Options → List Item → Act → List (Bool × Refused)
rows_of o h (Do.Request r a) = (not (is_some (open_pool h a)), UnknownServer) ∷ (some_act names_party h r, RequestKnown) ∷ []
rows_of o h (Do.Warm r a) = (not (is_some (open_pool h a)), UnknownServer) ∷ (some_act names_party h r, RequestKnown) ∷ []
rows_of o h (Do.Maintain a) = (not (is_some (open_pool h a)), UnknownServer) ∷ []
rows_of o h (Do.Expire a) = (not (is_some (open_pool h a)), UnknownServer) ∷ []
rows_of o h (Do.Collect r) = (not (is_open h r), UnknownRequest) ∷ []
rows_of o h (Do.GiveUp r) = (not (is_open h r), UnknownRequest) ∷ []
rows_of o h (Do.Established q c how) = (not (is_pending h q c), NotPending) ∷ (wrong_service o.load_balanced how.service_id, WrongMode) ∷ []
rows_of o h (Do.Failed q c Pre error) = (not (is_pending h q c), NotPending) ∷ []
rows_of o h (Do.Failed q c (Post service) error) = (not (is_pending h q c), NotPending) ∷ (not o.load_balanced && is_some service, WrongMode) ∷ []
rows_of o h (Do.Return r used) = (homeless h (Do.Return r used), NotHolder) ∷ []
rows_of o h (Do.Pin r) = (homeless h (Do.Pin r), NotHolder) ∷ (holds_pinned h (home_of h (Do.Pin r)) r, PinState) ∷ []
rows_of o h (Do.Error r error) = (homeless h (Do.Error r error), NotHolder) ∷ []
rows_of o h (Do.Replicate q c) = (not (has_pin h q c), Unpinned) ∷ []
rows_of o h (Do.Take r q c) = (some_act names_party h r, RequestKnown) ∷ (not (has_pin h q c), Unpinned) ∷ (nat_lt 0 (held (of_pool q h) c), PinInUse) ∷ []
rows_of o h (Do.Unpin q c) = (not (has_pin h q c), Unpinned) ∷ []
rows_of o h (Do.Beat a p) = (not (is_here h a p), UnknownServer) ∷ (runs h p, CheckRunning) ∷ (o.load_balanced, WrongMode) ∷ []
rows_of o h (Do.Beaten a p duration came) = (is_here h a p && not (runs h p), NotChecking) ∷ (o.load_balanced, WrongMode) ∷ []
rows_of o h (Do.Hello a p came) = (o.load_balanced, WrongMode) ∷ []
rows_of o h (Do.Rtt a p sample) = (o.load_balanced, WrongMode) ∷ []
rows_of o h _ = []

-- The first row that holds; each act may be before the last moment.
abbrev pub first_refusal : Options → List Item → Step → Option Refused
first_refusal o h step = first_row ((nat_lt step.moment (last_moment h), TimeBack (last_moment h)) ∷ rows_of o h step.act)

-- The number that a fact takes past its limit: of a pool, of a generation, or of a monitor's connection.
abbrev pub past_limit : Options → List Item → Fact → Option What
past_limit o k (Opened p a) = if nat_lt (unwrap_or o.limit_pool 4294967295) p then Some Pool else None
past_limit o k (Raised p service error) = if nat_lt (unwrap_or o.limit_generation 18446744073709551615) (generation_of (of_pool p k) service + 1) then Some Generation else None
past_limit o k (Sdam (ServerHeartbeatStarted e)) = if nat_lt (unwrap_or o.limit_monitor 4294967295) e.driver_connection_id then Some Monitor else None
past_limit o k _ = None

abbrev pub sooner : Option What → Option What → Option What
sooner (Some what) later = Some what
sooner None later = later

-- the first of the facts that does, where those before it have come
abbrev pub first_past : Options → ℕ → List Item → List Fact → Option What
first_past o m k [] = None
first_past o m k (fact ∷ facts) = sooner (past_limit o k fact) (first_past o m (made m fact ∷ k) facts)

-- What a step with these facts would run out of: more than 128 servers are known after it, or a number is past its limit.
abbrev pub exhausted : Options → List Item → Step → List Fact → Option What
exhausted o h step facts =
    if nat_lt 128 (length (description_of o (begun h step)).servers) then Some Servers
    else first_past o step.moment (begun h step) facts

abbrev pub ran_out : Option What → Option Refused
ran_out None = None
ran_out (Some what) = Some (Exhausted what)

abbrev pub refused_by : Option Refused → Option Refused → Option Refused
refused_by (Some why) later = Some why
refused_by None later = later

-- The refusal of a step after a history, None where it is accepted.
abbrev pub refusal : Options → List Item → Step → Option Refused
refusal o h step = refused_by (first_refusal o h step) (ran_out (exhausted o h step (step_facts o h step)))

-- the act begins a check over a connection that its monitor has
abbrev pub is_over_connection : List Item → Act → Bool
is_over_connection h (Do.Beat a p) = is_connected h p
is_over_connection h _ = false

-- the act names hosts
abbrev pub names_hosts : Act → Bool
names_hosts (Do.Hosts hosts) = true
names_hosts _ = false

-- Which refusals lack of memory may come before: none but those of the servers and of the pools that would come by a reply, which show only in what would be known then, and that of a connection's number which was drawn before.
abbrev pub may_yield : Bool → Bool → Option Refused → Bool
may_yield over named None = true
may_yield over named (Some (Exhausted Servers)) = not named
may_yield over named (Some (Exhausted Pool)) = not named
may_yield over named (Some (Exhausted Monitor)) = over
may_yield over named (Some _) = false

-- Where the step is not refused, or by one of these, there may be no memory for it.
abbrev pub may_want : Options → List Item → Step → Bool
may_want o h step = may_yield (is_over_connection h step.act) (names_hosts step.act) (refusal o h step)
