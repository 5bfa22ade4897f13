-- The rules, in the order in which they are told, and their words.
use Rattle.std.specs.Prelude.{ℕ, List, [], ◌∷◌, codes}
use Rattle.mdb_recordings.specs.declared.rule.Rule.{Rule}
use Rattle.mdb_recordings.specs.declared.rule.Rule.TheVariants.{PoolCreatedTwice, PoolNotCreated, PoolIsClosed, PoolReadiedTwice, ClearedWhilePaused, LeftInPool, PoolNotReady, CreatedWhilePaused, CreatedTwice, NotCreated, ReadiedTwice, NotReadied, OutTwice, NotOut, ClosedTwice, IsClosed, ClosedWhileOut, ClosedInUse, NotCleared, IsStale, IsIdle, TooMany, TooManyPending, NotStarted, HasNoReason, OutOfTurn}
use Rattle.mdb_recording_servers.specs.declared.rule.ServerRule.{ServerRule}
use Rattle.mdb_recording_servers.specs.declared.rule.ServerRule.TheVariants as servers

abbrev pub all_rules : List Rule
all_rules =
    PoolCreatedTwice ∷ PoolNotCreated ∷ PoolIsClosed ∷ PoolReadiedTwice ∷ ClearedWhilePaused ∷ LeftInPool ∷ PoolNotReady ∷ CreatedWhilePaused ∷ CreatedTwice ∷ NotCreated ∷ ReadiedTwice ∷ NotReadied ∷ OutTwice ∷
    NotOut ∷ ClosedTwice ∷ IsClosed ∷ ClosedWhileOut ∷ ClosedInUse ∷ NotCleared ∷ IsStale ∷ IsIdle ∷ TooMany ∷ TooManyPending ∷ NotStarted ∷ HasNoReason ∷ OutOfTurn ∷ []

-- how a rule is broken
abbrev pub rule_word : Rule → List ℕ
rule_word PoolCreatedTwice = codes "pool-created-twice"
rule_word PoolNotCreated = codes "pool-not-created"
rule_word PoolIsClosed = codes "pool-is-closed"
rule_word PoolReadiedTwice = codes "pool-ready-twice"
rule_word ClearedWhilePaused = codes "cleared-while-paused"
rule_word LeftInPool = codes "left-in-pool"
rule_word PoolNotReady = codes "pool-not-ready"
rule_word CreatedWhilePaused = codes "created-while-paused"
rule_word CreatedTwice = codes "created-twice"
rule_word NotCreated = codes "not-created"
rule_word ReadiedTwice = codes "ready-twice"
rule_word NotReadied = codes "not-ready"
rule_word OutTwice = codes "checked-out-twice"
rule_word NotOut = codes "not-checked-out"
rule_word ClosedTwice = codes "closed-twice"
rule_word IsClosed = codes "is-closed"
rule_word ClosedWhileOut = codes "closed-while-out"
rule_word ClosedInUse = codes "closed-while-out"
rule_word NotCleared = codes "not-cleared"
rule_word IsStale = codes "stale"
rule_word IsIdle = codes "idle"
rule_word TooMany = codes "too-many"
rule_word TooManyPending = codes "too-many-pending"
rule_word NotStarted = codes "not-started"
rule_word HasNoReason = codes "no-reason"
rule_word OutOfTurn = codes "out-of-turn"

-- the section of the standard that a rule comes from
abbrev pub rule_section : Rule → List ℕ
rule_section PoolCreatedTwice = codes "CMAP, Creating a Connection Pool"
rule_section PoolNotCreated = codes "CMAP, Creating a Connection Pool"
rule_section PoolIsClosed = codes "CMAP, Closing a Connection Pool"
rule_section PoolReadiedTwice = codes "CMAP, Marking a Connection Pool as Ready"
rule_section ClearedWhilePaused = codes "CMAP, Clearing a Connection Pool"
rule_section LeftInPool = codes "CMAP, Closing a Connection Pool"
rule_section PoolNotReady = codes "CMAP, Checking Out a Connection"
rule_section CreatedWhilePaused = codes "CMAP, Connection Pool Members"
rule_section CreatedTwice = codes "CMAP, Creating a Connection"
rule_section NotCreated = codes "CMAP, Creating a Connection"
rule_section ReadiedTwice = codes "CMAP, Establishing a Connection"
rule_section NotReadied = codes "CMAP, Checking Out a Connection"
rule_section OutTwice = codes "CMAP, Checking Out a Connection"
rule_section NotOut = codes "CMAP, Checking In a Connection"
rule_section ClosedTwice = codes "CMAP, Closing a Connection"
rule_section IsClosed = codes "CMAP, Closing a Connection"
rule_section ClosedWhileOut = codes "CMAP, Closing a Connection"
rule_section ClosedInUse = codes "CMAP, Clearing a Connection Pool"
rule_section NotCleared = codes "CMAP, Clearing a Connection Pool"
rule_section IsStale = codes "CMAP, Checking Out a Connection"
rule_section IsIdle = codes "CMAP, Checking Out a Connection"
rule_section TooMany = codes "CMAP, Connection Pool Options"
rule_section TooManyPending = codes "CMAP, Connection Pool Options"
rule_section NotStarted = codes "CMAP, Checking Out a Connection"
rule_section HasNoReason = codes "CMAP, Events"
rule_section OutOfTurn = codes "CMAP, WaitQueue"

-- those of servers and of the topology
abbrev pub all_server_rules : List ServerRule
all_server_rules = servers.OpenedTwice ∷ servers.NotOpen ∷ servers.FromDiffers ∷ servers.NotChecked ∷ servers.CheckedTwice ∷ servers.HasNoCause ∷ servers.OpenedLate ∷ servers.IsClosed ∷ []

abbrev pub server_rule_word : ServerRule → List ℕ
server_rule_word servers.OpenedTwice = codes "server-opened-twice"
server_rule_word servers.NotOpen = codes "server-not-open"
server_rule_word servers.FromDiffers = codes "from-differs"
server_rule_word servers.NotChecked = codes "no-check"
server_rule_word servers.CheckedTwice = codes "checked-twice"
server_rule_word servers.HasNoCause = codes "no-cause"
server_rule_word servers.OpenedLate = codes "topology-opened-late"
server_rule_word servers.IsClosed = codes "topology-is-closed"

abbrev pub server_rule_section : ServerRule → List ℕ
server_rule_section servers.OpenedTwice = codes "SDAM Monitoring, Events"
server_rule_section servers.NotOpen = codes "SDAM Monitoring, Events"
server_rule_section servers.FromDiffers = codes "SDAM Monitoring, Events"
server_rule_section servers.NotChecked = codes "SDAM Monitoring, Heartbeats"
server_rule_section servers.CheckedTwice = codes "SDAM Monitoring, Heartbeats"
server_rule_section servers.HasNoCause = codes "SDAM Monitoring, Events"
server_rule_section servers.OpenedLate = codes "SDAM Monitoring, Events"
server_rule_section servers.IsClosed = codes "SDAM Monitoring, Events"
