-- When a pool refuses a step, by what it keeps: the rows of its refusals in their order, each over the kept values.
use Rattle.std.specs.Prelude.{ℕ, ◌≡◌, Bool, true, false, not, ◌&&◌, ◌||◌, ◌==◌, nat_lt, is_some, List, [], ◌∷◌, Option, ⊤}
use Rattle.mdb_base.specs.declared.address.ServerAddress.{ServerAddress}
use Rattle.mdb_base.specs.Equality.{same_address}
use Rattle.mdb_log.specs.declared.step.Step.{Step}
use Rattle.mdb_log.specs.declared.step.Act.{Act}
use Rattle.mdb_log.specs.declared.step.Act.TheVariants.{Request, Warm, Collect, GiveUp, Established, Failed, Return, Pin, Replicate, Take, Unpin, Maintain, Expire, Clear}
use Rattle.mdb_log.specs.declared.reply.What.TheVariants.{Generation}
use Rattle.mdb_log.specs.declared.reply.Refused.{Refused}
use Rattle.mdb_log.specs.declared.reply.Refused.TheVariants.{TimeBack, UnknownServer, RequestKnown, UnknownRequest, NotHolder, NotPending, Unpinned, PinInUse, PinState, WrongMode, Exhausted}
use Rattle.mdb_log.specs.History.{service_in}
use Rattle.mdb_pool.specs.Core.{PoolCore}
use Rattle.mdb_pool.specs.Now.{alone_now, exhausted_now, holds_now, is_closed_now, is_held_now, is_open_now, is_pending_now, is_pinned_now, knows_now, last_now, pins_now}
use Rattle.mdb_pool_rules.specs.Refusal.{first_row, wrong_service}

-- the pool is open, and this is its address
abbrev pub is_here : PoolCore → ServerAddress → Bool
is_here s a = same_address s.address a && not (is_closed_now s)

-- the connection is one of this pool, and pending
abbrev pub is_pending_here : PoolCore → ℕ → ℕ → Bool
is_pending_here s q c = (q == s.pool) && is_pending_now s c

-- the connection is one of this pool, and has a pin
abbrev pub is_pinned_here : PoolCore → ℕ → ℕ → Bool
is_pinned_here s q c = (q == s.pool) && nat_lt 0 (pins_now s c)

-- the rows of each act
abbrev pub rows_now : PoolCore → Act → List (Bool × Refused)
rows_now s (Request r a) = (not (is_here s a), UnknownServer) ∷ (knows_now s r, RequestKnown) ∷ []
rows_now s (Warm r a) = (not (is_here s a), UnknownServer) ∷ (knows_now s r, RequestKnown) ∷ []
rows_now s (Collect r) = (not (is_open_now s r), UnknownRequest) ∷ []
rows_now s (GiveUp r) = (not (is_open_now s r), UnknownRequest) ∷ []
rows_now s (Established q c how) = (not (is_pending_here s q c), NotPending) ∷ (wrong_service s.options.load_balanced how.service_id, WrongMode) ∷ []
rows_now s (Failed q c at error) = (not (is_pending_here s q c), NotPending) ∷ (not s.options.load_balanced && is_some (service_in at), WrongMode) ∷ []
rows_now s (Return r used) = (not (holds_now s r), NotHolder) ∷ []
rows_now s (Pin r) = (not (holds_now s r), NotHolder) ∷ (is_pinned_now s r, PinState) ∷ []
rows_now s (Replicate q c) = (not (is_pinned_here s q c), Unpinned) ∷ []
rows_now s (Take r q c) = (knows_now s r, RequestKnown) ∷ (not (is_pinned_here s q c), Unpinned) ∷ (is_held_now s c, PinInUse) ∷ []
rows_now s (Unpin q c) = (not (is_pinned_here s q c), Unpinned) ∷ []
rows_now s (Maintain a) = (not (is_here s a), UnknownServer) ∷ []
rows_now s (Expire a) = (not (is_here s a), UnknownServer) ∷ []
rows_now s (Clear q service error) = (wrong_service s.options.load_balanced service, WrongMode) ∷ (exhausted_now s service, Exhausted Generation) ∷ []
rows_now s _ = []

-- the refusal of a step, None where it is accepted
abbrev pub refusal_now : PoolCore → Step → Option Refused
refusal_now s step = first_row ((nat_lt step.moment (last_now s), TimeBack (last_now s)) ∷ rows_now s step.act)

-- the pool can tell whether the party is new: it stands alone, and keeps all numbers, or the party is new
abbrev pub can_tell : PoolCore → ℕ → Bool
can_tell s r = alone_now s || not (knows_now s r)

-- it can tell so of the party that the act names for the first time, where it names one
abbrev pub tells_new : PoolCore → Act → Bool
tells_new s (Request r a) = can_tell s r
tells_new s (Warm r a) = can_tell s r
tells_new s (Take r q c) = can_tell s r
tells_new s _ = true

-- the act names no party for the first time
abbrev pub names_nobody : Act → Bool
names_nobody (Request r a) = false
names_nobody (Warm r a) = false
names_nobody (Take r q c) = false
names_nobody _ = true

-- whoever answers the steps stands alone, or they name nobody
abbrev pub NameNobody : Bool → List Step → Type 0
NameNobody alone [] = ⊤
NameNobody alone (step ∷ more) = ((alone || names_nobody step.act) ≡ true) × NameNobody alone more

-- Steps one after another: the pool can tell of the first, and stands alone or the others name nobody.
abbrev pub TellsNew : PoolCore → List Step → Type 0
TellsNew s [] = ⊤
TellsNew s (step ∷ more) = (tells_new s step.act ≡ true) × NameNobody (alone_now s) more
