-- When a pool refuses a step: the first row whose condition holds.
use Rattle.std.specs.Prelude.{ℕ, Bool, true, false, not, ◌&&◌, if◌then◌else◌, ◌==◌, nat_lt, nat_le, is_some, List, [], ◌∷◌, Option, Some, None, unwrap_or}
use Rattle.mdb_base.specs.declared.object_id.ObjectId.{ObjectId}
use Rattle.mdb_log.specs.declared.options.PoolOptions.{PoolOptions}
use Rattle.mdb_log.specs.declared.step.Step.{Step}
use Rattle.mdb_log.specs.declared.step.Act.{Act}
use Rattle.mdb_log.specs.declared.step.Act.TheVariants.{Request, Warm, Collect, GiveUp, Established, Failed, Return, Pin, Replicate, Take, Unpin, Maintain, Expire, Clear}
use Rattle.mdb_log.specs.declared.step.FailedAt.TheVariants.{Pre, Post}
use Rattle.mdb_log.specs.declared.reply.What.TheVariants.{Generation}
use Rattle.mdb_log.specs.declared.reply.Refused.{Refused}
use Rattle.mdb_log.specs.declared.reply.Refused.TheVariants.{TimeBack, UnknownServer, RequestKnown, UnknownRequest, NotHolder, NotPending, Unpinned, PinInUse, PinState, WrongMode, Exhausted}
use Rattle.mdb_log.specs.History.{Item, PoolItem, is_number, open_pool, last_moment, of_pool}
use Rattle.mdb_log.specs.Connections.{has, pending_list, holding, held, pins}
use Rattle.mdb_log.specs.Requests.{some_act, names_party, is_open}
use Rattle.mdb_log.specs.State.{State, is_closed, state_of, generation_of}

-- a service goes with load balancing, and none with a normal pool
abbrev pub wrong_service : Bool → Option ObjectId → Bool
wrong_service true service = not (is_some service)
wrong_service false service = is_some service

-- one more clear of a pool that is not closed would pass the limit of its generation
abbrev pub is_exhausted : PoolOptions → List PoolItem → Option ObjectId → Bool
is_exhausted o xs service = on (state_of o xs)
  where
    on : State → Bool
    on is_closed = false
    on _ = nat_le o.limit_generation (generation_of xs service)

abbrev pub first_row : List (Bool × Refused) → Option Refused
first_row [] = None
first_row (row ∷ rows) = if row.0 then Some row.1 else first_row rows

-- the rows of each act of the pool p after the history h, of which xs concerns the pool
abbrev pub rows_of : ℕ → PoolOptions → List Item → List PoolItem → Act → List (Bool × Refused)
rows_of p o h xs (Request r a) = (not (is_number (open_pool h a) p), UnknownServer) ∷ (some_act names_party h r, RequestKnown) ∷ []
rows_of p o h xs (Warm r a) = (not (is_number (open_pool h a) p), UnknownServer) ∷ (some_act names_party h r, RequestKnown) ∷ []
rows_of p o h xs (Collect r) = (not (is_open h r), UnknownRequest) ∷ []
rows_of p o h xs (GiveUp r) = (not (is_open h r), UnknownRequest) ∷ []
rows_of p o h xs (Established q c how) = (not ((q == p) && has c (pending_list xs)), NotPending) ∷ (wrong_service o.load_balanced how.service_id, WrongMode) ∷ []
rows_of p o h xs (Failed q c Pre error) = (not ((q == p) && has c (pending_list xs)), NotPending) ∷ []
rows_of p o h xs (Failed q c (Post service) error) = (not ((q == p) && has c (pending_list xs)), NotPending) ∷ (not o.load_balanced && is_some service, WrongMode) ∷ []
rows_of p o h xs (Return r used) = (not (is_some (holding xs r)), NotHolder) ∷ []
rows_of p o h xs (Pin r) = (not (is_some (holding xs r)), NotHolder) ∷ (nat_lt 0 (pins xs (unwrap_or (holding xs r) 0)), PinState) ∷ []
rows_of p o h xs (Replicate q c) = (not ((q == p) && nat_lt 0 (pins xs c)), Unpinned) ∷ []
rows_of p o h xs (Take r q c) = (some_act names_party h r, RequestKnown) ∷ (not ((q == p) && nat_lt 0 (pins xs c)), Unpinned) ∷ (nat_lt 0 (held xs c), PinInUse) ∷ []
rows_of p o h xs (Unpin q c) = (not ((q == p) && nat_lt 0 (pins xs c)), Unpinned) ∷ []
rows_of p o h xs (Maintain a) = (not (is_number (open_pool h a) p), UnknownServer) ∷ []
rows_of p o h xs (Expire a) = (not (is_number (open_pool h a) p), UnknownServer) ∷ []
rows_of p o h xs (Clear q service error) = (wrong_service o.load_balanced service, WrongMode) ∷ (is_exhausted o xs service, Exhausted Generation) ∷ []
rows_of p o h xs _ = []

-- the refusal of a step by the pool p alone, None where it is accepted
abbrev pub refusal_of : ℕ → PoolOptions → List Item → Step → Option Refused
refusal_of p o h step = first_row ((nat_lt step.moment (last_moment h), TimeBack (last_moment h)) ∷ rows_of p o h (of_pool p h) step.act)
