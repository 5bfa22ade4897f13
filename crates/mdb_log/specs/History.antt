-- Histories: what was done and what came of it, newest first; and what of a history concerns one pool.
use Rattle.std.specs.Prelude.{ℕ, Bool, true, false, ◌||◌, if◌then◌else◌, ◌==◌, not, filter, is_some, List, [], ◌∷◌, Option, Some, None}
use Rattle.mdb_base.specs.Equality.{same_id, same_address}
use Rattle.mdb_base.specs.declared.address.ServerAddress.{ServerAddress}
use Rattle.mdb_base.specs.declared.object_id.ObjectId.{ObjectId}
use Rattle.mdb_base.specs.declared.error.Error.{Error}
use Rattle.mdb_events.specs.declared.cmap.CmapEvent.TheVariants.{PoolCreated, PoolReady, PoolClosed, ConnectionCreated, ConnectionClosed, ConnectionCheckedIn}
use Rattle.mdb_events.specs.declared.fact.Fact.{Fact}
use Rattle.mdb_events.specs.declared.fact.Fact.TheVariants.{Opened, Pool, Granted, Ended, Raised}
use Rattle.mdb_events.specs.declared.end.End.{End}
use Rattle.mdb_log.specs.declared.options.PoolOptions.{PoolOptions}
use Rattle.mdb_log.specs.declared.step.Step.{Step}
use Rattle.mdb_log.specs.declared.step.Act.{Act}
use Rattle.mdb_log.specs.declared.step.Act.TheVariants.{Request, Warm, GiveUp, Established, Failed, Return, Pin, Replicate, Take, Unpin}
use Rattle.mdb_log.specs.declared.step.FailedAt.{FailedAt}
use Rattle.mdb_log.specs.declared.step.FailedAt.TheVariants.{Pre, Post}
use Rattle.mdb_log.specs.declared.step.Use.{Use}
use Rattle.mdb_log.specs.declared.reply.Reply.{Reply}
use Rattle.mdb_log.specs.declared.reply.Reply.TheVariants.{Refused}
use Rattle.mdb_log.specs.declared.log.Entry.{Entry}
use Rattle.mdb_log.specs.declared.step.Established.{Established as Establishment}

-- an accepted step with its reply, or a fact with its moment
pub data Item : Type 0 where
  did : Step → Reply → Item
  made : ℕ → Fact → Item

-- what an item may say of one pool, by the numbers of parties and connections, and moments
pub data PoolItem : Type 0 where
  -- steps of parties: a caller's and a warm request, a give-up, a return, a pin by its holder
  asked : ℕ → ℕ → PoolItem
  warmed : ℕ → ℕ → PoolItem
  gave_up : ℕ → PoolItem
  returned : ℕ → Use → PoolItem
  pinned_by : ℕ → PoolItem
  -- steps on connections: established with what it found out, failed with the service, replicate, take by a party, unpin
  established : ℕ → Establishment → ℕ → PoolItem
  failed : ℕ → Option ObjectId → PoolItem
  replicated : ℕ → PoolItem
  taken : ℕ → ℕ → PoolItem
  unpinned : ℕ → PoolItem
  -- facts
  created : ℕ → ℕ → PoolItem
  closed : ℕ → PoolItem
  checked_in : ℕ → ℕ → PoolItem
  granted : ℕ → ℕ → PoolItem
  ended : ℕ → End → PoolItem
  raised : Option ObjectId → Error → PoolItem
  pool_created : PoolItem
  pool_ready : PoolItem
  pool_closed : PoolItem

abbrev pub same_service : Option ObjectId → Option ObjectId → Bool
same_service None None = true
same_service (Some a) (Some b) = same_id a b
same_service None (Some b) = false
same_service (Some a) None = false

abbrev pub is_number : Option ℕ → ℕ → Bool
is_number None n = false
is_number (Some m) n = m == n

-- the list with each n taken out
abbrev pub without : ℕ → List ℕ → List ℕ
without n ms = filter (λ m. not (m == n)) ms

-- the pool that is open at the address: the last one opened there, unless it was closed
abbrev pub open_pool : List Item → ServerAddress → Option ℕ
open_pool [] a = None
open_pool (made m (Opened p b) ∷ h) a = if same_address b a then Some p else open_pool h a
open_pool (made m (Pool p (PoolClosed e)) ∷ h) a = if is_number (open_pool h a) p then None else open_pool h a
open_pool (_ ∷ h) a = open_pool h a

-- the moment of the last accepted step, 0 where there was none
abbrev pub last_moment : List Item → ℕ
last_moment [] = 0
last_moment (did step reply ∷ h) = step.moment
last_moment (made m fact ∷ h) = last_moment h

-- the connection that the party was given, and has neither returned nor lost by the end of its request
abbrev pub given : List PoolItem → ℕ → Option ℕ
given [] r = None
given (granted q c ∷ xs) r = if q == r then Some c else given xs r
given (taken q c ∷ xs) r = if q == r then Some c else given xs r
given (returned q used ∷ xs) r = if q == r then None else given xs r
given (ended q end ∷ xs) r = if q == r then None else given xs r
given (_ ∷ xs) r = given xs r

-- the request was made at this pool
abbrev pub has_asked : List PoolItem → ℕ → Bool
has_asked [] r = false
has_asked (asked q m ∷ xs) r = (q == r) || has_asked xs r
has_asked (warmed q m ∷ xs) r = (q == r) || has_asked xs r
has_asked (_ ∷ xs) r = has_asked xs r

-- the party took a pinned connection of this pool
abbrev pub has_taken : List PoolItem → ℕ → Bool
has_taken [] r = false
has_taken (taken q c ∷ xs) r = (q == r) || has_taken xs r
has_taken (_ ∷ xs) r = has_taken xs r

-- the party is one of this pool
abbrev pub has_party : List PoolItem → ℕ → Bool
has_party xs r = has_asked xs r || has_taken xs r

-- one item more, where the test holds
abbrev pub if_so : Bool → PoolItem → List PoolItem → List PoolItem
if_so b x xs = if b then (x ∷ xs) else xs

-- what concerns the pool p after one more step at the moment m; here tells the pool that is open at an address
abbrev pub after_act : ℕ → (ServerAddress → Option ℕ) → ℕ → Act → List PoolItem → List PoolItem
after_act p here m (Request r a) xs = if_so (is_number (here a) p) (asked r m) xs
after_act p here m (Warm r a) xs = if_so (is_number (here a) p) (warmed r m) xs
after_act p here m (GiveUp r) xs = if_so (has_asked xs r) (gave_up r) xs
after_act p here m (Established q c how) xs = if_so (q == p) (established c how m) xs
after_act p here m (Failed q c Pre error) xs = if_so (q == p) (failed c None) xs
after_act p here m (Failed q c (Post service) error) xs = if_so (q == p) (failed c service) xs
after_act p here m (Return r used) xs = if_so (is_some (given xs r)) (returned r used) xs
after_act p here m (Pin r) xs = if_so (is_some (given xs r)) (pinned_by r) xs
after_act p here m (Replicate q c) xs = if_so (q == p) (replicated c) xs
after_act p here m (Take r q c) xs = if_so (q == p) (taken r c) xs
after_act p here m (Unpin q c) xs = if_so (q == p) (unpinned c) xs
after_act p here m _ xs = xs

-- what concerns the pool p after one more fact at the moment m
abbrev pub after_fact : ℕ → ℕ → Fact → List PoolItem → List PoolItem
after_fact p m (Pool q (PoolCreated e)) xs = if_so (q == p) pool_created xs
after_fact p m (Pool q (PoolReady e)) xs = if_so (q == p) pool_ready xs
after_fact p m (Pool q (PoolClosed e)) xs = if_so (q == p) pool_closed xs
after_fact p m (Pool q (ConnectionCreated e)) xs = if_so (q == p) (created e.connection_id m) xs
after_fact p m (Pool q (ConnectionClosed e)) xs = if_so (q == p) (closed e.connection_id) xs
after_fact p m (Pool q (ConnectionCheckedIn e)) xs = if_so (q == p) (checked_in e.connection_id m) xs
after_fact p m (Granted r q c) xs = if_so (q == p) (granted r c) xs
after_fact p m (Ended r end) xs = if_so (has_asked xs r) (ended r end) xs
after_fact p m (Raised q service error) xs = if_so (q == p) (raised service error) xs
after_fact p m _ xs = xs

-- what of a history concerns the pool p
abbrev pub of_pool : ℕ → List Item → List PoolItem
of_pool p [] = []
of_pool p (did step reply ∷ h) = after_act p (open_pool h) step.moment step.act (of_pool p h)
of_pool p (made m fact ∷ h) = after_fact p m fact (of_pool p h)

-- the facts of one step come after the history, the first of them first
abbrev pub with_facts : ℕ → List Fact → List Item → List Item
with_facts m [] h = h
with_facts m (fact ∷ facts) h = with_facts m facts (made m fact ∷ h)

abbrev pub after_facts : ℕ → ℕ → List Fact → List PoolItem → List PoolItem
after_facts p m [] xs = xs
after_facts p m (fact ∷ facts) xs = after_facts p m facts (after_fact p m fact xs)

-- a step with its answer comes after the history; a refused one adds nothing
abbrev pub with_answer : Step → Reply → List Fact → List Item → List Item
with_answer step (Refused why) facts h = h
with_answer step reply facts h = with_facts step.moment facts (did step reply ∷ h)

-- the entries of a log come after the history, the first of them first
abbrev pub with_entries : List Entry → List Item → List Item
with_entries [] h = h
with_entries (entry ∷ entries) h = with_entries entries (with_answer entry.step entry.reply entry.facts h)

-- the history of a driver's log
abbrev pub history_of : List Entry → List Item
history_of entries = with_entries entries []

-- the history of a pool that was just made; that of the pool's log is its entries after this
abbrev pub opening : ℕ → ServerAddress → PoolOptions → List Item
opening p a o = made 0 (Pool p (PoolCreated (record { address = a; options = Some (record { max_idle_time = o.max_idle_time; max_pool_size = o.max_pool_size; min_pool_size = o.min_pool_size }) }))) ∷ made 0 (Opened p a) ∷ []

-- the service that the server named before the connection failed
abbrev pub service_in : FailedAt → Option ObjectId
service_in Pre = None
service_in (Post service) = service

-- what the pool knows with the act of the step
abbrev pub with_act : ℕ → List Item → Step → List PoolItem
with_act p h step = after_act p (open_pool h) step.moment step.act (of_pool p h)
