-- What a pool's items, newest first, say of its connections.
use Rattle.std.specs.Prelude.{ℕ, ◌+◌, ◌-◌, Bool, true, false, not, ◌&&◌, ◌||◌, if◌then◌else◌, ◌==◌, nat_lt, is_some, List, [], ◌∷◌, ◌++◌, length, Option, Some, None, ℤ}
use Rattle.std.specs.List.{list_any}
use Rattle.mdb_base.specs.Errors.{is_timeout}
use Rattle.mdb_base.specs.declared.object_id.ObjectId.{ObjectId}
use Rattle.mdb_log.specs.declared.step.Use.{Use}
use Rattle.mdb_log.specs.declared.step.Use.TheVariants.{Ok, Errored, Dropped, Streaming}
use Rattle.mdb_log.specs.History.{PoolItem, gave_up, returned, pinned_by, established, failed, replicated, taken, unpinned, created, closed, checked_in, granted, ended, raised, is_number, without, given}

-- 1 where the test holds
abbrev pub one_if : Bool → ℕ
one_if b = if b then 1 else 0

abbrev pub has : ℕ → List ℕ → Bool
has n ms = list_any (λ m. m == n) ms

-- Live: created and not closed.
abbrev pub live : List PoolItem → ℕ → ℕ
live [] c = 0
live (created d m ∷ xs) c = live xs c + one_if (d == c)
live (closed d ∷ xs) c = live xs c - one_if (d == c)
live (_ ∷ xs) c = live xs c

abbrev pub is_live : List PoolItem → ℕ → Bool
is_live xs c = nat_lt 0 (live xs c)

abbrev pub live_total : List PoolItem → ℕ
live_total [] = 0
live_total (created d m ∷ xs) = live_total xs + 1
live_total (closed d ∷ xs) = live_total xs - 1
live_total (_ ∷ xs) = live_total xs

abbrev pub created_total : List PoolItem → ℕ
created_total [] = 0
created_total (created d m ∷ xs) = created_total xs + 1
created_total (_ ∷ xs) = created_total xs

-- the moment at which the connection was created
abbrev pub created_at : List PoolItem → ℕ → ℕ
created_at [] c = 0
created_at (created d m ∷ xs) c = if d == c then m else created_at xs c
created_at (_ ∷ xs) c = created_at xs c

-- Pending: created, neither established nor failed, and not closed. In the order of creation.
abbrev pub pending_list : List PoolItem → List ℕ
pending_list [] = []
pending_list (created c m ∷ xs) = pending_list xs ++ c ∷ []
pending_list (established c how m ∷ xs) = without c (pending_list xs)
pending_list (failed c service ∷ xs) = without c (pending_list xs)
pending_list (closed c ∷ xs) = without c (pending_list xs)
pending_list (_ ∷ xs) = pending_list xs

abbrev pub pending : List PoolItem → ℕ → ℕ
pending xs c = one_if (has c (pending_list xs))

-- Held: the parties to which the connection was given, without those that returned it or whose request ended; none while it is pending.
abbrev pub parties : List PoolItem → ℕ → List ℕ
parties [] c = []
parties (granted r d ∷ xs) c = if d == c then (r ∷ parties xs c) else parties xs c
parties (taken r d ∷ xs) c = if d == c then (r ∷ parties xs c) else parties xs c
parties (returned r used ∷ xs) c = without r (parties xs c)
parties (ended r end ∷ xs) c = without r (parties xs c)
parties (_ ∷ xs) c = parties xs c

abbrev pub held : List PoolItem → ℕ → ℕ
held xs c = if has c (pending_list xs) then 0 else length (parties xs c)

-- the connection that the party holds
abbrev pub holding : List PoolItem → ℕ → Option ℕ
holding xs r = held_one (given xs r)
  where
    held_one : Option ℕ → Option ℕ
    held_one None = None
    held_one (Some c) = if has c (pending_list xs) then None else Some c

-- Pins: one more for each pin by the holder and each replicate, one less for each unpin.
abbrev pub pins : List PoolItem → ℕ → ℕ
pins [] c = 0
pins (pinned_by r ∷ xs) c = pins xs c + one_if (is_number (given xs r) c)
pins (replicated d ∷ xs) c = pins xs c + one_if (d == c)
pins (unpinned d ∷ xs) c = pins xs c - one_if (d == c)
pins (_ ∷ xs) c = pins xs c

-- the connection comes back at this item: its holder returns it or gives up
abbrev pub comes_back : PoolItem → List PoolItem → ℕ → Bool
comes_back (returned r used) xs c = is_number (holding xs r) c
comes_back (gave_up r) xs c = is_number (holding xs r) c
comes_back _ xs c = false

abbrev pub is_taking : PoolItem → ℕ → Bool
is_taking (taken r d) c = d == c
is_taking _ c = false

-- Pinned: of its comings back and its takes the last is a coming back, and from there on the pins were never 0.
abbrev pub is_pinned : List PoolItem → ℕ → Bool
is_pinned [] c = false
is_pinned (x ∷ xs) c = (if comes_back x xs c then true else (if is_taking x c then false else is_pinned xs c)) && nat_lt 0 (pins (x ∷ xs) c)

abbrev pub pinned : List PoolItem → ℕ → ℕ
pinned xs c = one_if (is_pinned xs c)

-- the request to which the connection was granted last
abbrev pub granted_to : List PoolItem → ℕ → Option ℕ
granted_to [] c = None
granted_to (granted r d ∷ xs) c = if d == c then Some r else granted_to xs c
granted_to (_ ∷ xs) c = granted_to xs c

-- Available: checked in, or established in the background, and since then neither granted nor closed. In the order in which they came back.
abbrev pub available_list : List PoolItem → List ℕ
available_list [] = []
available_list (checked_in c m ∷ xs) = without c (available_list xs) ++ c ∷ []
available_list (established c how m ∷ xs) = if is_some (granted_to xs c) then available_list xs else (without c (available_list xs) ++ c ∷ [])
available_list (granted r c ∷ xs) = without c (available_list xs)
available_list (closed c ∷ xs) = without c (available_list xs)
available_list (_ ∷ xs) = available_list xs

abbrev pub available : List PoolItem → ℕ → ℕ
available xs c = one_if (has c (available_list xs))

-- the moment since which it is available: of its check-in, or of its establishing in the background
abbrev pub since : List PoolItem → ℕ → ℕ
since [] c = 0
since (checked_in d m ∷ xs) c = if d == c then m else since xs c
since (established d how m ∷ xs) c = if (d == c) && not (is_some (granted_to xs c)) then m else since xs c
since (_ ∷ xs) c = since xs c

-- the service that its established or failed step names
abbrev pub service_of : List PoolItem → ℕ → Option ObjectId
service_of [] c = None
service_of (established d how m ∷ xs) c = if d == c then how.service_id else service_of xs c
service_of (failed d service ∷ xs) c = if d == c then service else service_of xs c
service_of (_ ∷ xs) c = service_of xs c

-- the service that its established step names
abbrev pub known_service : List PoolItem → ℕ → Option ObjectId
known_service [] c = None
known_service (established d how m ∷ xs) c = if d == c then how.service_id else known_service xs c
known_service (_ ∷ xs) c = known_service xs c

-- the wire version that its established step names
abbrev pub wire_of : List PoolItem → ℕ → Option ℤ
wire_of [] c = None
wire_of (established d how m ∷ xs) c = if d == c then Some how.wire else wire_of xs c
wire_of (_ ∷ xs) c = wire_of xs c

-- how many clears by a network timeout came after the last of its grant, take and unpin
abbrev pub timeouts_since : List PoolItem → ℕ → ℕ
timeouts_since [] c = 0
timeouts_since (granted r d ∷ xs) c = if d == c then 0 else timeouts_since xs c
timeouts_since (taken r d ∷ xs) c = if d == c then 0 else timeouts_since xs c
timeouts_since (unpinned d ∷ xs) c = if d == c then 0 else timeouts_since xs c
timeouts_since (raised service error ∷ xs) c = timeouts_since xs c + one_if (is_timeout error.kind)
timeouts_since (_ ∷ xs) c = timeouts_since xs c

-- how the connection was used last: what its last return says, and Ok for a give-up
abbrev pub last_use : List PoolItem → ℕ → Use
last_use [] c = Ok
last_use (returned r used ∷ xs) c = if is_number (given xs r) c then used else last_use xs c
last_use (gave_up r ∷ xs) c = if is_number (given xs r) c then Ok else last_use xs c
last_use (_ ∷ xs) c = last_use xs c

-- Errored: some return of it says so.
abbrev pub is_errored : List PoolItem → ℕ → Bool
is_errored [] c = false
is_errored (returned r Errored ∷ xs) c = is_number (given xs r) c || is_errored xs c
is_errored (_ ∷ xs) c = is_errored xs c

-- uses after which the connection is closed
abbrev pub is_dropped : Use → Bool
is_dropped Dropped = true
is_dropped Streaming = true
is_dropped _ = false

abbrev pub is_fault : Use → Bool
is_fault Errored = true
is_fault _ = false
