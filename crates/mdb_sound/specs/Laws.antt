-- The laws of a pool's history, each a sentence.
use Rattle.std.specs.Prelude.{[], ℕ, ◌≡◌, ◌+◌, ◌<◌, ◌≤◌, true, false, not, ◌&&◌, nat_lt, nat_le, is_some, List, ◌∷◌, ◌++◌, Option, length, filter}
use Rattle.mdb_base.specs.declared.object_id.ObjectId.{ObjectId}
use Rattle.mdb_base.specs.declared.error.Error.{Error}
use Rattle.mdb_log.specs.declared.options.PoolOptions.{PoolOptions}
use Rattle.mdb_log.specs.History.{PoolItem, raised, given, has_asked, is_number, same_service}
use Rattle.mdb_log.specs.Connections.{one_if, has, live, created_total, pending_list, available_list, parties, pins}
use Rattle.mdb_log.specs.Requests.{queued, end_of}
use Rattle.mdb_log.specs.State.{is_closed, state_of, generation_of}
use Rattle.mdb_sound.specs.Sound.{was_closed}
use Rattle.mdb_sound.specs.Counts.{creations, closings, establishings, failures, names, creates, askings, grantings, endings, was_granted, callers, served}

-- What holds of each connection: it is created once, closed once, established once, and lives from its creation to its close.
pub record ConnectionLaws (xs : List PoolItem) (c : ℕ) : Type 0 where
  -- connections are numbered from 1 on, in the order of their creation
  pub created_in_order : creations xs c ≡ one_if (nat_lt 0 c && nat_le c (created_total xs))
  pub created_once : creations xs c ≤ 1
  pub lives_till_closed : live xs c + closings xs c ≡ creations xs c
  pub lives_once : live xs c ≤ 1
  pub closed_once : closings xs c ≤ 1
  pub decided_once : establishings xs c + failures xs c ≤ creations xs c
  pub pending_lives : has c (pending_list xs) ≡ true → live xs c ≡ 1
  pub pending_is_undecided : has c (pending_list xs) ≡ true → establishings xs c + failures xs c ≡ 0
  pub available_lives : has c (available_list xs) ≡ true → live xs c ≡ 1
  pub pinned_lives : 0 < pins xs c → live xs c ≡ 1

-- What holds of an item and a connection that it names: it lives then, unless the item creates it; so none names a connection after its close.
pub record NamingLaws (xs : List PoolItem) (x : PoolItem) (c : ℕ) : Type 0 where
  pub named_lives : names x c ≡ true → creates x c ≡ false → live xs c ≡ 1
  pub silent_after_close : 0 < closings xs c → names x c ≡ false
  pub silent_before_creation : created_total xs < c → creates x c ≡ false → names x c ≡ false

-- What holds of each request: it is made once, granted a connection at most once, ends at most once, and is queued until one of these.
pub record RequestLaws (xs : List PoolItem) (r : ℕ) : Type 0 where
  pub asked_once : askings xs r ≤ 1
  pub granted_once : grantings xs r ≤ askings xs r
  pub ended_once : endings xs r ≤ askings xs r
  pub queued_till_then : has r (queued xs) ≡ has_asked xs r && (not (was_granted xs r) && not (is_some (end_of xs r)))

-- What holds of each party and connection: nobody has two, and no two have one.
pub record PartyLaws (xs : List PoolItem) (r c : ℕ) : Type 0 where
  pub one_connection : has r (parties xs c) ≡ is_number (given xs r) c
  pub one_party : length (parties xs c) ≤ 1

-- First come, first served: the callers that were granted a connection, by their grants, are these callers by their requests.
abbrev pub InOrder : List PoolItem → Type 0
InOrder xs = served xs ≡ filter (was_granted xs) (callers xs)

-- Generations never fall, and a clear for one service leaves those of the others, and that of the pool as a whole.
pub record GenerationLaws (xs : List PoolItem) (s : Option ObjectId) : Type 0 where
  pub never_fall : (later : List PoolItem) → generation_of xs s ≤ generation_of (later ++ xs) s
  pub others_stay : (t : Option ObjectId) (error : Error) → same_service t s ≡ false → generation_of (raised t error ∷ xs) s ≡ generation_of xs s
  pub own_rises : (t : Option ObjectId) (error : Error) → same_service t s ≡ true → generation_of (raised t error ∷ xs) s ≡ generation_of xs s + 1

-- A pool that was closed stays so, without pending and available connections and without a queue.
pub record IsOver (o : PoolOptions) (xs : List PoolItem) : Type 0 where
  pub stays_closed : state_of o xs ≡ is_closed
  pub none_pending : pending_list xs ≡ []
  pub none_available : available_list xs ≡ []
  pub none_queued : queued xs ≡ []

abbrev pub ClosedForGood : PoolOptions → List PoolItem → Type 0
ClosedForGood o xs = was_closed xs ≡ true → IsOver o xs
