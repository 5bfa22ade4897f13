-- The laws of a driver's history, each a sentence.
use Rattle.std.specs.Prelude.{ℕ, zero, suc, ◌≡◌, ◌≢◌, ◌+◌, ◌<◌, ◌≤◌, Bool, true, false, ◌&&◌, ◌||◌, ◌==◌, List, [], ◌∷◌, ◌++◌, Option, Some}
use Rattle.std.specs.List.{list_any}
use Rattle.mdb_base.specs.declared.object_id.ObjectId.{ObjectId}
use Rattle.mdb_base.specs.declared.address.ServerAddress.{ServerAddress}
use Rattle.mdb_base.specs.declared.error.Error.{Error}
use Rattle.mdb_events.specs.declared.fact.Fact.{Fact}
use Rattle.mdb_events.specs.declared.fact.Fact.TheVariants.{Ended}
use Rattle.mdb_log.specs.declared.options.PoolOptions.{PoolOptions}
use Rattle.mdb_log.specs.History.{Item, PoolItem, granted, taken, returned, ended, after_facts, of_pool, has_party, same_service}
use Rattle.mdb_log.specs.Connections.{live, pending, available, held, pinned, created_total}
use Rattle.mdb_log.specs.Requests.{queued, end_of}
use Rattle.mdb_log.specs.State.{state_of, ready, generation_of}
use Rattle.mdb_pool_rules.specs.Facts.{clear_facts, readied}
use Rattle.mdb_sound.specs.Counts.{creations, closings, establishings, names, creates}
use Rattle.mdb_sound.specs.Laws.{RequestLaws, InOrder}

-- the item hands the connection to the party: a grant, or a take
abbrev pub hands : PoolItem → ℕ → ℕ → Bool
hands (granted r d) c q = (d == c) && (r == q)
hands (taken r d) c q = (d == c) && (r == q)
hands _ c q = false

-- the party returned what it had, or its request ended
abbrev pub gives_back : List PoolItem → ℕ → Bool
gives_back [] r = false
gives_back (returned q used ∷ xs) r = (q == r) || gives_back xs r
gives_back (ended q end ∷ xs) r = (q == r) || gives_back xs r
gives_back (_ ∷ xs) r = gives_back xs r

-- Between two hand-outs of a connection the first party returned it, or its request ended.
abbrev pub HandsBack : List PoolItem → Type 0
HandsBack xs = (later between before : List PoolItem) (x y : PoolItem) (c q r : ℕ) → xs ≡ later ++ (x ∷ (between ++ (y ∷ before))) → hands x c q ≡ true → hands y c r ≡ true → gives_back between r ≡ true

-- A connection is created, ready and closed at most once. It is created before anything else is said of it, and nothing names it after its close.
pub record LivesOnce (xs : List PoolItem) (c : ℕ) : Type 0 where
  pub created_once : creations xs c ≤ 1
  pub ready_once : establishings xs c ≤ 1
  pub closed_once : closings xs c ≤ 1
  pub created_first : (later before : List PoolItem) (x : PoolItem) → xs ≡ later ++ (x ∷ before) → names x c ≡ true → creates x c ≡ false → creations before c ≡ 1
  pub silent_after_close : (later before : List PoolItem) (x : PoolItem) → xs ≡ later ++ (x ∷ before) → 0 < closings before c → names x c ≡ false

-- A request is granted a connection at most once and ends at most once, callers are granted theirs in the order of their requests in each pool, and no party is in two pools.
pub record ServesInOrder (h : List Item) : Type 0 where
  pub once : (p r : ℕ) → RequestLaws (of_pool p h) r
  pub in_order : (p : ℕ) → InOrder (of_pool p h)
  pub one_pool : (r p q : ℕ) → p ≢ q → has_party (of_pool p h) r ≡ true → has_party (of_pool q h) r ≡ false

-- the sum over the numbers from 1 to n
abbrev pub total : (ℕ → ℕ) → ℕ → ℕ
total f zero = 0
total f (suc n) = total f n + f (suc n)

-- Each connection has as many places and closes as creations; and the live connections of a pool are its pending, available, held and pinned ones.
pub record IsCounted (xs : List PoolItem) : Type 0 where
  pub each : (c : ℕ) → pending xs c + available xs c + held xs c + pinned xs c + closings xs c ≡ creations xs c
  pub all : total (live xs) (created_total xs) ≡ total (pending xs) (created_total xs) + total (available xs) (created_total xs) + total (held xs) (created_total xs) + total (pinned xs) (created_total xs)

-- Generations never fall, whatever comes later.
abbrev pub NeverFall : List Item → Type 0
NeverFall h = (p : ℕ) (s : Option ObjectId) (later : List Item) → generation_of (of_pool p h) s ≤ generation_of (of_pool p (later ++ h)) s

abbrev pub is_end : Fact → Bool
is_end (Ended r end) = true
is_end _ = false

-- what is known of the pool after the facts of a clear for the service
abbrev pub cleared_for : ℕ → ServerAddress → PoolOptions → ℕ → List PoolItem → ObjectId → Error → List PoolItem
cleared_for p a o m xs s error = after_facts p m (clear_facts p a o m xs (Some s) error) xs

-- A clear for one service changes no other's generation and not that of the pool as a whole, pauses nothing, and ends nobody.
pub record ClearsOne (p : ℕ) (a : ServerAddress) (o : PoolOptions) (m : ℕ) (xs : List PoolItem) (s : ObjectId) (error : Error) : Type 0 where
  pub others_stay : (t : Option ObjectId) → same_service (Some s) t ≡ false → generation_of (cleared_for p a o m xs s error) t ≡ generation_of xs t
  pub state_stays : state_of o (cleared_for p a o m xs s error) ≡ state_of o xs
  pub queue_stays : queued (cleared_for p a o m xs s error) ≡ queued xs
  pub ends_stay : (r : ℕ) → end_of (cleared_for p a o m xs s error) r ≡ end_of xs r
  pub ends_none : list_any is_end (clear_facts p a o m xs (Some s) error) ≡ false

-- Marking a ready pool ready makes no fact.
abbrev pub IsReadyOnce : ℕ → ServerAddress → PoolOptions → ℕ → List PoolItem → Type 0
IsReadyOnce p a o m xs = ready (state_of o xs) ≡ true → readied p a o m xs ≡ []
