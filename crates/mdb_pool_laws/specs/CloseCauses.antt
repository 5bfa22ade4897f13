-- Why connections are closed: six situations, each with its reasons in their order. The items of a pool are newest first.
use Rattle.std.specs.Prelude.{ℕ, ◌≡◌, Bool, true, false, ◌&&◌, ◌||◌, if◌then◌else◌, ◌==◌, List, [], ◌∷◌, Option, Some, None, ⊤}
use Rattle.std.specs.List.{list_any}
use Rattle.mdb_base.specs.declared.address.ServerAddress.{ServerAddress}
use Rattle.mdb_events.specs.declared.cmap.CmapEvent.TheVariants.{ConnectionClosed, ConnectionCheckedIn, PoolClosed}
use Rattle.mdb_events.specs.declared.fact.Fact.{Fact}
use Rattle.mdb_events.specs.declared.fact.Fact.TheVariants.{Pool}
use Rattle.mdb_events.specs.declared.reasons.ConnectionClosedReason.{ConnectionClosedReason}
use Rattle.mdb_events.specs.declared.reasons.ConnectionClosedReason.TheVariants.{Stale, Idle, Error, Dropped, PoolClosed as AsPoolClosed}
use Rattle.mdb_log.specs.declared.options.PoolOptions.{PoolOptions}
use Rattle.mdb_log.specs.declared.log.Entry.{Entry}
use Rattle.mdb_log.specs.declared.step.Step.{Step}
use Rattle.mdb_log.specs.declared.step.Act.{Act}
use Rattle.mdb_log.specs.declared.step.Act.TheVariants.{Maintain}
use Rattle.mdb_log.specs.History.{Item, PoolItem, gave_up, returned, unpinned, checked_in, ended, is_number, open_pool, after_fact, with_act, with_answer}
use Rattle.mdb_log.specs.Connections.{has, pending_list, available_list, holding, pins, is_pinned, last_use, is_errored, is_dropped}
use Rattle.mdb_log.specs.Requests.{waiting}
use Rattle.mdb_log.specs.Legal.{first}
use Rattle.mdb_log.specs.State.{is_closed, state_of, ready, is_stale, is_idle}
use Rattle.mdb_pool_rules.specs.Serving.{last_of}
use Rattle.mdb_sound.specs.Sound.{just_failed}

-- the first of the reasons whose test holds
abbrev pub first_reason : List (Bool × ConnectionClosedReason) → Option ConnectionClosedReason
first_reason [] = None
first_reason ((holds, why) ∷ rest) = if holds then Some why else first_reason rest

-- A connection that was just checked in is closed where it is errored, else where it is stale, else where its last use dropped it.
abbrev pub reason_back : PoolOptions → List PoolItem → ℕ → Option ConnectionClosedReason
reason_back o xs c = first_reason ((is_errored xs c, Error) ∷ (is_stale o xs c, Stale) ∷ (is_dropped (last_use xs c), Dropped) ∷ [])

-- An available connection is closed at the moment m where it is stale, else where it is idle.
abbrev pub reason_found : PoolOptions → ℕ → List PoolItem → ℕ → Option ConnectionClosedReason
reason_found o m xs c = first_reason ((is_stale o xs c, Stale) ∷ (is_idle o m xs c, Idle) ∷ [])

-- the last item checks the connection in
abbrev pub just_checked_in : List PoolItem → ℕ → Bool
just_checked_in (checked_in d n ∷ xs) c = d == c
just_checked_in _ c = false

-- by the last item but for ends its holder returned the connection or gave up, or it was unpinned at its pin
abbrev pub just_back : List PoolItem → ℕ → Bool
just_back (returned r used ∷ xs) c = is_number (holding xs r) c
just_back (gave_up r ∷ xs) c = is_number (holding xs r) c
just_back (unpinned d ∷ xs) c = (d == c) && is_pinned xs c
just_back (ended r end ∷ xs) c = just_back xs c
just_back _ c = false

-- the pool is closed, and a connection without pins comes back to it
pub record BackAtClosed (o : PoolOptions) (xs : List PoolItem) (c : ℕ) : Type 0 where
  pub shut : state_of o xs ≡ is_closed
  pub back : just_back xs c ≡ true
  pub loose : pins xs c ≡ 0

-- the pool is ready, a caller waits, and the connection is the one that came back last of the available ones
pub record IsMet (o : PoolOptions) (xs : List PoolItem) (c : ℕ) : Type 0 where
  pub open_now : ready (state_of o xs) ≡ true
  pub caller : ℕ
  pub waits : first (waiting xs) ≡ Some caller
  pub newest : last_of (available_list xs) ≡ Some c

-- the step is maintenance at the pool's address, and the connection is available; here tells the pool that is open at an address
pub record IsSwept (p : ℕ) (here : ServerAddress → Option ℕ) (act : Act) (xs : List PoolItem) (c : ℕ) : Type 0 where
  pub address : ServerAddress
  pub maintains : act ≡ Maintain address
  pub at : is_number (here address) p ≡ true
  pub available : has c (available_list xs) ≡ true

-- the fact closes the pool p
abbrev pub closes_pool : ℕ → Fact → Bool
closes_pool p (Pool q (PoolClosed e)) = q == p
closes_pool p _ = false

-- the pool closes in this answer, later on, and the connection is available or pending
pub record IsShut (p : ℕ) (later : List Fact) (xs : List PoolItem) (c : ℕ) : Type 0 where
  pub closes : list_any (closes_pool p) later ≡ true
  pub there : has c (available_list xs) || has c (pending_list xs) ≡ true

-- The connection c of the pool p is closed by an answer to the act at the moment m: xs are the pool's items before it, and later the facts that come after it.
pub data IsCaused (p : ℕ) (o : PoolOptions) (here : ServerAddress → Option ℕ) (m : ℕ) (act : Act) (xs : List PoolItem) (later : List Fact) (c : ℕ) (why : ConnectionClosedReason) : Type 0 where
  failing : just_failed xs c ≡ true → why ≡ Error → IsCaused p o here m act xs later c why
  checking_in : just_checked_in xs c ≡ true → reason_back o xs c ≡ Some why → IsCaused p o here m act xs later c why
  coming_back : BackAtClosed o xs c → why ≡ AsPoolClosed → IsCaused p o here m act xs later c why
  meeting : IsMet o xs c → reason_found o m xs c ≡ Some why → IsCaused p o here m act xs later c why
  sweeping : IsSwept p here act xs c → reason_found o m xs c ≡ Some why → IsCaused p o here m act xs later c why
  shutting : IsShut p later xs c → why ≡ AsPoolClosed → IsCaused p o here m act xs later c why

-- the first of the facts closes the connection c of the pool p
abbrev pub IsClosedNext : ℕ → ℕ → ConnectionClosedReason → List Fact → Type 0
IsClosedNext p c why (Pool q (ConnectionClosed e) ∷ later) = (q ≡ p) × (e.connection_id ≡ c) × (e.reason ≡ why)
IsClosedNext p c why _ = ⊥

module _ (p : ℕ) (o : PoolOptions) (here : ServerAddress → Option ℕ) (m : ℕ) (act : Act) where
  -- A fact that closes a connection of the pool has a cause, and a connection that is checked in is closed next where there is a reason.
  abbrev pub HasCause : List PoolItem → Fact → List Fact → Type 0
  HasCause xs (Pool q (ConnectionClosed e)) later = q ≡ p → IsCaused p o here m act xs later e.connection_id e.reason
  HasCause xs (Pool q (ConnectionCheckedIn e)) later = q ≡ p → (why : ConnectionClosedReason) → reason_back o (checked_in e.connection_id m ∷ xs) e.connection_id ≡ Some why → IsClosedNext p e.connection_id why later
  HasCause xs _ later = ⊤

  -- each of the facts, where those before it have come
  abbrev pub AllCaused : List PoolItem → List Fact → Type 0
  AllCaused xs [] = ⊤
  AllCaused xs (f ∷ fs) = HasCause xs f fs × AllCaused (after_fact p m f xs) fs

-- so is each close of each pool in the answer to a step after the history
abbrev pub AnswerCaused : PoolOptions → List Item → Step → List Fact → Type 0
AnswerCaused o h step facts = (p : ℕ) → AllCaused p o (open_pool h) step.moment step.act (with_act p h step) facts

-- and in each of the entries, one after another
abbrev pub EntriesCaused : PoolOptions → List Item → List Entry → Type 0
EntriesCaused o h [] = ⊤
EntriesCaused o h (entry ∷ entries) = AnswerCaused o h entry.step entry.facts × EntriesCaused o (with_answer entry.step entry.reply entry.facts h) entries
