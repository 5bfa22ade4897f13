-- When the pools of a driver stand for a history.
use Rattle.std.specs.Prelude.{ℕ, ◌≡◌, ◌==◌, Bool, true, false, not, ◌&&◌, is_some, if◌then◌else◌, List, [], ◌∷◌, length, map, position, slice_get, Option, Some, None}
use Rattle.std.specs.List.{list_any}
use Rattle.mdb_base.specs.Equality.{same_address}
use Rattle.mdb_intervals.specs.Spans.{has as is_within}
use Rattle.mdb_base.specs.declared.address.ServerAddress.{ServerAddress}
use Rattle.mdb_log.specs.declared.options.PoolOptions.{PoolOptions}
use Rattle.mdb_pool.specs.Core.{PoolCore}
use Rattle.mdb_log.specs.History.{is_number, Item, has_asked, of_pool, open_pool}
use Rattle.mdb_log.specs.Connections.{holding, is_live}
use Rattle.mdb_log.specs.Requests.{some_act, names_party, was_asked, leaves, told, is_claimed, is_open}
use Rattle.mdb_pool.specs.Now.{asked_now, claimed_now, is_closed_now, knows_now, settled_now}
use Rattle.mdb_pool_rules.specs.Serving.{IsServed}
use Rattle.mdb_pool_rules.specs.Quiet.{IsQuiet}
use Rattle.mdb_log.specs.Limits.{WithinLimits}
use Rattle.mdb_pool.specs.Standing.{Fits}
use Rattle.mdb_log.specs.Homes.{Home, homes}
use Rattle.mdb_driver_pools.specs.declared.pools.Pools.{Pools}

abbrev pub home : PoolCore → Home
home s = record { number = s.pool; address = s.address }

-- the pool is open, and at the address
abbrev pub is_open_at : ServerAddress → PoolCore → Bool
is_open_at a s = not (is_closed_now s) && same_address s.address a

-- the pool that is open at the address
abbrev pub at_address : List PoolCore → ServerAddress → Option ℕ
at_address pools a = position (is_open_at a) pools

-- the pool with the number is the open one of the address
abbrev pub is_here_among : List PoolCore → ServerAddress → ℕ → Bool
is_here_among pools a p = is_number (at_address pools a) p

-- no pool is open at one of the addresses
abbrev pub are_absent : List PoolCore → List ServerAddress → Bool
are_absent pools [] = true
are_absent pools (a ∷ more) = not (is_some (at_address pools a)) && are_absent pools more

-- the pools with one that was opened at the address, where none was
abbrev pub HasOpened : List PoolCore → ServerAddress → List PoolCore → Type 0
HasOpened pools a later = (b : ServerAddress) → at_address later b ≡ (if same_address a b then Some (length pools) else at_address pools b)

-- some pool knows the party: it asked, or took a pinned connection
abbrev pub knows : List PoolCore → ℕ → Bool
knows pools r = list_any (λ s. knows_now s r) pools

-- some pool was asked by the party
abbrev pub requested : List PoolCore → ℕ → Bool
requested pools r = list_any (λ s. asked_now s r) pools

-- some pool keeps that the request is settled
abbrev pub settled : List PoolCore → ℕ → Bool
settled pools r = list_any (λ s. settled_now s r) pools

-- the pool with the number p
pub record PoolFits (o : PoolOptions) (h : List Item) (p : ℕ) (s : PoolCore) : Type 0 where
  pub number : s.pool ≡ p
  pub options : s.options ≡ o
  pub fits : Fits s (of_pool p h)

-- the driver keeps the number of each party that some pool knows, and no other
abbrev pub KnowsAll : Pools → Type 0
KnowsAll p = (r : ℕ) → is_within r p.known.spans ≡ knows p.cores.items r

-- Nothing of the pool with the number p lives: it is not open, nobody holds a connection of it, none of it lives, and no request that was made at it is open.
pub record IsGone (h : List Item) (p : ℕ) : Type 0 where
  pub shut : (a : ServerAddress) → open_pool h a ≡ Some p → ⊥
  pub held : (r : ℕ) → holding (of_pool p h) r ≡ None
  pub live : (c : ℕ) → is_live (of_pool p h) c ≡ false
  pub open_none : (r : ℕ) → has_asked (of_pool p h) r && is_open h r ≡ false

-- no party is known to two pools
abbrev pub IsApart : List PoolCore → Type 0
IsApart pools = (r p q : ℕ) (s t : PoolCore) → slice_get pools p ≡ Some s → slice_get pools q ≡ Some t → knows_now s r ≡ true → knows_now t r ≡ true → p ≡ q

-- at most one pool is open at an address
abbrev pub IsSingle : List PoolCore → Type 0
IsSingle pools = (a : ServerAddress) (p q : ℕ) (s t : PoolCore) → slice_get pools p ≡ Some s → slice_get pools q ≡ Some t → is_open_at a s ≡ true → is_open_at a t ≡ true → p ≡ q

-- The pools are those of the history, between the calls of a step too.
pub record PoolsFit (o : PoolOptions) (pools : List PoolCore) (h : List Item) : Type 0 where
  pub each : (p : ℕ) (s : PoolCore) → slice_get pools p ≡ Some s → PoolFits o h p s
  pub rest : (p : ℕ) → slice_get pools p ≡ None → of_pool p h ≡ []
  pub homes_are : homes h ≡ map home pools
  pub open_are : (a : ServerAddress) → open_pool h a ≡ at_address pools a
  pub single : IsSingle pools
  pub names : (r : ℕ) → some_act names_party h r ≡ knows pools r
  pub apart : IsApart pools
  -- what was told and claimed
  pub requested : (r : ℕ) → some_act was_asked h r ≡ requested pools r
  pub opens : (r : ℕ) → (told h r == 0) && not (some_act leaves h r) ≡ not (settled pools r)
  pub noted : (p : ℕ) (s : PoolCore) (r : ℕ) → slice_get pools p ≡ Some s → settled_now s r ≡ true → knows_now s r ≡ true
  pub claims : (p : ℕ) (s : PoolCore) (c : ℕ) → slice_get pools p ≡ Some s → is_claimed h p c ≡ claimed_now s c
  pub unclaimed : (p c : ℕ) → slice_get pools p ≡ None → is_claimed h p c ≡ false

-- Between two steps each pool is served, has nobody queued in vain, and keeps its limits.
pub record PoolsStand (o : PoolOptions) (pools : List PoolCore) (h : List Item) : Type 0 where
  pub fit : PoolsFit o pools h
  pub served : (p : ℕ) → IsServed o (of_pool p h)
  pub quiet : (p : ℕ) → IsQuiet o (of_pool p h)
  pub within : (p : ℕ) → WithinLimits o (of_pool p h)
