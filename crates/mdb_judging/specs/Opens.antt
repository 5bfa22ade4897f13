-- What the auditor keeps of the pools that were opened, and of which is open at an address.
use Rattle.std.specs.Prelude.{ℕ, ◌+◌, ◌≡◌, ◌≤◌, Bool, if◌then◌else◌, ◌==◌, not, ◌&&◌, ◌||◌, List, [], ◌∷◌, ◌++◌, map, Option, Some, None}
use Rattle.std.specs.List.{list_any, list_all}
use Rattle.mdb_base.specs.declared.address.ServerAddress.{ServerAddress}
use Rattle.mdb_base.specs.declared.options.Options.{Options}
use Rattle.mdb_base.specs.Equality.{same_address}
use Rattle.mdb_events.specs.declared.cmap.CmapEvent.TheVariants.{PoolClosed}
use Rattle.mdb_log.specs.Homes.{Home, homes}
use Rattle.mdb_log.specs.History.{Item, open_pool}
use Rattle.mdb_log.specs.PlainLegal.{counts_from, is_ascending, has_address}
use Rattle.mdb_entries.specs.declared.shown.ShownFact.{ShownFact}
use Rattle.mdb_entries.specs.declared.shown.ShownFact.TheVariants.{Opened, Pool}
use Rattle.mdb_judging.specs.declared.homes.OpenedPool.{OpenedPool}
use Rattle.mdb_judging.specs.declared.homes.Homes.{Homes}
use Rattle.mdb_tallies.specs.declared.tables.Tables.{Tables}
use Rattle.mdb_tallies.specs.Tables.{at, same_key}
use Rattle.mdb_judging.specs.declared.newest.Last.{Last}
use Rattle.mdb_judging.specs.Newest.{last_at}

abbrev pub home_of : OpenedPool → Home
home_of x = record { number = x.number; address = x.address }

abbrev pub address_of : OpenedPool → ServerAddress
address_of x = x.address

-- the number of the pool, unless it was closed since it was opened: then it was closed more often than by then
abbrev pub still_open : Homes → Option Last → Option ℕ
still_open x None = None
still_open x (Some last) = if at x.closings last.number 0 0 == last.closings then Some last.number else None

-- the last pool opened at the address, unless it was closed
abbrev pub open_at : Homes → ServerAddress → Option ℕ
open_at x a = still_open x (last_at x.newest a)

-- the tables have the pool, and it is ready
abbrev pub is_ready_now : Tables → OpenedPool → Bool
is_ready_now t x = (at t.pools x.number 0 0).is_opened && (at t.pools x.number 0 0).is_ready

-- one of the pools was opened at the address
abbrev pub is_opened_at : List OpenedPool → ServerAddress → Bool
is_opened_at xs a = list_any (λ x. same_address a x.address) xs

-- the pools are exactly those of the seeds, in the order of their addresses, with numbers from 0, and ready where load balanced
abbrev pub opens_now : Options → List OpenedPool → Tables → Bool
opens_now o xs t =
    counts_from 0 (map home_of xs) && (is_ascending (map address_of xs) && (list_all (is_opened_at xs) o.seeds && (list_all (λ x. has_address o.seeds x.address) xs
    && (not o.load_balanced || list_all (is_ready_now t) xs))))

-- The pools are those of the history, and none was closed less often than by the time at which it was opened.
pub record HomesStand (h : List Item) (x : Homes) : Type 0 where
  pub all : map home_of x.all.items ≡ homes h
  pub here : (a : ServerAddress) → open_at x a ≡ open_pool h a
  pub within : (a : ServerAddress) (last : Last) → last_at x.newest a ≡ Some last → last.closings ≤ at x.closings last.number 0 0

-- the pool was opened at the address
pub record IsOpened (p : ℕ) (a : ServerAddress) (old new : Homes) : Type 0 where
  pub all : new.all.items ≡ old.all.items ++ record { number = p; address = a } ∷ []
  pub newest : (b : ServerAddress) → last_at new.newest b ≡ (if same_address a b then Some (record { number = p; closings = at old.closings p 0 0 }) else last_at old.newest b)
  pub closings : new.closings ≡ old.closings

-- the pools of this number were closed
pub record IsClosed (p : ℕ) (old new : Homes) : Type 0 where
  pub all : new.all.items ≡ old.all.items
  pub newest : new.newest ≡ old.newest
  pub closings : (a b c : ℕ) → at new.closings a b c ≡ (if same_key p 0 0 a b c then at old.closings p 0 0 + 1 else at old.closings a b c)

-- What a fact changes of the pools.
abbrev pub HomesFollow : ShownFact → Homes → Homes → Type 0
HomesFollow (Opened p a) old new = IsOpened p a old new
HomesFollow (Pool p (PoolClosed e)) old new = IsClosed p old new
HomesFollow _ old new = new ≡ old
