-- Walks over the pools that were opened, and the rule of the first entry.
use Rattle.std.proofs.Common.{◌≡◌, ℕ, ◌≤◌, ◌+◌, zero, suc, Bool, true, false, not, ◌&&◌, ◌||◌, if◌then◌else◌, None, List, [], ◌∷◌, length, drop, map, refl, ap, ◌∙◌, arith}
use Rattle.std.specs.List.{list_all}
use Rattle.mdb_base.specs.Equality.{same_address}
use Rattle.mdb_base.specs.declared.address.ServerAddress.{ServerAddress}
use Rattle.mdb_base.specs.declared.options.Options.{Options}
use Rattle.mdb_log.specs.declared.options.PoolOptions.{PoolOptions}
use Rattle.mdb_log.specs.Connections.{has}
use Rattle.mdb_log.specs.History.{Item, of_pool}
use Rattle.mdb_log.specs.Homes.{Home, homes}
use Rattle.mdb_log.specs.Opening.{pool_options}
use Rattle.mdb_log.specs.PlainLegal.{counts_from, is_ascending, has_address, opens_seeds}
use Rattle.mdb_log.specs.PlainState.{pools, last_state, has_ready, is_ready_pool}
use Rattle.mdb_tallies.specs.Kept.{Stands}
use Rattle.mdb_judging.specs.Opens.{HomesStand, home_of, address_of, is_ready_now, is_opened_at, opens_now}
use Rattle.mdb_judging.specs.declared.homes.OpenedPool.{OpenedPool}
use Rattle.mdb_judging.specs.declared.homes.Homes.{Homes}
use Rattle.mdb_tallies.specs.declared.tables.Tables.{Tables}

-- no address comes after the last one
pub ascends-end : (xs : List OpenedPool) (i : ℕ) → length xs ≤ i + 1 → is_ascending (map address_of (drop i xs)) ≡ true
ascends-end [] zero h = refl
ascends-end [] (suc i) h = refl
ascends-end (x ∷ []) zero h = refl
ascends-end (x ∷ y ∷ xs) zero h = absurd (omega arith)
ascends-end (x ∷ xs) (suc i) h = ascends-end xs i (omega arith)

opened-at : (a : ServerAddress) (xs : List OpenedPool) → is_opened_at xs a ≡ has_address (map (λ x. x.address) (map home_of xs)) a
opened-at a [] = refl
opened-at a (x ∷ xs) = ap (λ b. same_address a x.address || b) (opened-at a xs)

each-opened : (seeds : List ServerAddress) (xs : List OpenedPool) → list_all (is_opened_at xs) seeds ≡ list_all (has_address (map (λ x. x.address) (map home_of xs))) seeds
each-opened [] xs = refl
each-opened (s ∷ seeds) xs = (λ i. opened-at s xs i && each-opened seeds xs i)

no-other : (seeds : List ServerAddress) (xs : List OpenedPool) → list_all (λ x. has_address seeds x.address) xs ≡ list_all (has_address seeds) (map (λ x. x.address) (map home_of xs))
no-other seeds [] = refl
no-other seeds (x ∷ xs) = ap (λ b. has_address seeds x.address && b) (no-other seeds xs)

address-list : (xs : List OpenedPool) → map address_of xs ≡ map (λ x. x.address) (map home_of xs)
address-list [] = refl
address-list (x ∷ xs) = ap (λ ys. x.address ∷ ys) (address-list xs)

ready-here : (o : PoolOptions) (h : List Item) (t : Tables) (x : OpenedPool) → Stands o h t → is_ready_now t x ≡ is_ready_pool o x.number h
ready-here o h t x s = ap (λ p. p.is_opened && p.is_ready) (s.pools x.number) ∙ by (has x.number (pools h))
  where
    by : (b : Bool) → b && has_ready (last_state o (of_pool x.number h)) ≡ has_ready (if b then last_state o (of_pool x.number h) else None)
    by true = refl
    by false = refl

all-ready : (o : PoolOptions) (h : List Item) (t : Tables) (xs : List OpenedPool) → Stands o h t → list_all (is_ready_now t) xs ≡ list_all (λ x. is_ready_pool o x.number h) (map home_of xs)
all-ready o h t [] s = refl
all-ready o h t (x ∷ xs) s = (λ i. ready-here o h t x s i && all-ready o h t xs s i)

-- what is said of the homes of the history, said of these
abbrev opens_these : Options → List Home → List Item → Bool
opens_these o xs h =
    let addresses : List ServerAddress = map (λ x. x.address) xs in
    counts_from 0 xs && (is_ascending addresses && (list_all (has_address addresses) o.seeds && (list_all (has_address o.seeds) addresses
    && (not o.load_balanced || list_all (λ x. is_ready_pool (pool_options o) x.number h) xs))))

these : (o : Options) (xs : List OpenedPool) (t : Tables) (h : List Item) → Stands (pool_options o) h t → opens_now o xs t ≡ opens_these o (map home_of xs) h
these o xs t h s = (λ i. counts_from 0 (map home_of xs) && (is_ascending (address-list xs i) && (each-opened o.seeds xs i && (no-other o.seeds xs i && (not o.load_balanced || all-ready (pool_options o) h t xs s i)))))

-- The pools and the tables stand for a history that opens exactly the seeds, or for one that does not.
pub opens-so : (o : Options) (x : Homes) (t : Tables) (h : List Item) → HomesStand h x → Stands (pool_options o) h t → opens_now o x.all.items t ≡ opens_seeds o h
opens-so o x t h homes tables = these o x.all.items t h tables ∙ ap (λ xs. opens_these o xs h) homes.all
