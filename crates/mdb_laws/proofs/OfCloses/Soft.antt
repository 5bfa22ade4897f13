-- A clear between a failure and the close of its connection leaves the connection the one that just failed.
use Rattle.std.proofs.Common.{ℕ, ◌≡◌, ◌==◌, Bool, true, false, List, [], ◌∷◌, ◌++◌, Option, Some, None, refl}
use Rattle.std.specs.Prelude.{⊤}
use Rattle.mdb_base.specs.declared.address.ServerAddress.{ServerAddress}
use Rattle.mdb_base.specs.declared.error.Error.{Error}
use Rattle.mdb_base.specs.declared.object_id.ObjectId.{ObjectId}
use Rattle.mdb_base.specs.declared.options.Options.{Options}
use Rattle.mdb_events.specs.declared.cmap.CmapEvent.TheVariants.{PoolCleared, ConnectionCheckoutFailed}
use Rattle.mdb_events.specs.declared.end.End.{End}
use Rattle.mdb_events.specs.declared.end.End.TheVariants.{Cleared}
use Rattle.mdb_events.specs.declared.fact.Fact.{Fact}
use Rattle.mdb_events.specs.declared.fact.Fact.TheVariants.{Pool, Ended, Raised}
use Rattle.mdb_log.specs.declared.options.PoolOptions.{PoolOptions}
use Rattle.mdb_log.specs.History.{Item, PoolItem, if_so, raised, ended, of_pool, has_asked, after_fact, after_facts}
use Rattle.mdb_log.specs.Opening.{pool_options}
use Rattle.mdb_log.specs.Requests.{is_warm, queued}
use Rattle.mdb_log.specs.State.{State, is_new, is_ready, is_paused, is_closed, state_of}
use Rattle.mdb_pool_rules.specs.Facts.{end_facts, all_ends, clear_facts}
use Rattle.mdb_sound.specs.Sound.{just_failed}
use Rattle.mdb_driver_rules.specs.Errors.{Clear, nothing, whole, only, Trouble}
use Rattle.mdb_driver_rules.specs.Facts.{clearing}

-- facts of clears and ends
abbrev pub IsSoft : Fact → Type 0
IsSoft (Raised q service error) = ⊤
IsSoft (Ended r end) = ⊤
IsSoft (Pool q (PoolCleared e)) = ⊤
IsSoft (Pool q (ConnectionCheckoutFailed e)) = ⊤
IsSoft _ = ⊥

abbrev pub AreSoft : List Fact → Type 0
AreSoft [] = ⊤
AreSoft (f ∷ fs) = IsSoft f × AreSoft fs

soft-both : (fs gs : List Fact) → AreSoft fs → AreSoft gs → AreSoft (fs ++ gs)
soft-both [] gs a b = b
soft-both (f ∷ fs) gs a b = (a.0, soft-both fs gs a.1 b)

if-soft : (b : Bool) (x : PoolItem) (xs : List PoolItem) (c : ℕ) → just_failed (x ∷ xs) c ≡ just_failed xs c → just_failed xs c ≡ true → just_failed (if_so b x xs) c ≡ true
if-soft true x xs c e w = rw e w
if-soft false x xs c e w = w

soft-one : (p m : ℕ) (f : Fact) (xs : List PoolItem) (c : ℕ) → IsSoft f → just_failed xs c ≡ true → just_failed (after_fact p m f xs) c ≡ true
soft-one p m (Raised q service error) xs c i w = if-soft (q == p) (raised service error) xs c refl w
soft-one p m (Ended r end) xs c i w = if-soft (has_asked xs r) (ended r end) xs c refl w
soft-one p m (Pool q (PoolCleared e)) xs c i w = w
soft-one p m (Pool q (ConnectionCheckoutFailed e)) xs c i w = w
soft-one p m _ xs c i w = elim i [ ]

pub soft-keeps : (p m : ℕ) (fs : List Fact) (xs : List PoolItem) (c : ℕ) → AreSoft fs → just_failed xs c ≡ true → just_failed (after_facts p m fs xs) c ≡ true
soft-keeps p m [] xs c i w = w
soft-keeps p m (f ∷ fs) xs c i w = soft-keeps p m fs (after_fact p m f xs) c i.1 (soft-one p m f xs c i.0 w)

module _ (p : ℕ) (a : ServerAddress) (m : ℕ) where
  ends-soft : (xs : List PoolItem) (end : End) (rs : List ℕ) → AreSoft (all_ends p a m xs end rs)
  ends-soft xs end [] = tt
  ends-soft xs end (r ∷ rs) = soft-both (end_facts p a m xs r end) (all_ends p a m xs end rs) (on (is_warm xs r) refl) (ends-soft xs end rs)
    where
      on : (b : Bool) → is_warm xs r ≡ b → AreSoft (end_facts p a m xs r end)
      on true e = rw e (tt, tt)
      on false e = rw e (tt, (tt, tt))

  clear-soft : (o : PoolOptions) (xs : List PoolItem) (service : Option ObjectId) (error : Error) → AreSoft (clear_facts p a o m xs service error)
  clear-soft o xs service error = on (state_of o xs) service refl
    where
      on : (t : State) (k : Option ObjectId) → state_of o xs ≡ t → AreSoft (clear_facts p a o m xs k error)
      on is_closed k e = rw e tt
      on is_new None e = rw e (tt, tt)
      on is_new (Some s) e = rw e (tt, (tt, tt))
      on (is_paused why) None e = rw e (tt, tt)
      on (is_paused why) (Some s) e = rw e (tt, (tt, tt))
      on is_ready (Some s) e = rw e (tt, (tt, tt))
      on is_ready None e = rw e (tt, (tt, ends-soft xs (Cleared error) (queued xs)))

pub clearing-soft : (o : Options) (m : ℕ) (y : Option Trouble) (clear : Clear) (k : List Item) → AreSoft (clearing o m y clear k)
clearing-soft o m None clear k = tt
clearing-soft o m (Some x) nothing k = tt
clearing-soft o m (Some x) whole k = clear-soft x.pool x.address m (pool_options o) (of_pool x.pool k) None x.error
clearing-soft o m (Some x) (only s) k = clear-soft x.pool x.address m (pool_options o) (of_pool x.pool k) (Some s) x.error
