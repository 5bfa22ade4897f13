-- The item of a failed connection changes places with the items of a clear.
use Rattle.std.proofs.Common.{ℕ, ◌≡◌, ◌==◌, Bool, true, false, List, [], ◌∷◌, ◌++◌, Option, Some, None, refl}
use Rattle.mdb_base.specs.declared.address.ServerAddress.{ServerAddress}
use Rattle.mdb_base.specs.declared.object_id.ObjectId.{ObjectId}
use Rattle.mdb_base.specs.declared.error.Error.{Error}
use Rattle.mdb_events.specs.declared.cmap.CmapEvent.TheVariants as event
use Rattle.mdb_events.specs.declared.end.End.{End}
use Rattle.mdb_events.specs.declared.end.End.TheVariants.{Cleared}
use Rattle.mdb_events.specs.declared.fact.Fact.{Fact}
use Rattle.mdb_events.specs.declared.fact.Fact.TheVariants as fact
use Rattle.mdb_log.specs.declared.options.PoolOptions.{PoolOptions}
use Rattle.mdb_log.specs.History.{PoolItem, failed, ended, raised, has_asked, if_so, after_fact, after_facts}
use Rattle.mdb_log.specs.Requests.{queued, is_warm}
use Rattle.mdb_log.specs.State.{State, is_ready, is_closed, state_of}
use Rattle.mdb_log.specs.Limits.{IsWithin, WithinLimits}
use Rattle.mdb_pool_rules.specs.Facts.{end_facts, all_ends, clear_facts}
use Rattle.mdb_pool_rules.proofs.SameAnswers.Queries.{Alike, alike-same, alike-then}
use Rattle.mdb_pool_rules.proofs.SameAnswers.FactsOf.{alike-facts}
use Rattle.mdb_pool_rules.proofs.LimitsAreKept.{within-now}

-- the fact says of a pool no more than that it was cleared and that requests ended
abbrev pub IsOfClear : Fact → Type 0
IsOfClear (fact.Raised q service error) = Unit {0}
IsOfClear (fact.Ended r end) = Unit {0}
IsOfClear (fact.Pool q (event.PoolCleared e)) = Unit {0}
IsOfClear (fact.Pool q (event.ConnectionCheckoutFailed e)) = Unit {0}
IsOfClear _ = ⊥

abbrev pub AreOfClear : List Fact → Type 0
AreOfClear [] = Unit {0}
AreOfClear (f ∷ fs) = IsOfClear f × AreOfClear fs

of-clear-append : (fs gs : List Fact) → AreOfClear fs → AreOfClear gs → AreOfClear (fs ++ gs)
of-clear-append [] gs h k = k
of-clear-append (f ∷ fs) gs h k = (h.0, of-clear-append fs gs h.1 k)

-- such are the facts of a clear
module _ (p : ℕ) (a : ServerAddress) (o : PoolOptions) (m : ℕ) (xs : List PoolItem) where
  end-of-clear : (r : ℕ) (end : End) → AreOfClear (end_facts p a m xs r end)
  end-of-clear r end = on (is_warm xs r) refl
    where
      on : (b : Bool) → is_warm xs r ≡ b → AreOfClear (end_facts p a m xs r end)
      on true e = rw e (tt, tt)
      on false e = rw e (tt, (tt, tt))

  ends-of-clear : (end : End) (rs : List ℕ) → AreOfClear (all_ends p a m xs end rs)
  ends-of-clear end [] = tt
  ends-of-clear end (r ∷ rs) = of-clear-append (end_facts p a m xs r end) (all_ends p a m xs end rs) (end-of-clear r end) (ends-of-clear end rs)

  pub clear-of-clear : (service : Option ObjectId) (error : Error) → AreOfClear (clear_facts p a o m xs service error)
  clear-of-clear service error = on (state_of o xs) service refl
    where
      on : (s : State) (t : Option ObjectId) → state_of o xs ≡ s → AreOfClear (clear_facts p a o m xs t error)
      on is_closed t e = rw e tt
      on is_ready None e = rw e (tt, (tt, ends-of-clear (Cleared error) (queued xs)))
      on _ None e = rw e (tt, tt)
      on _ (Some t) e = rw e (tt, (tt, tt))

module _ (c : ℕ) (service : Option ObjectId) where
  failed-raised : (t : Option ObjectId) (error : Error) (xs : List PoolItem) → Alike (failed c service ∷ raised t error ∷ xs) (raised t error ∷ failed c service ∷ xs)
  failed-raised t error xs = record {
    given = λ q. refl;
    has_asked = λ q. refl;
    has_taken = λ q. refl;
    requests = refl;
    queued = refl;
    is_warm = λ q. refl;
    asked_at = λ q. refl;
    end_of = λ q. refl;
    live = λ d. refl;
    live_total = refl;
    created_total = refl;
    created_at = λ d. refl;
    pending_list = refl;
    parties = λ d. refl;
    pins = λ d. refl;
    is_pinned = λ d. refl;
    granted_to = λ d. refl;
    available_list = refl;
    since = λ d. refl;
    service_of = λ d. refl;
    known_service = λ d. refl;
    wire_of = λ d. refl;
    timeouts_since = λ d. refl;
    last_use = λ d. refl;
    is_errored = λ d. refl;
    state_of = λ o. at o t;
    generation_of = λ s. refl;
    generation_before = λ d s. refl;
  }
    where
      at : (o : PoolOptions) (s : Option ObjectId) → state_of o (failed c service ∷ raised s error ∷ xs) ≡ state_of o (raised s error ∷ failed c service ∷ xs)
      at o None = refl
      at o (Some s) = refl

  failed-ended : (r : ℕ) (end : End) (xs : List PoolItem) → Alike (failed c service ∷ ended r end ∷ xs) (ended r end ∷ failed c service ∷ xs)
  failed-ended r end xs = record {
    given = λ q. refl;
    has_asked = λ q. refl;
    has_taken = λ q. refl;
    requests = refl;
    queued = refl;
    is_warm = λ q. refl;
    asked_at = λ q. refl;
    end_of = λ q. refl;
    live = λ d. refl;
    live_total = refl;
    created_total = refl;
    created_at = λ d. refl;
    pending_list = refl;
    parties = λ d. refl;
    pins = λ d. refl;
    is_pinned = λ d. refl;
    granted_to = λ d. refl;
    available_list = refl;
    since = λ d. refl;
    service_of = λ d. refl;
    known_service = λ d. refl;
    wire_of = λ d. refl;
    timeouts_since = λ d. refl;
    last_use = λ d. refl;
    is_errored = λ d. refl;
    state_of = λ o. refl;
    generation_of = λ s. refl;
    generation_before = λ d s. refl;
  }

  module _ (p m : ℕ) where
    failed-fact : (f : Fact) (xs : List PoolItem) → IsOfClear f → Alike (failed c service ∷ after_fact p m f xs) (after_fact p m f (failed c service ∷ xs))
    failed-fact (fact.Raised q t error) xs i = raised-if (q == p)
      where
        raised-if : (b : Bool) → Alike (failed c service ∷ if_so b (raised t error) xs) (if_so b (raised t error) (failed c service ∷ xs))
        raised-if true = failed-raised t error xs
        raised-if false = alike-same (failed c service ∷ xs)
    failed-fact (fact.Ended r end) xs i = ended-if (has_asked xs r)
      where
        ended-if : (b : Bool) → Alike (failed c service ∷ if_so b (ended r end) xs) (if_so b (ended r end) (failed c service ∷ xs))
        ended-if true = failed-ended r end xs
        ended-if false = alike-same (failed c service ∷ xs)
    failed-fact (fact.Pool q (event.PoolCleared e)) xs i = alike-same (failed c service ∷ xs)
    failed-fact (fact.Pool q (event.ConnectionCheckoutFailed e)) xs i = alike-same (failed c service ∷ xs)
    failed-fact _ xs i = absurd i

    pub failed-facts : (fs : List Fact) (xs : List PoolItem) → AreOfClear fs → Alike (failed c service ∷ after_facts p m fs xs) (after_facts p m fs (failed c service ∷ xs))
    failed-facts [] xs i = alike-same (failed c service ∷ xs)
    failed-facts (f ∷ fs) xs i =
        alike-then (failed c service ∷ after_facts p m fs (after_fact p m f xs)) (after_facts p m fs (failed c service ∷ after_fact p m f xs)) (after_facts p m fs (after_fact p m f (failed c service ∷ xs)))
        (failed-facts fs (after_fact p m f xs) i.1)
        (alike-facts p m fs (failed c service ∷ after_fact p m f xs) (after_fact p m f (failed c service ∷ xs)) (failed-fact f xs i.0))

-- the facts of a clear keep the limits
module _ (o : PoolOptions) (p m : ℕ) where
  within-if : (b : Bool) (x : PoolItem) (xs : List PoolItem) → (IsWithin o xs → IsWithin o (x ∷ xs)) → WithinLimits o xs → WithinLimits o (if_so b x xs)
  within-if true x xs keeps i = (keeps (within-now o xs i), i)
  within-if false x xs keeps i = i

  within-fact : (f : Fact) (xs : List PoolItem) → IsOfClear f → WithinLimits o xs → WithinLimits o (after_fact p m f xs)
  within-fact (fact.Raised q t error) xs c i = within-if (q == p) (raised t error) xs (λ w. record { pending = w.pending; live = w.live }) i
  within-fact (fact.Ended r end) xs c i = within-if (has_asked xs r) (ended r end) xs (λ w. record { pending = w.pending; live = w.live }) i
  within-fact (fact.Pool q (event.PoolCleared e)) xs c i = i
  within-fact (fact.Pool q (event.ConnectionCheckoutFailed e)) xs c i = i
  within-fact _ xs c i = absurd c

  pub of-clear-within : (fs : List Fact) (xs : List PoolItem) → AreOfClear fs → WithinLimits o xs → WithinLimits o (after_facts p m fs xs)
  of-clear-within [] xs c i = i
  of-clear-within (f ∷ fs) xs c i = of-clear-within fs (after_fact p m f xs) c.1 (within-fact f xs c.0 i)
