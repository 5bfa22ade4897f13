-- Facts that create no connection: those of every act but the maintenance of a pool, and of a clear, a close and what is published.
use Rattle.std.proofs.Common.{ℕ, ◌≡◌, ◌==◌, Bool, true, false, ◌&&◌, List, [], ◌∷◌, ◌++◌, map, Option, Some, None, is_some, nat_lt, refl}
use Rattle.std.specs.Prelude.{⊤, filter}
use Rattle.mdb_base.specs.declared.address.ServerAddress.{ServerAddress}
use Rattle.mdb_base.specs.declared.error.Error.{Error}
use Rattle.mdb_base.specs.declared.object_id.ObjectId.{ObjectId}
use Rattle.mdb_events.specs.declared.cmap.CmapEvent.TheVariants.{ConnectionCreated}
use Rattle.mdb_events.specs.declared.end.End.{End}
use Rattle.mdb_events.specs.declared.end.End.TheVariants.{Cleared, Closed, Failed as FailedEnd, Filled, TimedOut}
use Rattle.mdb_events.specs.declared.fact.Fact.{Fact}
use Rattle.mdb_events.specs.declared.fact.Fact.TheVariants.{Pool, Ended, Sdam, CheckNow, Cancel}
use Rattle.mdb_events.specs.declared.reasons.ConnectionClosedReason.{ConnectionClosedReason}
use Rattle.mdb_events.specs.declared.reasons.ConnectionClosedReason.TheVariants.{PoolClosed as PoolClosedReason}
use Rattle.mdb_log.specs.declared.options.PoolOptions.{PoolOptions}
use Rattle.mdb_log.specs.declared.step.Act.{Act}
use Rattle.mdb_log.specs.declared.step.Act.TheVariants as Do
use Rattle.mdb_log.specs.History.{PoolItem}
use Rattle.mdb_log.specs.Connections.{pending_list, available_list, known_service, holding, pins, is_pinned, granted_to}
use Rattle.mdb_log.specs.Requests.{requests, queued, end_of, is_warm, is_unserved}
use Rattle.mdb_log.specs.State.{State, is_new, is_ready, is_paused, is_closed, state_of}
use Rattle.mdb_pool_rules.specs.Facts.{new_pool_error, close_reason, closes, closed_fact, pool_closed_fact, end_facts, all_ends, overdue, check_in, come_back, fail_requester, hand_over, clear_facts, close_facts, turned_away, readied, act_facts}
use Rattle.mdb_driver_rules.proofs.SameHistories.{IsCalm}
use Rattle.mdb_topology.proofs.OfMonitors.FactsOfCheck.{AreCalm}

abbrev pub IsUncreating : Fact → Type 0
IsUncreating (Pool q (ConnectionCreated e)) = ⊥
IsUncreating _ = ⊤

abbrev pub AreUncreating : List Fact → Type 0
AreUncreating [] = ⊤
AreUncreating (f ∷ fs) = IsUncreating f × AreUncreating fs

pub uncreating-both : (fs gs : List Fact) → AreUncreating fs → AreUncreating gs → AreUncreating (fs ++ gs)
uncreating-both [] gs a b = b
uncreating-both (f ∷ fs) gs a b = (a.0, uncreating-both fs gs a.1 b)

calm-one : (f : Fact) → IsCalm f → IsUncreating f
calm-one (Sdam e) c = tt
calm-one (CheckNow a) c = tt
calm-one (Cancel a) c = tt
calm-one _ c = elim c [ ]

pub calm-uncreating : (fs : List Fact) → AreCalm fs → AreUncreating fs
calm-uncreating [] c = tt
calm-uncreating (f ∷ fs) c = (calm-one f c.0, calm-uncreating fs c.1)

-- the act maintains a pool
abbrev pub is_maintaining : Act → Bool
is_maintaining (Do.Maintain a) = true
is_maintaining _ = false

module _ (p : ℕ) (a : ServerAddress) (o : PoolOptions) (m : ℕ) where
  end-uncreating : (xs : List PoolItem) (r : ℕ) (end : End) → AreUncreating (end_facts p a m xs r end)
  end-uncreating xs r end = on (is_warm xs r) refl
    where
      on : (b : Bool) → is_warm xs r ≡ b → AreUncreating (end_facts p a m xs r end)
      on true e = rw e (tt, tt)
      on false e = rw e (tt, (tt, tt))

  ends-uncreating : (xs : List PoolItem) (end : End) (rs : List ℕ) → AreUncreating (all_ends p a m xs end rs)
  ends-uncreating xs end [] = tt
  ends-uncreating xs end (r ∷ rs) = uncreating-both (end_facts p a m xs r end) (all_ends p a m xs end rs) (end-uncreating xs r end) (ends-uncreating xs end rs)

  closes-uncreating : (xs : List PoolItem) (c : ℕ) (why : Option ConnectionClosedReason) → AreUncreating (closes p a xs c why)
  closes-uncreating xs c None = tt
  closes-uncreating xs c (Some why) = (tt, tt)

  pub check_in-uncreating : (xs : List PoolItem) (c : ℕ) → AreUncreating (check_in p a o xs c)
  check_in-uncreating xs c = on (state_of o xs) refl
    where
      on : (t : State) → state_of o xs ≡ t → AreUncreating (check_in p a o xs c)
      on is_closed e = rw e (tt, tt)
      on is_new e = rw e (tt, closes-uncreating xs c (close_reason o xs c))
      on is_ready e = rw e (tt, closes-uncreating xs c (close_reason o xs c))
      on (is_paused error) e = rw e (tt, closes-uncreating xs c (close_reason o xs c))

  come_back-uncreating : (xs : List PoolItem) (k : Option ℕ) → AreUncreating (come_back p a o xs k)
  come_back-uncreating xs None = tt
  come_back-uncreating xs (Some c) = on (nat_lt 0 (pins xs c)) refl
    where
      on : (b : Bool) → nat_lt 0 (pins xs c) ≡ b → AreUncreating (come_back p a o xs (Some c))
      on true e = rw e tt
      on false e = rw e (check_in-uncreating xs c)

  requester-uncreating : (xs : List PoolItem) (error : Error) (k : Option ℕ) → AreUncreating (fail_requester p a o m xs error k)
  requester-uncreating xs error None = tt
  requester-uncreating xs error (Some r) = on (is_some (end_of xs r)) refl
    where
      on : (b : Bool) → is_some (end_of xs r) ≡ b → AreUncreating (fail_requester p a o m xs error (Some r))
      on true e = rw e tt
      on false e = rw e (end-uncreating xs r (FailedEnd error))

  pub clear-uncreating : (xs : List PoolItem) (service : Option ObjectId) (error : Error) → AreUncreating (clear_facts p a o m xs service error)
  clear-uncreating xs service error = on (state_of o xs) service refl
    where
      on : (t : State) (k : Option ObjectId) → state_of o xs ≡ t → AreUncreating (clear_facts p a o m xs k error)
      on is_closed k e = rw e tt
      on is_new None e = rw e (tt, tt)
      on is_new (Some s) e = rw e (tt, (tt, tt))
      on (is_paused why) None e = rw e (tt, tt)
      on (is_paused why) (Some s) e = rw e (tt, (tt, tt))
      on is_ready (Some s) e = rw e (tt, (tt, tt))
      on is_ready None e = rw e (tt, (tt, ends-uncreating xs (Cleared error) (queued xs)))

  shuts-uncreating : (xs : List PoolItem) (cs : List ℕ) → AreUncreating (map (λ c. closed_fact p a c PoolClosedReason (known_service xs c)) cs)
  shuts-uncreating xs [] = tt
  shuts-uncreating xs (c ∷ cs) = (tt, shuts-uncreating xs cs)

  pub close-uncreating : (xs : List PoolItem) → AreUncreating (close_facts p a o m xs)
  close-uncreating xs = on (state_of o xs) refl
    where
      all : AreUncreating (map (λ c. closed_fact p a c PoolClosedReason (known_service xs c)) (available_list xs ++ pending_list xs) ++ all_ends p a m xs Closed (filter (is_unserved xs) (requests xs)) ++ pool_closed_fact p a ∷ [])
      all = uncreating-both (map (λ c. closed_fact p a c PoolClosedReason (known_service xs c)) (available_list xs ++ pending_list xs) ++ all_ends p a m xs Closed (filter (is_unserved xs) (requests xs))) (pool_closed_fact p a ∷ []) (uncreating-both (map (λ c. closed_fact p a c PoolClosedReason (known_service xs c)) (available_list xs ++ pending_list xs)) (all_ends p a m xs Closed (filter (is_unserved xs) (requests xs))) (shuts-uncreating xs (available_list xs ++ pending_list xs)) (ends-uncreating xs Closed (filter (is_unserved xs) (requests xs)))) (tt, tt)

      on : (t : State) → state_of o xs ≡ t → AreUncreating (close_facts p a o m xs)
      on is_closed e = rw e tt
      on is_new e = rw e all
      on is_ready e = rw e all
      on (is_paused error) e = rw e all

  after_entry-uncreating : (xs : List PoolItem) (r : ℕ) → AreUncreating (turned_away p a o m xs r)
  after_entry-uncreating xs r = on (state_of o xs) refl
    where
      on : (t : State) → state_of o xs ≡ t → AreUncreating (turned_away p a o m xs r)
      on is_new e = rw e (end-uncreating xs r (Cleared new_pool_error))
      on is_ready e = rw e tt
      on (is_paused error) e = rw e (end-uncreating xs r (Cleared error))
      on is_closed e = rw e tt

  pub readied-uncreating : (xs : List PoolItem) → AreUncreating (readied p a o m xs)
  readied-uncreating xs = on (state_of o xs) refl
    where
      on : (t : State) → state_of o xs ≡ t → AreUncreating (readied p a o m xs)
      on is_new e = rw e (tt, tt)
      on is_ready e = rw e tt
      on (is_paused error) e = rw e (tt, tt)
      on is_closed e = rw e tt

  -- the handing over of a connection
  handed-uncreating : (xs : List PoolItem) (c : ℕ) (k : Option ℕ) → AreUncreating (hand_over p a o m xs c k)
  handed-uncreating xs c None = tt
  handed-uncreating xs c (Some r) = on (is_some (end_of xs r)) (is_warm xs r) refl refl
    where
      on : (b t : Bool) → is_some (end_of xs r) ≡ b → is_warm xs r ≡ t → AreUncreating (hand_over p a o m xs c (Some r))
      on true t e f = rw e (check_in-uncreating xs c)
      on false true e f = rw (e, f) (uncreating-both (check_in p a o xs c) (Ended r Filled ∷ []) (check_in-uncreating xs c) (tt, tt))
      on false false e f = rw (e, f) (tt, tt)

  -- the facts of an act that maintains no pool
  pub act-uncreating : (xs ys : List PoolItem) (act : Act) → is_maintaining act ≡ false → AreUncreating (act_facts p a o m xs ys act)
  act-uncreating xs ys (Do.Established q c how) e = (tt, handed-uncreating ys c (granted_to ys c))
  act-uncreating xs ys (Do.Request r b) e = (tt, after_entry-uncreating ys r)
  act-uncreating xs ys (Do.Warm r b) e = after_entry-uncreating ys r
  act-uncreating xs ys (Do.GiveUp r) e = on (is_some (end_of xs r)) refl
    where
      on : (b : Bool) → is_some (end_of xs r) ≡ b → AreUncreating (act_facts p a o m xs ys (Do.GiveUp r))
      on true f = rw f tt
      on false f = rw f (tt, come_back-uncreating ys (holding xs r))
  act-uncreating xs ys (Do.Failed q c at error) e = (tt, requester-uncreating ys error (granted_to ys c))
  act-uncreating xs ys (Do.Return r used) e = come_back-uncreating ys (holding xs r)
  act-uncreating xs ys (Do.Unpin q c) e = on (is_pinned xs c && (pins ys c == 0)) refl
    where
      on : (b : Bool) → (is_pinned xs c && (pins ys c == 0)) ≡ b → AreUncreating (act_facts p a o m xs ys (Do.Unpin q c))
      on true f = rw f (check_in-uncreating ys c)
      on false f = rw f tt
  act-uncreating xs ys (Do.Maintain b) e = cc
  act-uncreating xs ys (Do.Expire b) e = ends-uncreating ys TimedOut (overdue o m ys)
  act-uncreating xs ys (Do.Ready q) e = readied-uncreating ys
  act-uncreating xs ys (Do.Clear q service error) e = clear-uncreating ys service error
  act-uncreating xs ys (Do.Close q) e = close-uncreating ys
  act-uncreating xs ys _ e = tt
