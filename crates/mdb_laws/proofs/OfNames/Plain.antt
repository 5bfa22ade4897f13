-- Facts that are neither ready nor checked out, nor a grant.
use Rattle.std.proofs.Common.{ℕ, zero, suc, ◌≡◌, ◌+◌, ◌==◌, Bool, true, false, ◌&&◌, List, [], ◌∷◌, ◌++◌, length, map, Option, Some, None, is_some, nat_lt, refl}
use Rattle.std.specs.Prelude.{⊤, filter}
use Rattle.mdb_base.specs.declared.address.ServerAddress.{ServerAddress}
use Rattle.mdb_base.specs.declared.error.Error.{Error}
use Rattle.mdb_base.specs.declared.object_id.ObjectId.{ObjectId}
use Rattle.mdb_events.specs.declared.cmap.CmapEvent.TheVariants.{ConnectionReady, ConnectionCheckedOut}
use Rattle.mdb_events.specs.declared.end.End.{End}
use Rattle.mdb_events.specs.declared.end.End.TheVariants.{Cleared, Closed, Failed as FailedEnd, TimedOut}
use Rattle.mdb_events.specs.declared.fact.Fact.{Fact}
use Rattle.mdb_events.specs.declared.fact.Fact.TheVariants.{Pool, Sdam, CheckNow, Cancel, Granted}
use Rattle.mdb_events.specs.declared.reasons.ConnectionClosedReason.{ConnectionClosedReason}
use Rattle.mdb_events.specs.declared.reasons.ConnectionClosedReason.TheVariants.{PoolClosed as PoolClosedReason}
use Rattle.mdb_log.specs.declared.options.PoolOptions.{PoolOptions}
use Rattle.mdb_log.specs.declared.step.Act.{Act}
use Rattle.mdb_log.specs.declared.step.Act.TheVariants as Do
use Rattle.mdb_log.specs.History.{PoolItem, after_facts}
use Rattle.mdb_log.specs.Connections.{live_total, created_total, pending_list, available_list, known_service, holding, pins, is_pinned, granted_to}
use Rattle.mdb_log.specs.Requests.{requests, queued, end_of, is_warm, is_unserved}
use Rattle.mdb_log.specs.State.{State, is_new, is_ready, is_paused, is_closed, state_of, ready, min_size, max_connecting}
use Rattle.mdb_pool_rules.specs.Facts.{new_pool_error, close_reason, perished, closes, closed_fact, created_fact, pool_closed_fact, end_facts, all_ends, overdue, check_in, come_back, fail_requester, sweep, fill, clear_facts, close_facts, turned_away, readied, act_facts}
use Rattle.mdb_driver_rules.proofs.SameHistories.{IsCalm}
use Rattle.mdb_topology.proofs.OfMonitors.FactsOfCheck.{AreCalm}

abbrev pub IsPlain : Fact → Type 0
IsPlain (Pool q (ConnectionReady e)) = ⊥
IsPlain (Pool q (ConnectionCheckedOut e)) = ⊥
IsPlain (Granted r q c) = ⊥
IsPlain _ = ⊤

abbrev pub ArePlain : List Fact → Type 0
ArePlain [] = ⊤
ArePlain (f ∷ fs) = IsPlain f × ArePlain fs

pub plain-both : (fs gs : List Fact) → ArePlain fs → ArePlain gs → ArePlain (fs ++ gs)
plain-both [] gs a b = b
plain-both (f ∷ fs) gs a b = (a.0, plain-both fs gs a.1 b)

calm-one : (f : Fact) → IsCalm f → IsPlain f
calm-one (Sdam e) c = tt
calm-one (CheckNow a) c = tt
calm-one (Cancel a) c = tt
calm-one _ c = elim c [ ]

pub calm-plain : (fs : List Fact) → AreCalm fs → ArePlain fs
calm-plain [] c = tt
calm-plain (f ∷ fs) c = (calm-one f c.0, calm-plain fs c.1)

-- the act establishes a connection
abbrev pub is_establishing : Act → Bool
is_establishing (Do.Established q c how) = true
is_establishing _ = false

module _ (p : ℕ) (a : ServerAddress) (o : PoolOptions) (m : ℕ) where
  end-plain : (xs : List PoolItem) (r : ℕ) (end : End) → ArePlain (end_facts p a m xs r end)
  end-plain xs r end = on (is_warm xs r) refl
    where
      on : (b : Bool) → is_warm xs r ≡ b → ArePlain (end_facts p a m xs r end)
      on true e = rw e (tt, tt)
      on false e = rw e (tt, (tt, tt))

  ends-plain : (xs : List PoolItem) (end : End) (rs : List ℕ) → ArePlain (all_ends p a m xs end rs)
  ends-plain xs end [] = tt
  ends-plain xs end (r ∷ rs) = plain-both (end_facts p a m xs r end) (all_ends p a m xs end rs) (end-plain xs r end) (ends-plain xs end rs)

  closes-plain : (xs : List PoolItem) (c : ℕ) (why : Option ConnectionClosedReason) → ArePlain (closes p a xs c why)
  closes-plain xs c None = tt
  closes-plain xs c (Some why) = (tt, tt)

  pub check_in-plain : (xs : List PoolItem) (c : ℕ) → ArePlain (check_in p a o xs c)
  check_in-plain xs c = on (state_of o xs) refl
    where
      on : (t : State) → state_of o xs ≡ t → ArePlain (check_in p a o xs c)
      on is_closed e = rw e (tt, tt)
      on is_new e = rw e (tt, closes-plain xs c (close_reason o xs c))
      on is_ready e = rw e (tt, closes-plain xs c (close_reason o xs c))
      on (is_paused error) e = rw e (tt, closes-plain xs c (close_reason o xs c))

  come_back-plain : (xs : List PoolItem) (k : Option ℕ) → ArePlain (come_back p a o xs k)
  come_back-plain xs None = tt
  come_back-plain xs (Some c) = on (nat_lt 0 (pins xs c)) refl
    where
      on : (b : Bool) → nat_lt 0 (pins xs c) ≡ b → ArePlain (come_back p a o xs (Some c))
      on true e = rw e tt
      on false e = rw e (check_in-plain xs c)

  requester-plain : (xs : List PoolItem) (error : Error) (k : Option ℕ) → ArePlain (fail_requester p a o m xs error k)
  requester-plain xs error None = tt
  requester-plain xs error (Some r) = on (is_some (end_of xs r)) refl
    where
      on : (b : Bool) → is_some (end_of xs r) ≡ b → ArePlain (fail_requester p a o m xs error (Some r))
      on true e = rw e tt
      on false e = rw e (end-plain xs r (FailedEnd error))

  sweep-plain : (xs : List PoolItem) (cs : List ℕ) → ArePlain (sweep p a o m xs cs)
  sweep-plain xs [] = tt
  sweep-plain xs (c ∷ cs) = plain-both (closes p a xs c (perished o m xs c)) (sweep p a o m xs cs) (closes-plain xs c (perished o m xs c)) (sweep-plain xs cs)

  fill-plain : (n : ℕ) (xs : List PoolItem) → ArePlain (fill p a o m n xs)
  fill-plain zero xs = tt
  fill-plain (suc n) xs = on (ready (state_of o xs) && (nat_lt (live_total xs) (min_size o) && (nat_lt (length (pending_list xs)) (max_connecting o) && nat_lt (created_total xs) o.limit_id))) refl (fill-plain n (after_facts p m (created_fact p a (created_total xs + 1) ∷ []) xs))
    where
      on : (b : Bool) → (ready (state_of o xs) && (nat_lt (live_total xs) (min_size o) && (nat_lt (length (pending_list xs)) (max_connecting o) && nat_lt (created_total xs) o.limit_id))) ≡ b → ArePlain (fill p a o m n (after_facts p m (created_fact p a (created_total xs + 1) ∷ []) xs)) → ArePlain (fill p a o m (suc n) xs)
      on true e later = rw e (tt, later)
      on false e later = rw e tt

  pub clear-plain : (xs : List PoolItem) (service : Option ObjectId) (error : Error) → ArePlain (clear_facts p a o m xs service error)
  clear-plain xs service error = on (state_of o xs) service refl
    where
      on : (t : State) (k : Option ObjectId) → state_of o xs ≡ t → ArePlain (clear_facts p a o m xs k error)
      on is_closed k e = rw e tt
      on is_new None e = rw e (tt, tt)
      on is_new (Some s) e = rw e (tt, (tt, tt))
      on (is_paused why) None e = rw e (tt, tt)
      on (is_paused why) (Some s) e = rw e (tt, (tt, tt))
      on is_ready (Some s) e = rw e (tt, (tt, tt))
      on is_ready None e = rw e (tt, (tt, ends-plain xs (Cleared error) (queued xs)))

  shuts-plain : (xs : List PoolItem) (cs : List ℕ) → ArePlain (map (λ c. closed_fact p a c PoolClosedReason (known_service xs c)) cs)
  shuts-plain xs [] = tt
  shuts-plain xs (c ∷ cs) = (tt, shuts-plain xs cs)

  pub close-plain : (xs : List PoolItem) → ArePlain (close_facts p a o m xs)
  close-plain xs = on (state_of o xs) refl
    where
      all : ArePlain (map (λ c. closed_fact p a c PoolClosedReason (known_service xs c)) (available_list xs ++ pending_list xs) ++ all_ends p a m xs Closed (filter (is_unserved xs) (requests xs)) ++ pool_closed_fact p a ∷ [])
      all = plain-both (map (λ c. closed_fact p a c PoolClosedReason (known_service xs c)) (available_list xs ++ pending_list xs) ++ all_ends p a m xs Closed (filter (is_unserved xs) (requests xs))) (pool_closed_fact p a ∷ []) (plain-both (map (λ c. closed_fact p a c PoolClosedReason (known_service xs c)) (available_list xs ++ pending_list xs)) (all_ends p a m xs Closed (filter (is_unserved xs) (requests xs))) (shuts-plain xs (available_list xs ++ pending_list xs)) (ends-plain xs Closed (filter (is_unserved xs) (requests xs)))) (tt, tt)

      on : (t : State) → state_of o xs ≡ t → ArePlain (close_facts p a o m xs)
      on is_closed e = rw e tt
      on is_new e = rw e all
      on is_ready e = rw e all
      on (is_paused error) e = rw e all

  turned-plain : (xs : List PoolItem) (r : ℕ) → ArePlain (turned_away p a o m xs r)
  turned-plain xs r = on (state_of o xs) refl
    where
      on : (t : State) → state_of o xs ≡ t → ArePlain (turned_away p a o m xs r)
      on is_new e = rw e (end-plain xs r (Cleared new_pool_error))
      on is_ready e = rw e tt
      on (is_paused error) e = rw e (end-plain xs r (Cleared error))
      on is_closed e = rw e tt

  pub readied-plain : (xs : List PoolItem) → ArePlain (readied p a o m xs)
  readied-plain xs = on (state_of o xs) refl
    where
      on : (t : State) → state_of o xs ≡ t → ArePlain (readied p a o m xs)
      on is_new e = rw e (tt, tt)
      on is_ready e = rw e tt
      on (is_paused error) e = rw e (tt, tt)
      on is_closed e = rw e tt

  -- the facts of an act that establishes nothing
  pub act-plain : (xs ys : List PoolItem) (act : Act) → is_establishing act ≡ false → ArePlain (act_facts p a o m xs ys act)
  act-plain xs ys (Do.Established q c how) e = cc
  act-plain xs ys (Do.Request r b) e = (tt, turned-plain ys r)
  act-plain xs ys (Do.Warm r b) e = turned-plain ys r
  act-plain xs ys (Do.GiveUp r) e = on (is_some (end_of xs r)) refl
    where
      on : (b : Bool) → is_some (end_of xs r) ≡ b → ArePlain (act_facts p a o m xs ys (Do.GiveUp r))
      on true f = rw f tt
      on false f = rw f (tt, come_back-plain ys (holding xs r))
  act-plain xs ys (Do.Failed q c at error) e = (tt, requester-plain ys error (granted_to ys c))
  act-plain xs ys (Do.Return r used) e = come_back-plain ys (holding xs r)
  act-plain xs ys (Do.Unpin q c) e = on (is_pinned xs c && (pins ys c == 0)) refl
    where
      on : (b : Bool) → (is_pinned xs c && (pins ys c == 0)) ≡ b → ArePlain (act_facts p a o m xs ys (Do.Unpin q c))
      on true f = rw f (check_in-plain ys c)
      on false f = rw f tt
  act-plain xs ys (Do.Maintain b) e =
      let closed : List Fact = sweep p a o m ys (available_list ys) in
      plain-both closed (fill p a o m (min_size o) (after_facts p m closed ys)) (sweep-plain ys (available_list ys)) (fill-plain (min_size o) (after_facts p m closed ys))
  act-plain xs ys (Do.Expire b) e = ends-plain ys TimedOut (overdue o m ys)
  act-plain xs ys (Do.Ready q) e = readied-plain ys
  act-plain xs ys (Do.Clear q service error) e = clear-plain ys service error
  act-plain xs ys (Do.Close q) e = close-plain ys
  act-plain xs ys _ e = tt
