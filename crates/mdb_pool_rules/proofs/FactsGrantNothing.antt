-- The facts of acts grant nothing, and check in only connections that were created.
use Rattle.std.proofs.Common.{ℕ, zero, suc, ◌≡◌, ◌+◌, ◌≤◌, Bool, true, false, ◌&&◌, ◌==◌, List, [], ◌∷◌, ◌++◌, map, filter, Option, Some, None, refl, if◌then◌else◌}
use Rattle.std.specs.Prelude.{is_some, nat_lt}
use Rattle.mdb_base.specs.declared.address.ServerAddress.{ServerAddress}
use Rattle.mdb_base.specs.declared.object_id.ObjectId.{ObjectId}
use Rattle.mdb_base.specs.declared.error.Error.{Error}
use Rattle.mdb_events.specs.declared.reasons.ConnectionClosedReason.{ConnectionClosedReason}
use Rattle.mdb_events.specs.declared.cmap.CmapEvent.TheVariants as event
use Rattle.mdb_events.specs.declared.end.End.{End}
use Rattle.mdb_events.specs.declared.end.End.TheVariants.{Closed, GaveUp}
use Rattle.mdb_events.specs.declared.reasons.ConnectionClosedReason.TheVariants.{PoolClosed as PoolClosedReason}
use Rattle.mdb_events.specs.declared.fact.Fact.{Fact}
use Rattle.mdb_events.specs.declared.fact.Fact.TheVariants as fact
use Rattle.mdb_log.specs.declared.options.PoolOptions.{PoolOptions}
use Rattle.mdb_log.specs.declared.step.Act.{Act}
use Rattle.mdb_log.specs.declared.step.Act.TheVariants as act
use Rattle.mdb_log.specs.History.{PoolItem, after_facts}
use Rattle.mdb_log.specs.Connections.{created_total, pending_list, available_list, holding, pins, is_pinned, granted_to, known_service}
use Rattle.mdb_log.specs.Requests.{requests, queued, is_warm, end_of, is_unserved}
use Rattle.mdb_log.specs.State.{State, is_new, is_ready, is_paused, is_closed, state_of, min_size}
use Rattle.mdb_pool_rules.specs.Facts.{created_fact, closed_fact, closes, check_in, come_back, hand_over, fail_requester, sweep, fill, clear_facts, close_facts, turned_away, readied, act_facts, end_facts, all_ends, overdue, close_reason, perished}

-- the fact grants nothing, and checks in no connection past the number n
abbrev pub IsCalm : ℕ → Fact → Type 0
IsCalm n (fact.Pool q (event.ConnectionCheckedIn e)) = e.connection_id ≤ n
IsCalm n (fact.Granted r q c) = ⊥
IsCalm n _ = Unit {0}

abbrev pub AreCalm : ℕ → List Fact → Type 0
AreCalm n [] = Unit {0}
AreCalm n (f ∷ fs) = IsCalm n f × AreCalm n fs

-- the connection that the act may bring back has at most the number n
abbrev pub IsBound : ℕ → List PoolItem → Act → Type 0
IsBound n xs (act.Established q c how) = c ≤ n
IsBound n xs (act.GiveUp r) = (c : ℕ) → holding xs r ≡ Some c → c ≤ n
IsBound n xs (act.Return r used) = (c : ℕ) → holding xs r ≡ Some c → c ≤ n
IsBound n xs (act.Unpin q c) = c ≤ n
IsBound n xs _ = Unit {0}

module _ (n : ℕ) where
  calm-append : (fs gs : List Fact) → AreCalm n fs → AreCalm n gs → AreCalm n (fs ++ gs)
  calm-append [] gs h k = k
  calm-append (f ∷ fs) gs h k = (h.0, calm-append fs gs h.1 k)

  calm-if : (b : Bool) (fs gs : List Fact) → AreCalm n fs → AreCalm n gs → AreCalm n (if b then fs else gs)
  calm-if true fs gs h k = h
  calm-if false fs gs h k = k

  module _ (p : ℕ) (a : ServerAddress) (o : PoolOptions) (m : ℕ) where
    closes-calm : (xs : List PoolItem) (c : ℕ) (why : Option ConnectionClosedReason) → AreCalm n (closes p a xs c why)
    closes-calm xs c None = tt
    closes-calm xs c (Some why) = (tt, tt)

    check_in-calm : (xs : List PoolItem) (c : ℕ) → c ≤ n → AreCalm n (check_in p a o xs c)
    check_in-calm xs c l = on (state_of o xs) refl
      where
        on : (s : State) → state_of o xs ≡ s → AreCalm n (check_in p a o xs c)
        on is_new e = rw e (l, closes-calm xs c (close_reason o xs c))
        on is_ready e = rw e (l, closes-calm xs c (close_reason o xs c))
        on (is_paused error) e = rw e (l, closes-calm xs c (close_reason o xs c))
        on is_closed e = rw e (tt, tt)

    come_back-calm : (xs : List PoolItem) (k : Option ℕ) → ((c : ℕ) → k ≡ Some c → c ≤ n) → AreCalm n (come_back p a o xs k)
    come_back-calm xs None l = tt
    come_back-calm xs (Some c) l = calm-if (nat_lt 0 (pins xs c)) [] (check_in p a o xs c) tt (check_in-calm xs c (l c refl))

    end-calm : (xs : List PoolItem) (r : ℕ) (end : End) → AreCalm n (end_facts p a m xs r end)
    end-calm xs r end = on (is_warm xs r) refl
      where
        on : (b : Bool) → is_warm xs r ≡ b → AreCalm n (end_facts p a m xs r end)
        on true e = rw e (tt, tt)
        on false e = rw e (tt, (tt, tt))

    ends-calm : (xs : List PoolItem) (end : End) (rs : List ℕ) → AreCalm n (all_ends p a m xs end rs)
    ends-calm xs end [] = tt
    ends-calm xs end (r ∷ rs) = calm-append (end_facts p a m xs r end) (all_ends p a m xs end rs) (end-calm xs r end) (ends-calm xs end rs)

    hand-calm : (xs : List PoolItem) (c : ℕ) (k : Option ℕ) → c ≤ n → AreCalm n (hand_over p a o m xs c k)
    hand-calm xs c None l = tt
    hand-calm xs c (Some r) l = on (is_some (end_of xs r)) (is_warm xs r) refl refl
      where
        on : (b d : Bool) → is_some (end_of xs r) ≡ b → is_warm xs r ≡ d → AreCalm n (hand_over p a o m xs c (Some r))
        on true d e f = rw e (check_in-calm xs c l)
        on false true e f = rw (e, f) (calm-append (check_in p a o xs c) _ (check_in-calm xs c l) (tt, tt))
        on false false e f = rw (e, f) (tt, tt)

    fail-calm : (xs : List PoolItem) (error : Error) (k : Option ℕ) → AreCalm n (fail_requester p a o m xs error k)
    fail-calm xs error None = tt
    fail-calm xs error (Some r) = on (is_some (end_of xs r)) refl
      where
        on : (b : Bool) → is_some (end_of xs r) ≡ b → AreCalm n (fail_requester p a o m xs error (Some r))
        on true e = rw e tt
        on false e = rw e (end-calm xs r _)

    sweep-calm : (xs : List PoolItem) (cs : List ℕ) → AreCalm n (sweep p a o m xs cs)
    sweep-calm xs [] = tt
    sweep-calm xs (c ∷ cs) = calm-append (closes p a xs c (perished o m xs c)) (sweep p a o m xs cs) (closes-calm xs c (perished o m xs c)) (sweep-calm xs cs)

    fill-calm : (k : ℕ) (xs : List PoolItem) → AreCalm n (fill p a o m k xs)
    fill-calm zero xs = tt
    fill-calm (suc k) xs = calm-if _ (created_fact p a (created_total xs + 1) ∷ fill p a o m k (after_facts p m (created_fact p a (created_total xs + 1) ∷ []) xs)) [] (tt, fill-calm k _) tt

    away-calm : (xs : List PoolItem) (r : ℕ) → AreCalm n (turned_away p a o m xs r)
    away-calm xs r = on (state_of o xs) refl
      where
        on : (s : State) → state_of o xs ≡ s → AreCalm n (turned_away p a o m xs r)
        on is_new e = rw e (end-calm xs r _)
        on is_ready e = rw e tt
        on (is_paused error) e = rw e (end-calm xs r _)
        on is_closed e = rw e tt

    readied-calm : (xs : List PoolItem) → AreCalm n (readied p a o m xs)
    readied-calm xs = on (state_of o xs) refl
      where
        on : (s : State) → state_of o xs ≡ s → AreCalm n (readied p a o m xs)
        on is_new e = rw e (tt, tt)
        on is_ready e = rw e tt
        on (is_paused error) e = rw e (tt, tt)
        on is_closed e = rw e tt

    clear-calm : (xs : List PoolItem) (service : Option ObjectId) (error : Error) → AreCalm n (clear_facts p a o m xs service error)
    clear-calm xs service error = on (state_of o xs) service refl
      where
        on : (s : State) (service : Option ObjectId) → state_of o xs ≡ s → AreCalm n (clear_facts p a o m xs service error)
        on is_new None e = rw e (tt, tt)
        on is_new (Some t) e = rw e (tt, (tt, tt))
        on is_ready None e = rw e (tt, (tt, ends-calm xs _ (queued xs)))
        on is_ready (Some t) e = rw e (tt, (tt, tt))
        on (is_paused cause) None e = rw e (tt, tt)
        on (is_paused cause) (Some t) e = rw e (tt, (tt, tt))
        on is_closed service e = rw e tt

    shut-calm : (xs : List PoolItem) (why : ConnectionClosedReason) (cs : List ℕ) → AreCalm n (map (λ c. closed_fact p a c why (known_service xs c)) cs)
    shut-calm xs why [] = tt
    shut-calm xs why (c ∷ cs) = (tt, shut-calm xs why cs)

    close-calm : (xs : List PoolItem) → AreCalm n (close_facts p a o m xs)
    close-calm xs = on (state_of o xs) refl
      where
        shut : (s : State) → AreCalm n (map (λ c. closed_fact p a c PoolClosedReason (known_service xs c)) (available_list xs ++ pending_list xs) ++ all_ends p a m xs Closed (filter (is_unserved xs) (requests xs)) ++ fact.Pool p (event.PoolClosed (record { address = a })) ∷ [])
        shut s = calm-append (map (λ c. closed_fact p a c PoolClosedReason (known_service xs c)) (available_list xs ++ pending_list xs) ++ all_ends p a m xs Closed (filter (is_unserved xs) (requests xs))) _
            (calm-append _ _ (shut-calm xs PoolClosedReason (available_list xs ++ pending_list xs)) (ends-calm xs Closed (filter (is_unserved xs) (requests xs)))) (tt, tt)

        on : (s : State) → state_of o xs ≡ s → AreCalm n (close_facts p a o m xs)
        on is_new e = rw e (shut is_new)
        on is_ready e = rw e (shut is_ready)
        on (is_paused error) e = rw e (shut is_new)
        on is_closed e = rw e tt

    pub act-calm : (xs ys : List PoolItem) (does : Act) → IsBound n xs does → AreCalm n (act_facts p a o m xs ys does)
    act-calm xs ys (act.Request r b) l = (tt, away-calm ys r)
    act-calm xs ys (act.Warm r b) l = away-calm ys r
    act-calm xs ys (act.GiveUp r) l = calm-if (is_some (end_of xs r)) [] (fact.Ended r GaveUp ∷ come_back p a o ys (holding xs r)) tt (tt, come_back-calm ys (holding xs r) l)
    act-calm xs ys (act.Established q c how) l = (tt, hand-calm ys c (granted_to ys c) l)
    act-calm xs ys (act.Failed q c at error) l = (tt, fail-calm ys error (granted_to ys c))
    act-calm xs ys (act.Return r used) l = come_back-calm ys (holding xs r) l
    act-calm xs ys (act.Unpin q c) l = calm-if (is_pinned xs c && (pins ys c == 0)) (check_in p a o ys c) [] (check_in-calm ys c l) tt
    act-calm xs ys (act.Maintain b) l = calm-append (sweep p a o m ys (available_list ys)) _ (sweep-calm ys (available_list ys)) (fill-calm (min_size o) (after_facts p m (sweep p a o m ys (available_list ys)) ys))
    act-calm xs ys (act.Expire b) l = ends-calm ys _ (overdue o m ys)
    act-calm xs ys (act.Ready q) l = readied-calm ys
    act-calm xs ys (act.Clear q service error) l = clear-calm ys service error
    act-calm xs ys (act.Close q) l = close-calm ys
    act-calm xs ys (act.Open options) l = tt
    act-calm xs ys (act.Collect r) l = tt
    act-calm xs ys act.Claim l = tt
    act-calm xs ys (act.Pin r) l = tt
    act-calm xs ys (act.Replicate q c) l = tt
    act-calm xs ys (act.Take r q c) l = tt
    act-calm xs ys (act.Error r error) l = tt
    act-calm xs ys (act.Hello b q came) l = tt
    act-calm xs ys (act.Beat b q) l = tt
    act-calm xs ys (act.Beaten b q d came) l = tt
    act-calm xs ys (act.Rtt b q d) l = tt
    act-calm xs ys (act.Hosts hosts) l = tt
    act-calm xs ys (act.ClusterTime t) l = tt
    act-calm xs ys (act.Want w) l = tt
    act-calm xs ys (act.Unwant w) l = tt
    act-calm xs ys act.Stop l = tt
