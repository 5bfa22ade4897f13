-- The facts of an act are of its pool alone.
use Rattle.std.proofs.Common.{ℕ, ◌+◌, ◌≡◌, ◌==◌, ◌&&◌, Bool, true, false, not, List, [], ◌∷◌, ◌++◌, length, map, Option, Some, None, is_some, nat_lt, refl, sym, ◌∙◌}
use Rattle.std.specs.Prelude.{filter}
use Rattle.mdb_base.specs.declared.address.ServerAddress.{ServerAddress}
use Rattle.mdb_base.specs.declared.object_id.ObjectId.{ObjectId}
use Rattle.mdb_base.specs.declared.error.Error.{Error}
use Rattle.mdb_events.specs.declared.end.End.{End}
use Rattle.mdb_events.specs.declared.end.End.TheVariants.{Cleared, Failed as FailedEnd, Closed, Filled, GaveUp, TimedOut}
use Rattle.mdb_events.specs.declared.fact.Fact.{Fact}
use Rattle.mdb_events.specs.declared.fact.Fact.TheVariants.{Ended}
use Rattle.mdb_events.specs.declared.reasons.ConnectionClosedReason.{ConnectionClosedReason}
use Rattle.mdb_events.specs.declared.reasons.ConnectionClosedReason.TheVariants.{Error as ErrorReason, PoolClosed as PoolClosedReason}
use Rattle.mdb_log.specs.declared.options.PoolOptions.{PoolOptions}
use Rattle.mdb_log.specs.declared.step.Act.{Act}
use Rattle.mdb_log.specs.History.{PoolItem, after_fact, after_facts, has_asked}
use Rattle.mdb_log.specs.Connections.{has, known_service, available_list, pending_list, holding, pins, is_pinned, granted_to}
use Rattle.mdb_log.specs.Requests.{is_warm, requests, is_unserved, queued, waiting, asked_at, end_of}
use Rattle.mdb_log.specs.State.{State, is_new, is_ready, is_paused, is_closed, state_of, min_size}
use Rattle.mdb_log.specs.Own.{AllOwn}
use Rattle.mdb_log.proofs.Frame.{asked-fact, asked-facts}
use Rattle.mdb_log.proofs.Numbers.{same-number}
use Rattle.mdb_log.proofs.Pins.{queued-asked}
use Rattle.mdb_pool_rules.specs.Facts.{new_pool_error, closed_fact, pool_closed_fact, close_reason, end_facts, all_ends, check_in, come_back, hand_over, fail_requester, sweep, fill, clear_facts, close_facts, readied, turned_away, overdue, is_over, act_facts}
use Rattle.mdb_pool_rules.specs.Serving.{serving}
use Rattle.mdb_pool_rules.proofs.ClearFacts.{ends-own, clear-all-own}
use Rattle.mdb_pool_rules.proofs.Fair.{own-append, serve-own}
use Rattle.mdb_pool_rules.proofs.SweepAndFill.{sweep-own, fill-own}
use Rattle.mdb_sound.proofs.Acts.{Done, requests as asks, warms, gives_up, establishes, fails, returns, pins_one, replicates, takes, unpins, maintains, expires, readies, clears, shuts, tells}
use Rattle.mdb_sound.proofs.Order.{has-filter, requests-asked}
use Rattle.mdb_pool_rules.specs.Rested.{Rested}

module _ (p : ℕ) (a : ServerAddress) (m : ℕ) where
  end-own : (ws ys : List PoolItem) (r : ℕ) (end : End) → has_asked ys r ≡ true → AllOwn p m ys (end_facts p a m ws r end)
  end-own ws ys r end e = on (is_warm ws r) refl
    where
      on : (b : Bool) → is_warm ws r ≡ b → AllOwn p m ys (end_facts p a m ws r end)
      on true f = rw f (e, tt)
      on false f = rw f (e, (refl, tt))

module _ (p : ℕ) (a : ServerAddress) (o : PoolOptions) (m : ℕ) where
  check-in-own : (ws ys : List PoolItem) (c : ℕ) → AllOwn p m ys (check_in p a o ws c)
  check-in-own ws ys c = on (state_of o ws) (close_reason o ws c) refl refl
    where
      on : (t : State) (why : Option ConnectionClosedReason) → state_of o ws ≡ t → close_reason o ws c ≡ why → AllOwn p m ys (check_in p a o ws c)
      on is_closed why e f = rw e (refl, tt)
      on is_new None e f = rw (e, f) (refl, tt)
      on is_new (Some why) e f = rw (e, f) (refl, (refl, tt))
      on is_ready None e f = rw (e, f) (refl, tt)
      on is_ready (Some why) e f = rw (e, f) (refl, (refl, tt))
      on (is_paused error) None e f = rw (e, f) (refl, tt)
      on (is_paused error) (Some why) e f = rw (e, f) (refl, (refl, tt))

  come-back-own : (ws ys : List PoolItem) (x : Option ℕ) → AllOwn p m ys (come_back p a o ws x)
  come-back-own ws ys None = tt
  come-back-own ws ys (Some c) = on (nat_lt 0 (pins ws c)) refl
    where
      on : (b : Bool) → nat_lt 0 (pins ws c) ≡ b → AllOwn p m ys (come_back p a o ws (Some c))
      on true e = rw e tt
      on false e = rw e (check-in-own ws ys c)

  pub readied-own : (xs : List PoolItem) → AllOwn p m xs (readied p a o m xs)
  readied-own xs = on (state_of o xs) refl
    where
      on : (t : State) → state_of o xs ≡ t → AllOwn p m xs (readied p a o m xs)
      on is_new e = rw e (refl, tt)
      on is_ready e = rw e tt
      on (is_paused error) e = rw e (refl, tt)
      on is_closed e = rw e tt

  turned-own : (ys : List PoolItem) (r : ℕ) → has_asked ys r ≡ true → AllOwn p m ys (turned_away p a o m ys r)
  turned-own ys r w = on (state_of o ys) refl
    where
      on : (t : State) → state_of o ys ≡ t → AllOwn p m ys (turned_away p a o m ys r)
      on is_new e = rw e (end-own p a m ys ys r (Cleared new_pool_error) w)
      on is_ready e = rw e tt
      on (is_paused error) e = rw e (end-own p a m ys ys r (Cleared error) w)
      on is_closed e = rw e tt

  closings-own : (xs ys : List PoolItem) (cs : List ℕ) → AllOwn p m ys (map (λ c. closed_fact p a c PoolClosedReason (known_service xs c)) cs)
  closings-own xs ys [] = tt
  closings-own xs ys (c ∷ cs) = (refl, closings-own xs (after_fact p m (closed_fact p a c PoolClosedReason (known_service xs c)) ys) cs)

  pub close-own : (xs : List PoolItem) → AllOwn p m xs (close_facts p a o m xs)
  close-own xs = on (state_of o xs) refl
    where
      cs : List ℕ
      cs = available_list xs ++ pending_list xs

      rs : List ℕ
      rs = filter (is_unserved xs) (requests xs)

      closings : List Fact
      closings = map (λ c. closed_fact p a c PoolClosedReason (known_service xs c)) cs

      ends : List Fact
      ends = all_ends p a m xs Closed rs

      known : (k : ℕ) → has k rs ≡ true → has_asked (after_facts p m closings xs) k ≡ true
      known k e = asked-facts p m k closings xs ∙ (sym (requests-asked xs k) ∙ (has-filter (is_unserved xs) k (requests xs) e).1)

      whole : AllOwn p m xs ((closings ++ ends) ++ pool_closed_fact p a ∷ [])
      whole = own-append p a o m (closings ++ ends) (pool_closed_fact p a ∷ []) xs
          (own-append p a o m closings ends xs (closings-own xs xs cs) (ends-own p a m Closed xs (after_facts p m closings xs) rs known)) (refl, tt)

      on : (t : State) → state_of o xs ≡ t → AllOwn p m xs (close_facts p a o m xs)
      on is_new e = rw e whole
      on is_ready e = rw e whole
      on (is_paused error) e = rw e whole
      on is_closed e = rw e tt

  pub clear-own : (xs : List PoolItem) (service : Option ObjectId) (error : Error) → AllOwn p m xs (clear_facts p a o m xs service error)
  clear-own xs service error = clear-all-own p a o m xs error service (state_of o xs) refl

  pub serving-own : (xs : List PoolItem) → AllOwn p m xs (serving p a o m xs)
  serving-own xs = serve-own p a o m (length (queued xs) + length (available_list xs)) xs

  -- the requester of a connection
  pub fail-own : (ws ys : List PoolItem) (error : Error) (x : Option ℕ) → ((r : ℕ) → x ≡ Some r → has_asked ys r ≡ true) → AllOwn p m ys (fail_requester p a o m ws error x)
  fail-own ws ys error None known = tt
  fail-own ws ys error (Some r) known = on (is_some (end_of ws r)) refl
    where
      on : (b : Bool) → is_some (end_of ws r) ≡ b → AllOwn p m ys (fail_requester p a o m ws error (Some r))
      on true e = rw e tt
      on false e = rw e (end-own p a m ws ys r (FailedEnd error) (known r refl))

  hand-own : (ws ys : List PoolItem) (c : ℕ) (x : Option ℕ) → ((r : ℕ) → x ≡ Some r → has_asked ys r ≡ true) → AllOwn p m ys (hand_over p a o m ws c x)
  hand-own ws ys c None known = tt
  hand-own ws ys c (Some r) known = at_end (is_some (end_of ws r)) refl
    where
      back : List Fact
      back = check_in p a o ws c

      at_warm : (b : Bool) → is_some (end_of ws r) ≡ false → is_warm ws r ≡ b → AllOwn p m ys (hand_over p a o m ws c (Some r))
      at_warm true e f = rw (e, f) (own-append p a o m back (Ended r Filled ∷ []) ys (check-in-own ws ys c) (asked-facts p m r back ys ∙ known r refl, tt))
      at_warm false e f = rw (e, f) (refl, tt)

      at_end : (b : Bool) → is_some (end_of ws r) ≡ b → AllOwn p m ys (hand_over p a o m ws c (Some r))
      at_end true e = rw e (check-in-own ws ys c)
      at_end false e = at_warm (is_warm ws r) e refl

  module _ (xs : List PoolItem) (z : Rested xs) where
    -- the facts of an act that may come
    pub act-own : (act : Act) (ys : List PoolItem) → Done m xs act ys → AllOwn p m ys (act_facts p a o m xs ys act)
    act-own act ys (asks r b w) = (refl, turned-own ys r (rw (same-number r) refl))
    act-own act ys (warms r b w) = turned-own ys r (rw (same-number r) refl)
    act-own act ys (gives_up r w) = on (is_some (end_of xs r)) refl
      where
        on : (b : Bool) → is_some (end_of xs r) ≡ b → AllOwn p m ys (act_facts p a o m xs ys act)
        on true e = rw e tt
        on false e = rw e (w.asked_for, come-back-own ys (after_fact p m (Ended r GaveUp) ys) (holding xs r))
    act-own act ys (establishes q c how w) = (refl, hand-own ys ys c (granted_to ys c) (λ r g. z.known c r w g))
    act-own act ys (fails q c at error service w) = (refl, fail-own ys (after_fact p m (closed_fact p a c ErrorReason (known_service ys c)) ys) error (granted_to ys c) (λ r g. asked-fact p m r (closed_fact p a c ErrorReason (known_service ys c)) ys ∙ z.known c r w g))
    act-own act ys (returns r used h) = come-back-own ys ys (holding xs r)
    act-own act ys (pins_one r h) = tt
    act-own act ys (replicates q c w) = tt
    act-own act ys (takes r q c w) = tt
    act-own act ys (unpins q c w) = on (is_pinned xs c && (pins ys c == 0)) refl
      where
        on : (b : Bool) → (is_pinned xs c && (pins ys c == 0)) ≡ b → AllOwn p m ys (act_facts p a o m xs ys act)
        on true e = rw e (check-in-own ys ys c)
        on false e = rw e tt
    act-own act ys (maintains b) =
        let closed : List Fact = sweep p a o m xs (available_list xs) in
        own-append p a o m closed (fill p a o m (min_size o) (after_facts p m closed xs)) xs (sweep-own p a o m xs xs (available_list xs)) (fill-own p a o m (min_size o) (after_facts p m closed xs))
    act-own act ys (expires b) = ends-own p a m TimedOut xs xs (overdue o m xs) late
      where
        late : (k : ℕ) → has k (overdue o m xs) ≡ true → has_asked xs k ≡ true
        late k e =
            let w : has k (waiting xs) ≡ true = (has-filter (λ r. is_over o.max_wait (asked_at xs r) m) k (waiting xs) e).1 in
            queued-asked xs k (has-filter (λ r. not (is_warm xs r)) k (queued xs) w).1
    act-own act ys (readies q) = readied-own xs
    act-own act ys (clears q service error) = clear-own xs service error
    act-own act ys (shuts q) = close-own xs
    act-own act ys (tells k quiet) = rw (quiet p a o) tt
