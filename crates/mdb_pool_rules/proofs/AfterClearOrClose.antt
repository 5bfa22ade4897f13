-- After a mark as ready, a clear or a close there is nothing to serve: the facts of the act are all.
use Rattle.std.proofs.Common.{ℕ, ◌≡◌, ◌+◌, Bool, true, false, List, [], ◌∷◌, ◌++◌, length, map, filter, Option, Some, None, refl, sym, ◌∙◌, ap, subst, append-nil, if◌then◌else◌}
use Rattle.mdb_base.specs.declared.address.ServerAddress.{ServerAddress}
use Rattle.mdb_base.specs.declared.object_id.ObjectId.{ObjectId}
use Rattle.mdb_base.specs.declared.error.Error.{Error}
use Rattle.mdb_events.specs.declared.end.End.{End}
use Rattle.mdb_events.specs.declared.end.End.TheVariants.{Cleared, Closed}
use Rattle.mdb_events.specs.declared.reasons.ConnectionClosedReason.TheVariants.{PoolClosed as PoolClosedReason}
use Rattle.mdb_events.specs.declared.fact.Fact.{Fact}
use Rattle.mdb_events.specs.declared.fact.Fact.TheVariants.{Raised}
use Rattle.mdb_log.specs.declared.options.PoolOptions.{PoolOptions}
use Rattle.mdb_log.specs.declared.step.Act.TheVariants.{Ready, Clear, Close}
use Rattle.mdb_log.specs.History.{PoolItem, raised, pool_ready, has_asked, after_facts}
use Rattle.mdb_log.specs.Connections.{available_list, pending_list, known_service}
use Rattle.mdb_log.specs.Requests.{requests, queued, is_warm, is_unserved}
use Rattle.mdb_log.specs.State.{State, is_new, is_ready, is_paused, is_closed, state_of, ready, may_create, is_empty, is_stale, is_idle}
use Rattle.mdb_pool_rules.specs.Facts.{closed_fact, cleared_fact, pool_ready_fact, pool_closed_fact, end_facts, all_ends, readied, clear_facts, close_facts}
use Rattle.mdb_pool_rules.specs.Serving.{last_of, is_blocked, candidate, wants_connection, next_move, serving, IsServed}
use Rattle.mdb_pool_rules.specs.Answer.{all_facts}
use Rattle.mdb_pool_rules.specs.Quiet.{IsQuiet}
use Rattle.mdb_pool_rules.proofs.Fair.{serve-nothing}
use Rattle.mdb_pool_rules.proofs.NoMove.{served-serving}
use Rattle.mdb_log.proofs.Later.{after-append}
use Rattle.mdb_log.proofs.Numbers.{same-number}

module _ (p : ℕ) (a : ServerAddress) (o : PoolOptions) (m : ℕ) where
  unready : (xs : List PoolItem) → ready (state_of o xs) ≡ false → serving p a o m xs ≡ []
  unready xs e = serve-nothing p a o m (length (queued xs) + length (available_list xs)) xs (rw e refl)

  unqueued : (xs : List PoolItem) → queued xs ≡ [] → serving p a o m xs ≡ []
  unqueued xs e = serve-nothing p a o m (length (queued xs) + length (available_list xs)) xs (on (ready (state_of o xs)) refl)
    where
      on : (b : Bool) → ready (state_of o xs) ≡ b → next_move p a o m xs ≡ []
      on true f = rw (f, e) refl
      on false f = rw f refl

  -- ends leave the state of the pool
  state-ended : (xs zs : List PoolItem) (end : End) (r : ℕ) → state_of o (after_facts p m (end_facts p a m xs r end) zs) ≡ state_of o zs
  state-ended xs zs end r = on (is_warm xs r) (has_asked zs r) refl refl
    where
      on : (b d : Bool) → is_warm xs r ≡ b → has_asked zs r ≡ d → state_of o (after_facts p m (end_facts p a m xs r end) zs) ≡ state_of o zs
      on true true e f = rw (e, f) refl
      on true false e f = rw (e, f) refl
      on false true e f = rw (e, f) refl
      on false false e f = rw (e, f) refl

  state-ends : (xs zs : List PoolItem) (end : End) (rs : List ℕ) → state_of o (after_facts p m (all_ends p a m xs end rs) zs) ≡ state_of o zs
  state-ends xs zs end [] = refl
  state-ends xs zs end (r ∷ rs) =
      ap (state_of o) (after-append p m (end_facts p a m xs r end) (all_ends p a m xs end rs) zs) ∙
      (state-ends xs (after_facts p m (end_facts p a m xs r end) zs) end rs ∙ state-ended xs zs end r)

  module _ (xs : List PoolItem) where
    -- nothing is served after the facts
    abbrev AreAll : List Fact → Type 0
    AreAll fs = serving p a o m (after_facts p m fs xs) ≡ []

    as-all : (fs gs : List Fact) → gs ≡ fs → AreAll fs → AreAll gs
    as-all fs gs e k = subst (λ hs. serving p a o m (after_facts p m hs xs) ≡ []) (sym e) k

    pub readied-all : IsQuiet o xs → IsServed o xs → AreAll (readied p a o m xs)
    readied-all i served = on (state_of o xs) refl
      where
        marked : ready (state_of o xs) ≡ false → AreAll (pool_ready_fact p a ∷ [])
        marked e = rw (same-number p) (unqueued (pool_ready ∷ xs) (i e))

        on : (s : State) → state_of o xs ≡ s → AreAll (readied p a o m xs)
        on is_new e = as-all (pool_ready_fact p a ∷ []) (readied p a o m xs) (rw e refl) (marked (rw e refl))
        on (is_paused error) e = as-all (pool_ready_fact p a ∷ []) (readied p a o m xs) (rw e refl) (marked (rw e refl))
        on _ e = as-all [] (readied p a o m xs) (rw e refl) (served-serving o xs served p a m)

    paused-all : (error : Error) → AreAll (clear_facts p a o m xs None error)
    paused-all error = on (state_of o xs) refl
      where
        once : List Fact
        once = Raised p None error ∷ []

        over : List Fact
        over = Raised p None error ∷ cleared_fact p a None error ∷ all_ends p a m xs (Cleared error) (queued xs)

        waits : AreAll once
        waits = rw (same-number p) (unready (raised None error ∷ xs) refl)

        ended : AreAll over
        ended = unready (after_facts p m over xs) (ap ready (state-ends xs (after_facts p m (Raised p None error ∷ cleared_fact p a None error ∷ []) xs) (Cleared error) (queued xs)) ∙ rw (same-number p) refl)

        on : (s : State) → state_of o xs ≡ s → AreAll (clear_facts p a o m xs None error)
        on is_closed e = as-all [] (clear_facts p a o m xs None error) (rw e refl) (unready xs (rw e refl))
        on is_ready e = as-all over (clear_facts p a o m xs None error) (rw e refl) ended
        on _ e = as-all once (clear_facts p a o m xs None error) (rw e refl) waits

    pub closed-all : AreAll (close_facts p a o m xs)
    closed-all = on (state_of o xs) refl
      where
        ends : List Fact
        ends = map (λ c. closed_fact p a c PoolClosedReason (known_service xs c)) (available_list xs ++ pending_list xs) ++ all_ends p a m xs Closed (filter (is_unserved xs) (requests xs))

        closed : ready (state_of o (after_facts p m (ends ++ pool_closed_fact p a ∷ []) xs)) ≡ false
        closed = ap (λ ys. ready (state_of o ys)) (after-append p m ends (pool_closed_fact p a ∷ []) xs) ∙ rw (same-number p) refl

        on : (s : State) → state_of o xs ≡ s → AreAll (close_facts p a o m xs)
        on is_closed e = as-all [] (close_facts p a o m xs) (rw e refl) (unready xs (rw e refl))
        on _ e = as-all (ends ++ pool_closed_fact p a ∷ []) (close_facts p a o m xs) (rw e refl) (unready (after_facts p m (ends ++ pool_closed_fact p a ∷ []) xs) closed)

    -- the clear of a service makes no room and no connection available
    module _ (t : ObjectId) (error : Error) (none : next_move p a o m xs ≡ []) where
      abbrev ys : List PoolItem
      ys = raised (Some t) error ∷ xs

      same-candidate : (rs : List ℕ) → candidate o ys rs ≡ candidate o xs rs
      same-candidate [] = refl
      same-candidate (r ∷ rs) = ap (λ k. if is_blocked o xs r then k else Some r) (same-candidate rs)

      some : is_empty (next_move p a o m xs) ≡ false → next_move p a o m ys ≡ []
      some g = let k : true ≡ false = sym (ap is_empty none) ∙ g in cc

      still-none : next_move p a o m ys ≡ []
      still-none = at_status (ready (state_of o xs)) refl
        where
          at_room : (c : Bool) (r : ℕ) → may_create o xs ≡ c → ready (state_of o xs) ≡ true → candidate o xs (queued xs) ≡ Some r → is_warm xs r ≡ false → last_of (available_list xs) ≡ None → next_move p a o m ys ≡ []
          at_room true r f s k w l = some (rw (s, k, w, l, f) refl)
          at_room false r f s k w l = rw (s, same-candidate (queued xs), k, w, l, f) refl

          at_idle : (c : Bool) (r d : ℕ) → is_idle o m xs d ≡ c → is_stale o xs d ≡ false → ready (state_of o xs) ≡ true → candidate o xs (queued xs) ≡ Some r → is_warm xs r ≡ false → last_of (available_list xs) ≡ Some d → next_move p a o m ys ≡ []
          at_idle true r d f g s k w l = some (rw (s, k, w, l, g, f) refl)
          at_idle false r d f g s k w l = some (rw (s, k, w, l, g, f) refl)

          at_stale : (c : Bool) (r d : ℕ) → is_stale o xs d ≡ c → ready (state_of o xs) ≡ true → candidate o xs (queued xs) ≡ Some r → is_warm xs r ≡ false → last_of (available_list xs) ≡ Some d → next_move p a o m ys ≡ []
          at_stale true r d f s k w l = some (rw (s, k, w, l, f) refl)
          at_stale false r d f s k w l = at_idle (is_idle o m xs d) r d refl f s k w l

          at_last : (c : Option ℕ) (r : ℕ) → last_of (available_list xs) ≡ c → ready (state_of o xs) ≡ true → candidate o xs (queued xs) ≡ Some r → is_warm xs r ≡ false → next_move p a o m ys ≡ []
          at_last None r l s k w = at_room (may_create o xs) r refl s k w l
          at_last (Some d) r l s k w = at_stale (is_stale o xs d) r d refl s k w l

          at_wants : (c : Bool) (r : ℕ) → wants_connection o xs ≡ c → ready (state_of o xs) ≡ true → candidate o xs (queued xs) ≡ Some r → is_warm xs r ≡ true → next_move p a o m ys ≡ []
          at_wants true r f s k w = some (rw (s, k, w, f) refl)
          at_wants false r f s k w = some (rw (s, k, w, f) refl)

          at_warm : (c : Bool) (r : ℕ) → is_warm xs r ≡ c → ready (state_of o xs) ≡ true → candidate o xs (queued xs) ≡ Some r → next_move p a o m ys ≡ []
          at_warm true r w s k = at_wants (wants_connection o xs) r refl s k w
          at_warm false r w s k = at_last (last_of (available_list xs)) r refl s k w

          at_candidate : (c : Option ℕ) → candidate o xs (queued xs) ≡ c → ready (state_of o xs) ≡ true → next_move p a o m ys ≡ []
          at_candidate None k s = rw (s, same-candidate (queued xs), k) refl
          at_candidate (Some r) k s = at_warm (is_warm xs r) r refl s k

          at_status : (c : Bool) → ready (state_of o xs) ≡ c → next_move p a o m ys ≡ []
          at_status true s = at_candidate (candidate o xs (queued xs)) refl s
          at_status false s = rw s refl

    service-all : (t : ObjectId) (error : Error) → IsServed o xs → AreAll (clear_facts p a o m xs (Some t) error)
    service-all t error served = on (state_of o xs) refl
      where
        named : List Fact
        named = Raised p (Some t) error ∷ cleared_fact p a (Some t) error ∷ []

        cleared : AreAll named
        cleared = rw (same-number p) (serve-nothing p a o m (length (queued xs) + length (available_list xs)) (raised (Some t) error ∷ xs) (still-none t error (served p a m)))

        on : (s : State) → state_of o xs ≡ s → AreAll (clear_facts p a o m xs (Some t) error)
        on is_closed e = as-all [] (clear_facts p a o m xs (Some t) error) (rw e refl) (unready xs (rw e refl))
        on _ e = as-all named (clear_facts p a o m xs (Some t) error) (rw e refl) cleared

    pub cleared-all : (service : Option ObjectId) (error : Error) → IsServed o xs → AreAll (clear_facts p a o m xs service error)
    cleared-all None error served = paused-all error
    cleared-all (Some t) error served = service-all t error served

    -- so all facts of a mark as ready, of a clear and of a close are its own
    pub ready-alone : (q : ℕ) → IsQuiet o xs → IsServed o xs → all_facts p a o m xs xs (Ready q) ≡ readied p a o m xs
    ready-alone q i served = ap (λ fs. readied p a o m xs ++ fs) (readied-all i served) ∙ append-nil (readied p a o m xs)

    pub clear-alone : (q : ℕ) (service : Option ObjectId) (error : Error) → IsServed o xs → all_facts p a o m xs xs (Clear q service error) ≡ clear_facts p a o m xs service error
    clear-alone q service error served = ap (λ fs. clear_facts p a o m xs service error ++ fs) (cleared-all service error served) ∙ append-nil (clear_facts p a o m xs service error)

    pub close-alone : (q : ℕ) → all_facts p a o m xs xs (Close q) ≡ close_facts p a o m xs
    close-alone q = ap (λ fs. close_facts p a o m xs ++ fs) closed-all ∙ append-nil (close_facts p a o m xs)
