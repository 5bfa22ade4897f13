-- A clear and a close leave nobody queued, nor does a pool that turns requests away.
use Rattle.std.proofs.Common.{ℕ, ◌≡◌, ◌≢◌, Bool, true, false, ◌==◌, List, [], ◌∷◌, ◌++◌, map, filter, Option, Some, None, refl, sym, ◌∙◌, ap, subst, arith}
use Rattle.mdb_base.specs.declared.address.ServerAddress.{ServerAddress}
use Rattle.mdb_base.specs.declared.object_id.ObjectId.{ObjectId}
use Rattle.mdb_base.specs.declared.error.Error.{Error}
use Rattle.mdb_events.specs.declared.end.End.{End}
use Rattle.mdb_events.specs.declared.end.End.TheVariants.{Cleared, Closed}
use Rattle.mdb_events.specs.declared.reasons.ConnectionClosedReason.{ConnectionClosedReason}
use Rattle.mdb_events.specs.declared.reasons.ConnectionClosedReason.TheVariants.{PoolClosed as PoolClosedReason}
use Rattle.mdb_events.specs.declared.fact.Fact.{Fact}
use Rattle.mdb_events.specs.declared.fact.Fact.TheVariants.{Raised}
use Rattle.mdb_log.specs.declared.options.PoolOptions.{PoolOptions}
use Rattle.mdb_log.specs.History.{PoolItem, asked, warmed, granted, ended, closed, has_asked, if_so, without, after_facts}
use Rattle.mdb_log.specs.Connections.{has, pending_list, available_list, known_service}
use Rattle.mdb_log.specs.Requests.{requests, queued, is_warm, is_unserved}
use Rattle.mdb_log.specs.State.{State, is_new, is_ready, is_paused, is_closed, state_of, ready}
use Rattle.mdb_pool_rules.specs.Facts.{closed_fact, cleared_fact, pool_closed_fact, new_pool_error, end_facts, all_ends, clear_facts, close_facts, turned_away}
use Rattle.mdb_pool_rules.specs.Quiet.{IsQuiet}
use Rattle.mdb_pool_rules.proofs.ManyClosed.{leave, leave-all}
use Rattle.mdb_pool_rules.proofs.KeptByFacts.{quiet-facts, away-gentle}
use Rattle.mdb_pool_rules.proofs.Listed.Values.{without-absent}
use Rattle.mdb_log.proofs.Later.{after-append}
use Rattle.mdb_log.proofs.Numbers.{same-number, has-append, has-without}
use Rattle.mdb_log.proofs.Pins.{queued-asked}

-- who is queued made a request
queued-requested : (xs : List PoolItem) (r : ℕ) → has r (queued xs) ≡ true → has r (requests xs) ≡ true
queued-requested [] r e = e
queued-requested (asked k m ∷ xs) r e = grind (arith, queued-requested xs r, has-append r k (queued xs), has-append r k (requests xs))
queued-requested (warmed k m ∷ xs) r e = grind (arith, queued-requested xs r, has-append r k (queued xs), has-append r k (requests xs))
queued-requested (granted k c ∷ xs) r e = queued-requested xs r (has-without r k (queued xs) e)
queued-requested (ended k end ∷ xs) r e = queued-requested xs r (has-without r k (queued xs) e)
queued-requested (_ ∷ xs) r e = queued-requested xs r e

-- what passes the test stays where others are taken out
has-filter : (test : ℕ → Bool) (k : ℕ) (ks : List ℕ) → has k ks ≡ true → test k ≡ true → has k (filter test ks) ≡ true
has-filter test k [] e f = e
has-filter test k (j ∷ ks) e f = on (j == k) (test j) refl refl (λ d. has-filter test k ks d f)
  where
    on : (b c : Bool) → (j == k) ≡ b → test j ≡ c → (has k ks ≡ true → has k (filter test ks) ≡ true) → has k (filter test (j ∷ ks)) ≡ true
    on true true g h rest = rw (h, g) refl
    on true false g h rest = let same : j ≡ k = grind arith in let l : test j ≡ true = ap test same ∙ f in cc
    on false true g h rest = rw (h, g) (rest (rw g at e))
    on false false g h rest = rw h (rest (rw g at e))

unserved : (xs : List PoolItem) (r : ℕ) → has r (queued xs) ≡ true → has r (filter (is_unserved xs) (requests xs)) ≡ true
unserved xs r e = has-filter (is_unserved xs) r (requests xs) (queued-requested xs r e) (rw e refl)

module _ (p : ℕ) (a : ServerAddress) (m : ℕ) where
  -- who ends is queued no longer
  queue-ended : (end : End) (xs zs : List PoolItem) (r : ℕ) → queued (after_facts p m (end_facts p a m xs r end) zs) ≡ without r (queued zs)
  queue-ended end xs zs r = on (is_warm xs r) (has_asked zs r) refl refl
    where
      absent : has_asked zs r ≡ false → (b : Bool) → has r (queued zs) ≡ b → without r (queued zs) ≡ queued zs
      absent f true e = let g : has_asked zs r ≡ true = queued-asked zs r e in cc
      absent f false e = without-absent r (queued zs) e

      on : (b d : Bool) → is_warm xs r ≡ b → has_asked zs r ≡ d → queued (after_facts p m (end_facts p a m xs r end) zs) ≡ without r (queued zs)
      on true true e f = rw (e, f) refl
      on true false e f = rw (e, f) (sym (absent f (has r (queued zs)) refl))
      on false true e f = rw (e, f) refl
      on false false e f = rw (e, f) (sym (absent f (has r (queued zs)) refl))

  queue-left : (end : End) (xs zs : List PoolItem) (rs : List ℕ) → queued (after_facts p m (all_ends p a m xs end rs) zs) ≡ leave rs (queued zs)
  queue-left end xs zs [] = refl
  queue-left end xs zs (r ∷ rs) =
      ap queued (after-append p m (end_facts p a m xs r end) (all_ends p a m xs end rs) zs) ∙
      (queue-left end xs (after_facts p m (end_facts p a m xs r end) zs) rs ∙ ap (leave rs) (queue-ended end xs zs r))

  queue-closed : (why : ConnectionClosedReason) (xs zs : List PoolItem) (cs : List ℕ) → queued (after_facts p m (map (λ c. closed_fact p a c why (known_service xs c)) cs) zs) ≡ queued zs
  queue-closed why xs zs [] = refl
  queue-closed why xs zs (c ∷ cs) = subst (λ b. queued (after_facts p m (map (λ d. closed_fact p a d why (known_service xs d)) cs) (if_so b (closed c) zs)) ≡ queued zs) (sym (same-number p)) (queue-closed why xs (closed c ∷ zs) cs)

  module _ (o : PoolOptions) (xs : List PoolItem) (i : IsQuiet o xs) where
    abbrev Keeps : List Fact → Type 0
    Keeps fs = IsQuiet o (after_facts p m fs xs)

    as-keeps : (fs gs : List Fact) → gs ≡ fs → Keeps fs → Keeps gs
    as-keeps fs gs e k = subst (λ hs. IsQuiet o (after_facts p m hs xs)) (sym e) k

    -- a clear of the whole pool, and one of a service
    pub clear-quiet : (service : Option ObjectId) (error : Error) → Keeps (clear_facts p a o m xs service error)
    clear-quiet service error = on (state_of o xs) service refl
      where
        once : List Fact
        once = Raised p None error ∷ []

        named : ObjectId → List Fact
        named t = Raised p (Some t) error ∷ cleared_fact p a (Some t) error ∷ []

        whole : ready (state_of o xs) ≡ false → Keeps once
        whole e k = rw (same-number p) (i e)

        served : (t : ObjectId) → Keeps (named t)
        served t = quiet-facts p o m (named t) xs (tt, (tt, tt)) i

        zs : List PoolItem
        zs = after_facts p m (Raised p None error ∷ cleared_fact p a None error ∷ []) xs

        same : queued zs ≡ queued xs
        same = rw (same-number p) refl

        over : List Fact
        over = Raised p None error ∷ cleared_fact p a None error ∷ all_ends p a m xs (Cleared error) (queued xs)

        emptied : Keeps over
        emptied k = queue-left (Cleared error) xs zs (queued xs) ∙ (ap (leave (queued xs)) same ∙ leave-all (queued xs) (queued xs) (λ r e. e))

        on : (s : State) (t : Option ObjectId) → state_of o xs ≡ s → Keeps (clear_facts p a o m xs t error)
        on is_closed t e = as-keeps [] (clear_facts p a o m xs t error) (rw e refl) i
        on is_ready None e = as-keeps over (clear_facts p a o m xs None error) (rw e refl) emptied
        on _ None e = as-keeps once (clear_facts p a o m xs None error) (rw e refl) (whole (rw e refl))
        on _ (Some t) e = as-keeps (named t) (clear_facts p a o m xs (Some t) error) (rw e refl) (served t)

    pub close-quiet : Keeps (close_facts p a o m xs)
    close-quiet = on (state_of o xs) refl
      where
        shut : List Fact
        shut = map (λ c. closed_fact p a c PoolClosedReason (known_service xs c)) (available_list xs ++ pending_list xs)

        ends : List Fact
        ends = all_ends p a m xs Closed (filter (is_unserved xs) (requests xs))

        left : queued (after_facts p m ends (after_facts p m shut xs)) ≡ []
        left =
            queue-left Closed xs (after_facts p m shut xs) (filter (is_unserved xs) (requests xs)) ∙
            (ap (leave (filter (is_unserved xs) (requests xs))) (queue-closed PoolClosedReason xs xs (available_list xs ++ pending_list xs)) ∙
            leave-all (filter (is_unserved xs) (requests xs)) (queued xs) (unserved xs))

        last : queued (after_facts p m (shut ++ ends ++ pool_closed_fact p a ∷ []) xs) ≡ []
        last = ap queued (after-append p m (shut ++ ends) (pool_closed_fact p a ∷ []) xs) ∙ rw (same-number p) (ap queued (after-append p m shut ends xs) ∙ left)

        on : (s : State) → state_of o xs ≡ s → Keeps (close_facts p a o m xs)
        on is_closed e = as-keeps [] (close_facts p a o m xs) (rw e refl) i
        on _ e = as-keeps (shut ++ ends ++ pool_closed_fact p a ∷ []) (close_facts p a o m xs) (rw e refl) (λ k. last)

    -- a request that has come to a pool that is not closed is turned away where it would wait in vain
    away-quiet : (r : ℕ) (ys : List PoolItem) → state_of o xs ≢ is_closed → state_of o ys ≡ state_of o xs → queued ys ≡ queued xs ++ r ∷ [] → IsQuiet o (after_facts p m (turned_away p a o m ys r) ys)
    away-quiet r ys unshut same queue = on (state_of o xs) refl
      where
        alone : ready (state_of o xs) ≡ false → without r (queued ys) ≡ []
        alone e = ap (without r) (queue ∙ ap (λ rs. rs ++ r ∷ []) (i e)) ∙ rw (same-number r) refl

        away : List Fact
        away = turned_away p a o m ys r

        ends : (error : Error) → ready (state_of o xs) ≡ false → away ≡ end_facts p a m ys r (Cleared error) → IsQuiet o (after_facts p m away ys)
        ends error e f k = ap (λ fs. queued (after_facts p m fs ys)) f ∙ (queue-ended (Cleared error) ys ys r ∙ alone e)

        on : (s : State) → state_of o xs ≡ s → IsQuiet o (after_facts p m away ys)
        on is_new e = ends new_pool_error (rw e refl) (rw (same, e) refl)
        on (is_paused error) e = ends error (rw e refl) (rw (same, e) refl)
        on is_ready e = quiet-facts p o m away ys (away-gentle p a o m ys r) (λ k. let w : ready (state_of o ys) ≡ true = rw (same, e) refl in cc)
        on is_closed e = absurd (unshut e)

    pub asked-quiet : (r n : ℕ) (b : Bool) → (b ≡ true → state_of o xs ≢ is_closed) → IsQuiet o (after_facts p m (turned_away p a o m (if_so b (asked r n) xs) r) (if_so b (asked r n) xs))
    asked-quiet r n true unshut = away-quiet r (asked r n ∷ xs) (unshut refl) refl refl
    asked-quiet r n false unshut = quiet-facts p o m (turned_away p a o m xs r) xs (away-gentle p a o m xs r) i

    pub warmed-quiet : (r n : ℕ) (b : Bool) → (b ≡ true → state_of o xs ≢ is_closed) → IsQuiet o (after_facts p m (turned_away p a o m (if_so b (warmed r n) xs) r) (if_so b (warmed r n) xs))
    warmed-quiet r n true unshut = away-quiet r (warmed r n ∷ xs) (unshut refl) refl refl
    warmed-quiet r n false unshut = quiet-facts p o m (turned_away p a o m xs r) xs (away-gentle p a o m xs r) i
