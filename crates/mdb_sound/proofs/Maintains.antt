-- Maintenance, clears, expiries and readying keep the items sound.
use Rattle.std.proofs.Common.{ℕ, zero, suc, ◌≡◌, ◌+◌, ◌≤◌, ◌==◌, Bool, true, false, not, ◌&&◌, ◌||◌, List, [], ◌∷◌, ◌++◌, length, Option, Some, None, refl, sym, ◌∙◌, subst, arith, nat_lt}
use Rattle.mdb_base.specs.declared.object_id.ObjectId.{ObjectId}
use Rattle.mdb_base.specs.declared.address.ServerAddress.{ServerAddress}
use Rattle.mdb_base.specs.declared.error.Error.{Error}
use Rattle.mdb_events.specs.declared.fact.Fact.{Fact}
use Rattle.mdb_events.specs.declared.fact.Fact.TheVariants.{Raised}
use Rattle.mdb_events.specs.declared.end.End.TheVariants.{Cleared, TimedOut}
use Rattle.mdb_events.specs.declared.reasons.ConnectionClosedReason.{ConnectionClosedReason}
use Rattle.mdb_log.specs.declared.options.PoolOptions.{PoolOptions}
use Rattle.mdb_log.specs.History.{PoolItem, created, closed, raised, pool_ready, after_facts, if_so}
use Rattle.mdb_log.specs.Connections.{one_if, has, created_total, live_total, pending_list, available_list}
use Rattle.mdb_log.specs.Requests.{queued, waiting, is_warm, asked_at}
use Rattle.mdb_log.specs.State.{State, is_new, is_ready, is_paused, is_closed, state_of, ready, min_size, max_connecting}
use Rattle.mdb_pool_rules.specs.Facts.{closes, perished, sweep, fill, cleared_fact, clear_facts, all_ends, overdue, is_over, readied}
use Rattle.mdb_log.proofs.Later.{after-append}
use Rattle.mdb_log.proofs.Numbers.{same-number, has-without-is}
use Rattle.mdb_log.proofs.Pins.{queued-asked}
use Rattle.mdb_sound.specs.Sound.{MayCreate, MayEnd}
use Rattle.mdb_sound.proofs.Order.{times, times-filter, has-filter, queued-once}
use Rattle.mdb_sound.proofs.Calm.{open-ready, queued-unended, available-closes, calm-close, calm-create}
use Rattle.mdb_sound.proofs.Served.{Fine}
use Rattle.mdb_sound.proofs.Backs.{unshut-state}
use Rattle.mdb_sound.proofs.Ends.{all-fine, kept-cleared, kept-timed}
use Rattle.mdb_sound.proofs.Lists.{another, available-once}

module _ (p : ℕ) (a : ServerAddress) (o : PoolOptions) (m : ℕ) where
  or-right : (b : Bool) → b || true ≡ true
  or-right true = refl
  or-right false = refl

  -- of available connections each may be closed where others were
  sweep-fine : (ws : List PoolItem) (cs : List ℕ) (ys : List PoolItem) → Fine ys → ((k : ℕ) → has k cs ≡ true → has k (available_list ys) ≡ true) → ((k : ℕ) → times k cs ≤ 1) → Fine (after_facts p m (sweep p a o m ws cs) ys)
  sweep-fine ws [] ys z each single = z
  sweep-fine ws (c ∷ cs) ys z each single = on (perished o m ws c) refl (sweep-fine ws cs ys z rest fewer) (sweep-fine ws cs (closed c ∷ ys) shut still fewer)
    where
      rest : (k : ℕ) → has k cs ≡ true → has k (available_list ys) ≡ true
      rest k h = each k (rw h (or-right (c == k)))

      fewer : (k : ℕ) → times k cs ≤ 1
      fewer k = let l : times k cs + one_if (c == k) ≤ 1 = single k in omega arith

      still : (k : ℕ) → has k cs ≡ true → has k (available_list (closed c ∷ ys)) ≡ true
      still k h = let e : has k (available_list ys) ≡ true = rest k h in let f : (c == k) ≡ false = another c k cs (single k) h in grind (arith, has-without-is k c (available_list ys))

      shut : Fine (closed c ∷ ys)
      shut = ((available-closes ys z.0 z.1 c (each c (rw (same-number c) refl)), z.0), calm-close ys c z.1)

      on : (k : Option ConnectionClosedReason) → perished o m ws c ≡ k → Fine (after_facts p m (sweep p a o m ws cs) ys) → Fine (after_facts p m (sweep p a o m ws cs) (closed c ∷ ys)) → Fine (after_facts p m (closes p a ws c (perished o m ws c) ++ sweep p a o m ws cs) ys)
      on None e f g = subst (λ k. Fine (after_facts p m (closes p a ws c k ++ sweep p a o m ws cs) ys)) (sym e) f
      on (Some why) e f g = subst (λ k. Fine (after_facts p m (closes p a ws c k ++ sweep p a o m ws cs) ys)) (sym e) (subst (λ b. Fine (after_facts p m (sweep p a o m ws cs) (if_so b (closed c) ys))) (sym (same-number p)) g)

  fill-fine : (n : ℕ) (ys : List PoolItem) → Fine ys → Fine (after_facts p m (fill p a o m n ys) ys)
  fill-fine zero ys z = z
  fill-fine (suc n) ys z = on (ready (state_of o ys)) (nat_lt (live_total ys) (min_size o) && (nat_lt (length (pending_list ys)) (max_connecting o) && nat_lt (created_total ys) o.limit_id)) refl refl (fill-fine n (created (created_total ys + 1) m ∷ ys))
    where
      after-next : Fine (after_facts p m (fill p a o m n (created (created_total ys + 1) m ∷ ys)) (created (created_total ys + 1) m ∷ ys)) → (b : Bool) → b ≡ true → Fine (after_facts p m (fill p a o m n (if_so b (created (created_total ys + 1) m) ys)) (if_so b (created (created_total ys + 1) m) ys))
      after-next f b e = subst (λ k. Fine (after_facts p m (fill p a o m n (if_so k (created (created_total ys + 1) m) ys)) (if_so k (created (created_total ys + 1) m) ys))) (sym e) f

      on : (b c : Bool) → ready (state_of o ys) ≡ b → (nat_lt (live_total ys) (min_size o) && (nat_lt (length (pending_list ys)) (max_connecting o) && nat_lt (created_total ys) o.limit_id)) ≡ c → (Fine (created (created_total ys + 1) m ∷ ys) → Fine (after_facts p m (fill p a o m n (created (created_total ys + 1) m ∷ ys)) (created (created_total ys + 1) m ∷ ys))) → Fine (after_facts p m (fill p a o m (suc n) ys) ys)
      on false c e f deeper = rw e z
      on true false e f deeper = rw (e, f) z
      on true true e f deeper =
          let made : MayCreate ys (created_total ys + 1) = record { next = refl; unshut = open-ready o ys z.0 e } in
          rw (e, f) (after-next (deeper ((made, z.0), calm-create ys (created_total ys + 1) m z.1)) (p == p) (same-number p))

  pub maintained-fine : (xs : List PoolItem) → Fine xs → Fine (after_facts p m (sweep p a o m xs (available_list xs) ++ fill p a o m (min_size o) (after_facts p m (sweep p a o m xs (available_list xs)) xs)) xs)
  maintained-fine xs z =
      let swept : Fine (after_facts p m (sweep p a o m xs (available_list xs)) xs) = sweep-fine xs (available_list xs) xs z (λ k h. h) (λ k. available-once xs k) in
      subst Fine (sym (after-append p m (sweep p a o m xs (available_list xs)) (fill p a o m (min_size o) (after_facts p m (sweep p a o m xs (available_list xs)) xs)) xs)) (fill-fine (min_size o) (after_facts p m (sweep p a o m xs (available_list xs)) xs) swept)

  -- a clear ends those that are queued
  pub cleared-fine : (xs : List PoolItem) (service : Option ObjectId) (error : Error) → Fine xs → Fine (after_facts p m (clear_facts p a o m xs service error) xs)
  cleared-fine xs service error z = on (state_of o xs) service refl
    where
      raised-fine : (k : Option ObjectId) → (state_of o xs ≡ is_closed → ⊥) → Fine (raised k error ∷ xs)
      raised-fine k n = ((unshut-state p a o m xs z.0 n, z.0), record { free = z.1.free; loose = z.1.loose })

      told : (k : Option ObjectId) (fs : List Fact) → Fine (after_facts p m fs (raised k error ∷ xs)) → Fine (after_facts p m (Raised p k error ∷ fs) xs)
      told k fs f = subst (λ b. Fine (after_facts p m fs (if_so b (raised k error) xs))) (sym (same-number p)) f

      all : (state_of o xs ≡ is_closed → ⊥) → Fine (after_facts p m (all_ends p a m xs (Cleared error) (queued xs)) (raised None error ∷ xs))
      all n = all-fine p a o m xs (Cleared error) (kept-cleared error) (queued xs) (raised None error ∷ xs) (raised-fine None n) (λ k h. record { asked_for = queued-asked xs k h; unended = queued-unended xs z.0 k h; so = h }) (λ k. queued-once xs z.0 k)

      on : (t : State) (k : Option ObjectId) → state_of o xs ≡ t → Fine (after_facts p m (clear_facts p a o m xs k error) xs)
      on is_closed k e = rw e z
      on is_new None e = rw e (told None [] (raised-fine None (λ g. let h : is_new ≡ is_closed = sym e ∙ g in cc)))
      on is_new (Some t) e = rw e (told (Some t) (cleared_fact p a (Some t) error ∷ []) (raised-fine (Some t) (λ g. let h : is_new ≡ is_closed = sym e ∙ g in cc)))
      on (is_paused why) None e = rw e (told None [] (raised-fine None (λ g. let h : is_paused why ≡ is_closed = sym e ∙ g in cc)))
      on (is_paused why) (Some t) e = rw e (told (Some t) (cleared_fact p a (Some t) error ∷ []) (raised-fine (Some t) (λ g. let h : is_paused why ≡ is_closed = sym e ∙ g in cc)))
      on is_ready (Some t) e = rw e (told (Some t) (cleared_fact p a (Some t) error ∷ []) (raised-fine (Some t) (λ g. let h : is_ready ≡ is_closed = sym e ∙ g in cc)))
      on is_ready None e = rw e (told None (cleared_fact p a None error ∷ all_ends p a m xs (Cleared error) (queued xs)) (all (λ g. let h : is_ready ≡ is_closed = sym e ∙ g in cc)))

  -- callers end that waited for too long
  pub expired-fine : (xs : List PoolItem) → Fine xs → Fine (after_facts p m (all_ends p a m xs TimedOut (overdue o m xs)) xs)
  expired-fine xs z = all-fine p a o m xs TimedOut kept-timed (overdue o m xs) xs z each single
    where
      each : (k : ℕ) → has k (overdue o m xs) ≡ true → MayEnd xs k TimedOut
      each k h =
          let w : has k (waiting xs) ≡ true = (has-filter (λ r. is_over o.max_wait (asked_at xs r) m) k (waiting xs) h).1 in
          let q : has k (queued xs) ≡ true = (has-filter (λ r. not (is_warm xs r)) k (queued xs) w).1 in
          record { asked_for = queued-asked xs k q; unended = queued-unended xs z.0 k q; so = w }

      single : (k : ℕ) → times k (overdue o m xs) ≤ 1
      single k =
          let f : times k (overdue o m xs) ≤ times k (waiting xs) = times-filter (λ r. is_over o.max_wait (asked_at xs r) m) k (waiting xs) in
          let g : times k (waiting xs) ≤ times k (queued xs) = times-filter (λ r. not (is_warm xs r)) k (queued xs) in
          let l : times k (queued xs) ≤ 1 = queued-once xs z.0 k in
          omega arith

  pub readied-fine : (xs : List PoolItem) → Fine xs → Fine (after_facts p m (readied p a o m xs) xs)
  readied-fine xs z = on (state_of o xs) refl
    where
      ready-fine : (state_of o xs ≡ is_closed → ⊥) → Fine (pool_ready ∷ xs)
      ready-fine n = ((unshut-state p a o m xs z.0 n, z.0), record { free = z.1.free; loose = z.1.loose })

      on : (t : State) → state_of o xs ≡ t → Fine (after_facts p m (readied p a o m xs) xs)
      on is_new e = rw (e, same-number p) (ready-fine (λ g. let h : is_new ≡ is_closed = sym e ∙ g in cc))
      on is_ready e = rw e z
      on (is_paused why) e = rw (e, same-number p) (ready-fine (λ g. let h : is_paused why ≡ is_closed = sym e ∙ g in cc))
      on is_closed e = rw e z
