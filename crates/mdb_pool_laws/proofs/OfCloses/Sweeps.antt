-- Why connections are closed by maintenance, by the close of the pool and by the serving.
use Rattle.std.proofs.Common.{ℕ, zero, suc, ◌≡◌, ◌+◌, ◌≤◌, ◌==◌, Bool, true, false, ◌&&◌, ◌||◌, List, [], ◌∷◌, ◌++◌, length, map, Option, Some, None, nat_lt, refl, sym, ◌∙◌, ap, subst, arith}
use Rattle.std.specs.Prelude.{filter}
use Rattle.std.specs.List.{list_any}
use Rattle.mdb_base.specs.declared.address.ServerAddress.{ServerAddress}
use Rattle.mdb_events.specs.declared.fact.Fact.{Fact}
use Rattle.mdb_events.specs.declared.end.End.TheVariants.{Closed}
use Rattle.mdb_events.specs.declared.reasons.ConnectionClosedReason.{ConnectionClosedReason}
use Rattle.mdb_events.specs.declared.reasons.ConnectionClosedReason.TheVariants.{PoolClosed as PoolClosedReason}
use Rattle.mdb_log.specs.declared.options.PoolOptions.{PoolOptions}
use Rattle.mdb_log.specs.declared.step.Act.{Act}
use Rattle.mdb_log.specs.declared.step.Act.TheVariants.{Maintain}
use Rattle.mdb_log.specs.History.{PoolItem, closed, after_facts, if_so, is_number}
use Rattle.mdb_log.specs.Connections.{one_if, has, live_total, created_total, pending_list, available_list, known_service}
use Rattle.mdb_log.specs.Requests.{requests, is_unserved}
use Rattle.mdb_log.specs.State.{State, is_new, is_ready, is_paused, is_closed, state_of, ready, min_size, max_connecting}
use Rattle.mdb_log.proofs.Numbers.{same-number, has-without-is}
use Rattle.mdb_pool_rules.specs.Facts.{closes, closed_fact, created_fact, pool_closed_fact, perished, sweep, fill, all_ends, close_facts}
use Rattle.mdb_sound.specs.Sound.{Sound}
use Rattle.mdb_sound.proofs.Order.{times, times-none}
use Rattle.mdb_sound.proofs.Lists.{another, times-both, available-once, pending-once}
use Rattle.mdb_pool_laws.specs.CloseCauses.{reason_found, closes_pool, sweeping, shutting, AllCaused}
use Rattle.mdb_pool_laws.proofs.OfCloses.Quiet.{caused-both, ends-caused}

or-right : (b : Bool) → b || true ≡ true
or-right true = refl
or-right false = refl

append-both : (fs gs hs : List Fact) → fs ++ (gs ++ hs) ≡ (fs ++ gs) ++ hs
append-both [] gs hs = refl
append-both (f ∷ fs) gs hs = ap (λ ks. f ∷ ks) (append-both fs gs hs)

any-last : (test : Fact → Bool) (fs gs : List Fact) → list_any test gs ≡ true → list_any test (fs ++ gs) ≡ true
any-last test [] gs e = e
any-last test (f ∷ fs) gs e = rw (any-last test fs gs e) (or-right (test f))

module _ (p : ℕ) (a : ServerAddress) (o : PoolOptions) (here : ServerAddress → Option ℕ) (m : ℕ) (act : Act) where
  -- maintenance closes what is stale or idle: ws are the items that decide, and ys those that it comes after
  sweep-caused : (b : ServerAddress) → act ≡ Maintain b → is_number (here b) p ≡ true → (ws : List PoolItem) (cs : List ℕ) (ys : List PoolItem) → ((k : ℕ) → reason_found o m ys k ≡ perished o m ws k) → ((k : ℕ) → has k cs ≡ true → has k (available_list ys) ≡ true) → ((k : ℕ) → times k cs ≤ 1) → AllCaused p o here m act ys (sweep p a o m ws cs)
  sweep-caused b is there ws [] ys same each single = tt
  sweep-caused b is there ws (c ∷ cs) ys same each single = on (perished o m ws c) refl (sweep-caused b is there ws cs ys same rest fewer) (sweep-caused b is there ws cs (closed c ∷ ys) same still fewer)
    where
      rest : (k : ℕ) → has k cs ≡ true → has k (available_list ys) ≡ true
      rest k h = each k (rw h (or-right (c == k)))

      fewer : (k : ℕ) → times k cs ≤ 1
      fewer k = let l : times k cs + one_if (c == k) ≤ 1 = single k in omega arith

      still : (k : ℕ) → has k cs ≡ true → has k (available_list (closed c ∷ ys)) ≡ true
      still k h = let e : has k (available_list ys) ≡ true = rest k h in let f : (c == k) ≡ false = another c k cs (single k) h in grind (arith, has-without-is k c (available_list ys))

      on : (why : Option ConnectionClosedReason) → perished o m ws c ≡ why → AllCaused p o here m act ys (sweep p a o m ws cs) → AllCaused p o here m act (closed c ∷ ys) (sweep p a o m ws cs) → AllCaused p o here m act ys (closes p a ws c why ++ sweep p a o m ws cs)
      on None e kept later = kept
      on (Some why) e kept later = (λ i. sweeping (record { address = b; maintains = is; at = there; available = each c (rw (same-number c) refl) }) (same c ∙ e), subst (λ t. AllCaused p o here m act (if_so t (closed c) ys) (sweep p a o m ws cs)) (sym (same-number p)) later)

  -- what is created in the background closes nothing
  fill-caused : (n : ℕ) (ys zs : List PoolItem) → AllCaused p o here m act zs (fill p a o m n ys)
  fill-caused zero ys zs = tt
  fill-caused (suc n) ys zs = on (ready (state_of o ys) && (nat_lt (live_total ys) (min_size o) && (nat_lt (length (pending_list ys)) (max_connecting o) && nat_lt (created_total ys) o.limit_id))) refl (fill-caused n (after_facts p m (created_fact p a (created_total ys + 1) ∷ []) ys) (after_facts p m (created_fact p a (created_total ys + 1) ∷ []) zs))
    where
      on : (b : Bool) → (ready (state_of o ys) && (nat_lt (live_total ys) (min_size o) && (nat_lt (length (pending_list ys)) (max_connecting o) && nat_lt (created_total ys) o.limit_id))) ≡ b → AllCaused p o here m act (after_facts p m (created_fact p a (created_total ys + 1) ∷ []) zs) (fill p a o m n (after_facts p m (created_fact p a (created_total ys + 1) ∷ []) ys)) → AllCaused p o here m act zs (fill p a o m (suc n) ys)
      on true e later = rw e (tt, later)
      on false e later = rw e tt

  pub maintained-caused : (b : ServerAddress) → act ≡ Maintain b → is_number (here b) p ≡ true → (xs : List PoolItem) → AllCaused p o here m act xs (sweep p a o m xs (available_list xs) ++ fill p a o m (min_size o) (after_facts p m (sweep p a o m xs (available_list xs)) xs))
  maintained-caused b is there xs =
      let swept : List PoolItem = after_facts p m (sweep p a o m xs (available_list xs)) xs in
      caused-both p o here m act (sweep p a o m xs (available_list xs)) (fill p a o m (min_size o) swept) xs
      (sweep-caused b is there xs (available_list xs) xs (λ k. refl) (λ k h. h) (λ k. available-once xs k))
      (fill-caused (min_size o) swept swept)

  -- the close of a pool: what was available or pending is closed, and the pool later on
  shuts-caused : (ws : List PoolItem) (rest : List Fact) → list_any (closes_pool p) rest ≡ true → ((zs : List PoolItem) → AllCaused p o here m act zs rest) → (cs : List ℕ) (ys : List PoolItem) → ((k : ℕ) → has k cs ≡ true → has k (available_list ys) || has k (pending_list ys) ≡ true) → ((k : ℕ) → times k cs ≤ 1) → AllCaused p o here m act ys (map (λ c. closed_fact p a c PoolClosedReason (known_service ws c)) cs ++ rest)
  shuts-caused ws rest shut quiet [] ys each single = quiet ys
  shuts-caused ws rest shut quiet (c ∷ cs) ys each single =
      let later : AllCaused p o here m act (closed c ∷ ys) (map (λ d. closed_fact p a d PoolClosedReason (known_service ws d)) cs ++ rest) = shuts-caused ws rest shut quiet cs (closed c ∷ ys) still fewer in (
        λ i. shutting (record { closes = any-last (closes_pool p) (map (λ d. closed_fact p a d PoolClosedReason (known_service ws d)) cs) rest shut; there = each c (rw (same-number c) refl) }) refl,
        subst (λ t. AllCaused p o here m act (if_so t (closed c) ys) (map (λ d. closed_fact p a d PoolClosedReason (known_service ws d)) cs ++ rest)) (sym (same-number p)) later,
      )
    where
      fewer : (k : ℕ) → times k cs ≤ 1
      fewer k = let l : times k cs + one_if (c == k) ≤ 1 = single k in omega arith

      still : (k : ℕ) → has k cs ≡ true → has k (available_list (closed c ∷ ys)) || has k (pending_list (closed c ∷ ys)) ≡ true
      still k h = let e : has k (available_list ys) || has k (pending_list ys) ≡ true = each k (rw h (or-right (c == k))) in let f : (c == k) ≡ false = another c k cs (single k) h in grind (arith, has-without-is k c (available_list ys), has-without-is k c (pending_list ys))

  pub closed-caused : (xs : List PoolItem) → Sound xs → ((c : ℕ) → has c (pending_list xs) ≡ true → has c (available_list xs) ≡ false) → AllCaused p o here m act xs (close_facts p a o m xs)
  closed-caused xs s apart = on (state_of o xs) refl
    where
      has-both : (k : ℕ) (ks js : List ℕ) → has k (ks ++ js) ≡ has k ks || has k js
      has-both k [] js = refl
      has-both k (i ∷ ks) js = grind (arith, has-both k ks js)

      single : (k : ℕ) → times k (available_list xs ++ pending_list xs) ≤ 1
      single k = by (has k (pending_list xs)) refl
        where
          by : (b : Bool) → has k (pending_list xs) ≡ b → times k (available_list xs ++ pending_list xs) ≤ 1
          by true e =
              let n : times k (available_list xs) ≡ 0 = times-none k (available_list xs) (apart k e) in
              let l : times k (pending_list xs) ≤ 1 = pending-once xs s k in
              let t : times k (available_list xs ++ pending_list xs) ≡ times k (available_list xs) + times k (pending_list xs) = times-both k (available_list xs) (pending_list xs) in
              omega arith
          by false e =
              let n : times k (pending_list xs) ≡ 0 = times-none k (pending_list xs) e in
              let l : times k (available_list xs) ≤ 1 = available-once xs k in
              let t : times k (available_list xs ++ pending_list xs) ≡ times k (available_list xs) + times k (pending_list xs) = times-both k (available_list xs) (pending_list xs) in
              omega arith

      all : AllCaused p o here m act xs (map (λ c. closed_fact p a c PoolClosedReason (known_service xs c)) (available_list xs ++ pending_list xs) ++ all_ends p a m xs Closed (filter (is_unserved xs) (requests xs)) ++ pool_closed_fact p a ∷ [])
      all = subst (AllCaused p o here m act xs) (append-both (map (λ c. closed_fact p a c PoolClosedReason (known_service xs c)) (available_list xs ++ pending_list xs)) (all_ends p a m xs Closed (filter (is_unserved xs) (requests xs))) (pool_closed_fact p a ∷ [])) (shuts-caused xs ((all_ends p a m xs Closed (filter (is_unserved xs) (requests xs))) ++ pool_closed_fact p a ∷ []) (any-last (closes_pool p) (all_ends p a m xs Closed (filter (is_unserved xs) (requests xs))) (pool_closed_fact p a ∷ []) (rw (same-number p) refl)) (λ zs. caused-both p o here m act (all_ends p a m xs Closed (filter (is_unserved xs) (requests xs))) (pool_closed_fact p a ∷ []) zs (ends-caused p o here m act p a xs zs Closed (filter (is_unserved xs) (requests xs))) (tt, tt)) (available_list xs ++ pending_list xs) xs (λ k h. sym (has-both k (available_list xs) (pending_list xs)) ∙ h) single)

      on : (t : State) → state_of o xs ≡ t → AllCaused p o here m act xs (close_facts p a o m xs)
      on is_closed e = rw e tt
      on is_new e = rw e all
      on is_ready e = rw e all
      on (is_paused error) e = rw e all
