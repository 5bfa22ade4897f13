-- What a step has to close of its pool is closed by the act's own facts.
use Rattle.std.proofs.Common.{ℕ, ◌≡◌, ◌==◌, ◌&&◌, ◌||◌, Bool, true, false, if◌then◌else◌, List, [], ◌∷◌, ◌++◌, map, filter, Some, None, inl, inr, refl, subst, arith}
use Rattle.mdb_base.specs.declared.address.ServerAddress.{ServerAddress}
use Rattle.mdb_events.specs.declared.fact.Fact.{Fact}
use Rattle.mdb_events.specs.declared.end.End.TheVariants.{Closed}
use Rattle.mdb_events.specs.declared.reasons.ConnectionClosedReason.{ConnectionClosedReason}
use Rattle.mdb_events.specs.declared.reasons.ConnectionClosedReason.TheVariants.{PoolClosed as AsPoolClosed}
use Rattle.mdb_log.specs.declared.options.PoolOptions.{PoolOptions}
use Rattle.mdb_log.specs.declared.step.Act.TheVariants.{GiveUp}
use Rattle.mdb_log.specs.declared.step.Use.{Use}
use Rattle.mdb_log.specs.History.{PoolItem, gave_up, returned, unpinned, if_so}
use Rattle.mdb_log.specs.Connections.{has, available_list, pending_list, known_service, holding, pins, is_pinned}
use Rattle.mdb_log.specs.Requests.{end_of, requests, is_unserved}
use Rattle.mdb_log.specs.State.{State, is_new, is_ready, is_paused, is_closed, state_of}
use Rattle.mdb_log.proofs.Numbers.{same-number}
use Rattle.mdb_pool_rules.specs.Facts.{perished, closes, closed_fact, pool_closed_fact, check_in, come_back, sweep, all_ends, close_facts, act_facts}
use Rattle.mdb_pool_laws.specs.Dues.{Closes}

pub closes-left : (p c : ℕ) (why : ConnectionClosedReason) (fs gs : List Fact) → Closes p c why fs → Closes p c why (fs ++ gs)
closes-left p c why [] gs w = absurd w
closes-left p c why (f ∷ fs) gs (inl w) = inl w
closes-left p c why (f ∷ fs) gs (inr w) = inr (closes-left p c why fs gs w)

pub closes-right : (p c : ℕ) (why : ConnectionClosedReason) (fs gs : List Fact) → Closes p c why gs → Closes p c why (fs ++ gs)
closes-right p c why [] gs w = w
closes-right p c why (f ∷ fs) gs w = inr (closes-right p c why fs gs w)

module _ (p : ℕ) (a : ServerAddress) (o : PoolOptions) (m : ℕ) where
  come-due : (ws : List PoolItem) (c : ℕ) → state_of o ws ≡ is_closed → pins ws c ≡ 0 → Closes p c AsPoolClosed (come_back p a o ws (Some c))
  come-due ws c e n = rw (n, e) (inl (refl, refl, refl))

  pub returned-due : (xs : List PoolItem) (r c : ℕ) (used : Use) (b : Bool) → holding xs r ≡ Some c → state_of o xs ≡ is_closed → pins xs c ≡ 0 → Closes p c AsPoolClosed (come_back p a o (if_so b (returned r used) xs) (holding xs r))
  returned-due xs r c used true h e n = rw h (come-due (returned r used ∷ xs) c e n)
  returned-due xs r c used false h e n = rw h (come-due xs c e n)

  pub given_up-due : (xs : List PoolItem) (r c : ℕ) (b : Bool) → end_of xs r ≡ None → holding xs r ≡ Some c → state_of o xs ≡ is_closed → pins xs c ≡ 0 → Closes p c AsPoolClosed (act_facts p a o m xs (if_so b (gave_up r) xs) (GiveUp r))
  given_up-due xs r c true g h e n = rw (g, h) (inr (come-due (gave_up r ∷ xs) c e n))
  given_up-due xs r c false g h e n = rw (g, h) (inr (come-due xs c e n))

  pub unpinned-due : (xs : List PoolItem) (c : ℕ) → is_pinned xs c ≡ true → pins xs c ≡ 1 → state_of o xs ≡ is_closed → Closes p c AsPoolClosed (if is_pinned xs c && (pins (unpinned c ∷ xs) c == 0) then check_in p a o (unpinned c ∷ xs) c else [])
  unpinned-due xs c f n e = let none : (pins (unpinned c ∷ xs) c == 0) ≡ true = rw (n, same-number c) refl in rw (f, none, e) (inl (refl, refl, refl))

  pub sweep-due : (ws : List PoolItem) (c : ℕ) (why : ConnectionClosedReason) → perished o m ws c ≡ Some why → (cs : List ℕ) → has c cs ≡ true → Closes p c why (sweep p a o m ws cs)
  sweep-due ws c why e [] h = cc
  sweep-due ws c why e (d ∷ cs) h = on (d == c) refl (sweep-due ws c why e cs)
    where
      on : (b : Bool) → (d == c) ≡ b → (has c cs ≡ true → Closes p c why (sweep p a o m ws cs)) → Closes p c why (closes p a ws d (perished o m ws d) ++ sweep p a o m ws cs)
      on true f deeper =
          let same : c ≡ d = grind arith in
          subst (λ n. Closes p c why (closes p a ws n (perished o m ws n) ++ sweep p a o m ws cs)) same (rw e (inl (refl, refl, refl)))
      on false f deeper = closes-right p c why (closes p a ws d (perished o m ws d)) (sweep p a o m ws cs) (deeper (subst (λ b. b || has c cs ≡ true) f h))

  -- a list of connections that are closed with the pool
  pub shuts-due : (ws : List PoolItem) (c : ℕ) (cs : List ℕ) → has c cs ≡ true → Closes p c AsPoolClosed (map (λ d. closed_fact p a d AsPoolClosed (known_service ws d)) cs)
  shuts-due ws c [] h = cc
  shuts-due ws c (d ∷ cs) h = on (d == c) refl (shuts-due ws c cs)
    where
      on : (b : Bool) → (d == c) ≡ b → (has c cs ≡ true → Closes p c AsPoolClosed (map (λ e. closed_fact p a e AsPoolClosed (known_service ws e)) cs)) → Closes p c AsPoolClosed (map (λ e. closed_fact p a e AsPoolClosed (known_service ws e)) (d ∷ cs))
      on true f deeper = let same : d ≡ c = grind arith in inl (refl, same, refl)
      on false f deeper = inr (deeper (subst (λ b. b || has c cs ≡ true) f h))

  -- a pool that closes
  pub closing-due : (xs : List PoolItem) (c : ℕ) → (state_of o xs ≡ is_closed → ⊥) → has c (available_list xs ++ pending_list xs) ≡ true → Closes p c AsPoolClosed (close_facts p a o m xs)
  closing-due xs c unshut h = on (state_of o xs) refl
    where
      all : Closes p c AsPoolClosed (map (λ d. closed_fact p a d AsPoolClosed (known_service xs d)) (available_list xs ++ pending_list xs) ++ all_ends p a m xs Closed (filter (is_unserved xs) (requests xs)) ++ pool_closed_fact p a ∷ [])
      all = closes-left p c AsPoolClosed (map (λ d. closed_fact p a d AsPoolClosed (known_service xs d)) (available_list xs ++ pending_list xs) ++ all_ends p a m xs Closed (filter (is_unserved xs) (requests xs))) (pool_closed_fact p a ∷ [])
          (closes-left p c AsPoolClosed (map (λ d. closed_fact p a d AsPoolClosed (known_service xs d)) (available_list xs ++ pending_list xs)) (all_ends p a m xs Closed (filter (is_unserved xs) (requests xs))) (shuts-due xs c (available_list xs ++ pending_list xs) h))

      on : (t : State) → state_of o xs ≡ t → Closes p c AsPoolClosed (close_facts p a o m xs)
      on is_closed e = absurd (unshut e)
      on is_new e = rw e all
      on is_ready e = rw e all
      on (is_paused error) e = rw e all
