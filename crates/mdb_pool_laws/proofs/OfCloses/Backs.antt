-- Why connections are closed that come back, that failed and that were established.
use Rattle.std.proofs.Common.{ℕ, ◌≡◌, ◌==◌, ◌&&◌, Bool, true, false, List, [], ◌∷◌, Option, Some, None, is_some, if◌then◌else◌, nat_lt, refl, sym, ◌∙◌, ap, subst, arith}
use Rattle.std.proofs.lemmas.Bool.Decides.{nat_tests}
use Rattle.mdb_base.specs.declared.address.ServerAddress.{ServerAddress}
use Rattle.mdb_base.specs.declared.error.Error.{Error}
use Rattle.mdb_events.specs.declared.end.End.TheVariants.{Failed as FailedEnd, Filled, GaveUp}
use Rattle.mdb_events.specs.declared.fact.Fact.TheVariants.{Ended}
use Rattle.mdb_events.specs.declared.reasons.ConnectionClosedReason.{ConnectionClosedReason}
use Rattle.mdb_log.specs.declared.options.PoolOptions.{PoolOptions}
use Rattle.mdb_log.specs.declared.step.Act.{Act}
use Rattle.mdb_log.specs.declared.step.Established.{Established as Establishment}
use Rattle.mdb_log.specs.declared.step.Use.{Use}
use Rattle.mdb_log.specs.History.{PoolItem, gave_up, returned, unpinned, established, checked_in, ended, if_so, has_asked, is_number}
use Rattle.mdb_log.specs.Connections.{pins, holding, is_pinned, granted_to}
use Rattle.mdb_log.specs.Requests.{end_of, is_warm}
use Rattle.mdb_log.specs.State.{State, is_new, is_ready, is_paused, is_closed, state_of}
use Rattle.mdb_log.proofs.Numbers.{same-number}
use Rattle.mdb_pool_rules.specs.Facts.{close_reason, closes, checked_in_fact, check_in, come_back, hand_over, fail_requester}
use Rattle.mdb_pool_laws.specs.CloseCauses.{reason_back, BackAtClosed, IsClosedNext, checking_in, coming_back, AllCaused}
use Rattle.mdb_pool_laws.proofs.OfCloses.Quiet.{caused-both, end-caused}

no-pins : (n : ℕ) → nat_lt 0 n ≡ false → n ≡ 0
no-pins n e = grind (arith, nat_tests)

module _ (p : ℕ) (a : ServerAddress) (o : PoolOptions) (here : ServerAddress → Option ℕ) (m : ℕ) (act : Act) where
  -- a check-in decided by the items ws, after the items zs
  checked : (ws zs : List PoolItem) (c : ℕ) → reason_back o (checked_in c m ∷ zs) c ≡ close_reason o ws c → AllCaused p o here m act zs (checked_in_fact p a c ∷ closes p a ws c (close_reason o ws c))
  checked ws zs c same = (λ i why e. next (close_reason o ws c) why (sym same ∙ e), subst (λ b. AllCaused p o here m act (if_so b (checked_in c m) zs) (closes p a ws c (close_reason o ws c))) (sym (same-number p)) (on (close_reason o ws c) refl))
    where
      next : (r : Option ConnectionClosedReason) (why : ConnectionClosedReason) → r ≡ Some why → IsClosedNext p c why (closes p a ws c r)
      next None why e = absurd (none-some why e)
        where
          none-some : (w : ConnectionClosedReason) → ◌≡◌ {A = Option ConnectionClosedReason} None (Some w) → ⊥
          none-some w f = cc
      next (Some r) why e = (refl, refl, cc)

      on : (why : Option ConnectionClosedReason) → close_reason o ws c ≡ why → AllCaused p o here m act (checked_in c m ∷ zs) (closes p a ws c why)
      on None e = tt
      on (Some why) e = (λ i. checking_in (same-number c) (same ∙ e), tt)

  check-in-caused : (ws zs : List PoolItem) (c : ℕ) → (state_of o ws ≡ is_closed → BackAtClosed o zs c) → reason_back o (checked_in c m ∷ zs) c ≡ close_reason o ws c → AllCaused p o here m act zs (check_in p a o ws c)
  check-in-caused ws zs c shut same = on (state_of o ws) refl
    where
      on : (t : State) → state_of o ws ≡ t → AllCaused p o here m act zs (check_in p a o ws c)
      on is_closed e = rw e (λ i. coming_back (shut e) refl, tt)
      on is_new e = rw e (checked ws zs c same)
      on is_ready e = rw e (checked ws zs c same)
      on (is_paused error) e = rw e (checked ws zs c same)

  come-back-caused : (ws zs : List PoolItem) (c : ℕ) → (state_of o ws ≡ is_closed → pins ws c ≡ 0 → BackAtClosed o zs c) → reason_back o (checked_in c m ∷ zs) c ≡ close_reason o ws c → AllCaused p o here m act zs (come_back p a o ws (Some c))
  come-back-caused ws zs c shut same = on (nat_lt 0 (pins ws c)) refl
    where
      on : (b : Bool) → nat_lt 0 (pins ws c) ≡ b → AllCaused p o here m act zs (come_back p a o ws (Some c))
      on true e = rw e tt
      on false e = rw e (check-in-caused ws zs c (λ t. shut t (no-pins (pins ws c) e)) same)

  module _ (xs : List PoolItem) where
    pub returned-caused : (r : ℕ) (used : Use) → AllCaused p o here m act (returned r used ∷ xs) (come_back p a o (returned r used ∷ xs) (holding xs r))
    returned-caused r used = on (holding xs r) refl
      where
        on : (k : Option ℕ) → holding xs r ≡ k → AllCaused p o here m act (returned r used ∷ xs) (come_back p a o (returned r used ∷ xs) k)
        on None e = tt
        on (Some c) e = come-back-caused (returned r used ∷ xs) (returned r used ∷ xs) c (λ t n. record { shut = t; back = ap (λ k. is_number k c) e ∙ same-number c; loose = n }) refl

    pub given_up-caused : (r : ℕ) → has_asked xs r ≡ true → AllCaused p o here m act (gave_up r ∷ xs) (Ended r GaveUp ∷ come_back p a o (gave_up r ∷ xs) (holding xs r))
    given_up-caused r known = (tt, subst (λ b. AllCaused p o here m act (if_so b (ended r GaveUp) (gave_up r ∷ xs)) (come_back p a o (gave_up r ∷ xs) (holding xs r))) (sym known) (on (holding xs r) refl))
      where
        on : (k : Option ℕ) → holding xs r ≡ k → AllCaused p o here m act (ended r GaveUp ∷ (gave_up r ∷ xs)) (come_back p a o (gave_up r ∷ xs) k)
        on None e = tt
        on (Some c) e = come-back-caused (gave_up r ∷ xs) (ended r GaveUp ∷ (gave_up r ∷ xs)) c (λ t n. record { shut = t; back = ap (λ k. is_number k c) e ∙ same-number c; loose = n }) refl

    pub unpinned-caused : (c : ℕ) → AllCaused p o here m act (unpinned c ∷ xs) (if is_pinned xs c && (pins (unpinned c ∷ xs) c == 0) then check_in p a o (unpinned c ∷ xs) c else [])
    unpinned-caused c = on (is_pinned xs c) (pins (unpinned c ∷ xs) c == 0) refl refl
      where
        on : (i e : Bool) → is_pinned xs c ≡ i → (pins (unpinned c ∷ xs) c == 0) ≡ e → AllCaused p o here m act (unpinned c ∷ xs) (if is_pinned xs c && (pins (unpinned c ∷ xs) c == 0) then check_in p a o (unpinned c ∷ xs) c else [])
        on false e f g = rw f tt
        on true false f g = rw (f, g) tt
        on true true f g = rw (f, g) (check-in-caused (unpinned c ∷ xs) (unpinned c ∷ xs) c (λ t. record { shut = t; back = rw (same-number c, f) refl; loose = grind arith }) refl)

    -- an established one is handed over at an open pool
    pub established-caused : (c : ℕ) (how : Establishment) → (state_of o xs ≡ is_closed → ⊥) → AllCaused p o here m act (established c how m ∷ xs) (hand_over p a o m (established c how m ∷ xs) c (granted_to xs c))
    established-caused c how unshut = on (granted_to xs c)
      where
        back : AllCaused p o here m act (established c how m ∷ xs) (check_in p a o (established c how m ∷ xs) c)
        back = check-in-caused (established c how m ∷ xs) (established c how m ∷ xs) c (λ t. absurd (unshut t)) refl

        at_end : (r : ℕ) (b w : Bool) → is_some (end_of xs r) ≡ b → is_warm xs r ≡ w → AllCaused p o here m act (established c how m ∷ xs) (hand_over p a o m (established c how m ∷ xs) c (Some r))
        at_end r true w e f = rw e back
        at_end r false true e f = rw (e, f) (caused-both p o here m act (check_in p a o (established c how m ∷ xs) c) (Ended r Filled ∷ []) (established c how m ∷ xs) back (tt, tt))
        at_end r false false e f = rw (e, f) (tt, tt)

        on : (k : Option ℕ) → AllCaused p o here m act (established c how m ∷ xs) (hand_over p a o m (established c how m ∷ xs) c k)
        on None = tt
        on (Some r) = at_end r (is_some (end_of xs r)) (is_warm xs r) refl refl

  -- the requester of a failed one, in any pool, ends
  pub requester-caused : (q : ℕ) (b : ServerAddress) (ws zs : List PoolItem) (error : Error) (k : Option ℕ) → AllCaused p o here m act zs (fail_requester q b o m ws error k)
  requester-caused q b ws zs error None = tt
  requester-caused q b ws zs error (Some r) = on (is_some (end_of ws r)) refl
    where
      on : (d : Bool) → is_some (end_of ws r) ≡ d → AllCaused p o here m act zs (fail_requester q b o m ws error (Some r))
      on true e = rw e tt
      on false e = rw e (end-caused p o here m act q b ws zs r (FailedEnd error))
