-- Connections that are returned, given up, pinned, taken and unpinned keep the items sound.
use Rattle.std.proofs.Common.{ℕ, ◌≡◌, ◌<◌, ◌==◌, Bool, true, false, ◌&&◌, ◌||◌, List, [], ◌∷◌, ◌++◌, Option, Some, None, is_some, refl, sym, ◌∙◌, ap, subst, arith, if◌then◌else◌, nat_lt}
use Rattle.std.proofs.lemmas.Bool.Decides.{nat_tests}
use Rattle.mdb_base.specs.declared.address.ServerAddress.{ServerAddress}
use Rattle.mdb_events.specs.declared.fact.Fact.TheVariants.{Ended}
use Rattle.mdb_events.specs.declared.end.End.TheVariants.{GaveUp}
use Rattle.mdb_log.specs.declared.options.PoolOptions.{PoolOptions}
use Rattle.mdb_log.specs.declared.step.Use.{Use}
use Rattle.mdb_log.specs.History.{PoolItem, asked, warmed, gave_up, returned, pinned_by, established, failed, replicated, taken, unpinned, created, closed, checked_in, granted, ended, raised, pool_created, pool_ready, pool_closed, after_facts, has_asked, given, without, if_so, is_number}
use Rattle.mdb_log.specs.Connections.{has, pending_list, available_list, parties, pins, holding, is_pinned}
use Rattle.mdb_log.specs.Requests.{queued, end_of}
use Rattle.mdb_pool_rules.specs.Facts.{check_in, come_back}
use Rattle.mdb_log.proofs.Numbers.{same-number, has-append, has-without-is}
use Rattle.mdb_log.proofs.Pins.{pinned-again}
use Rattle.mdb_sound.specs.Sound.{Sound, was_closed, has_left, Holds, MayTake, MayGiveUp, MayEnd}
use Rattle.mdb_sound.proofs.Steady.{held-given}
use Rattle.mdb_sound.proofs.Connections.{connection-laws}
use Rattle.mdb_sound.proofs.Parties.{one-connection}
use Rattle.mdb_pool_rules.specs.Rested.{Rested}
use Rattle.mdb_sound.proofs.Calm.{Calm, none-is, one-lives, calm-end}
use Rattle.mdb_sound.proofs.Served.{Fine}
use Rattle.mdb_sound.proofs.Backs.{IsBack, back-fine}
use Rattle.mdb_sound.proofs.Establishes.{calm-rested, only-party, without-only}

-- who holds a connection has one that is not pending
held-settled : (xs : List PoolItem) (r c : ℕ) → holding xs r ≡ Some c → has c (pending_list xs) ≡ false
held-settled xs r c e = on (has c (pending_list xs)) refl
  where
    on : (b : Bool) → has c (pending_list xs) ≡ b → has c (pending_list xs) ≡ false
    on true f = let g : given xs r ≡ Some c = held-given xs r c e in let h : holding xs r ≡ None = rw (g, f) refl in cc
    on false f = f

-- nor is it available
held-away : (xs : List PoolItem) → Sound xs → Calm xs → (r c : ℕ) → given xs r ≡ Some c → has c (available_list xs) ≡ false
held-away xs s z r c e = on (has c (available_list xs)) refl
  where
    on : (b : Bool) → has c (available_list xs) ≡ b → has c (available_list xs) ≡ false
    on true f =
        let g : parties xs c ≡ r ∷ [] = only-party xs s r c e in
        let h : ◌≡◌ {A = List ℕ} (r ∷ []) [] = sym g ∙ z.free c f in
        cc
    on false f = f

no-pins : (n : ℕ) → nat_lt 0 n ≡ false → n ≡ 0
no-pins n e = grind (arith, nat_tests)

-- a request that neither ended nor left is queued, or has a connection
stay : (xs : List PoolItem) → Sound xs → (r : ℕ) → has_asked xs r ≡ true → has_left xs r ≡ false → is_some (end_of xs r) ≡ false → has r (queued xs) || is_some (given xs r) ≡ true
stay [] s r a l e = cc
stay (pinned_by q ∷ xs) s r a l e = stay xs s.1 r a l e
stay (established d how m ∷ xs) s r a l e = stay xs s.1 r a l e
stay (failed d service ∷ xs) s r a l e = stay xs s.1 r a l e
stay (replicated d ∷ xs) s r a l e = stay xs s.1 r a l e
stay (unpinned d ∷ xs) s r a l e = stay xs s.1 r a l e
stay (created d m ∷ xs) s r a l e = stay xs s.1 r a l e
stay (closed d ∷ xs) s r a l e = stay xs s.1 r a l e
stay (checked_in d m ∷ xs) s r a l e = stay xs s.1 r a l e
stay (raised service error ∷ xs) s r a l e = stay xs s.1 r a l e
stay (pool_created ∷ xs) s r a l e = stay xs s.1 r a l e
stay (pool_ready ∷ xs) s r a l e = stay xs s.1 r a l e
stay (pool_closed ∷ xs) s r a l e = stay xs s.1 r a l e
stay (asked q m ∷ xs) s r a l e = on (q == r) refl (stay xs s.1 r)
  where
    on : (b : Bool) → (q == r) ≡ b → (has_asked xs r ≡ true → has_left xs r ≡ false → is_some (end_of xs r) ≡ false → has r (queued xs) || is_some (given xs r) ≡ true) → has r (queued xs ++ q ∷ []) || is_some (given xs r) ≡ true
    on true f deeper = grind (arith, has-append r q (queued xs))
    on false f deeper = let k : has r (queued xs) || is_some (given xs r) ≡ true = deeper (grind arith) l e in grind (arith, has-append r q (queued xs))
stay (warmed q m ∷ xs) s r a l e = on (q == r) refl (stay xs s.1 r)
  where
    on : (b : Bool) → (q == r) ≡ b → (has_asked xs r ≡ true → has_left xs r ≡ false → is_some (end_of xs r) ≡ false → has r (queued xs) || is_some (given xs r) ≡ true) → has r (queued xs ++ q ∷ []) || is_some (given xs r) ≡ true
    on true f deeper = grind (arith, has-append r q (queued xs))
    on false f deeper = let k : has r (queued xs) || is_some (given xs r) ≡ true = deeper (grind arith) l e in grind (arith, has-append r q (queued xs))
stay (gave_up q ∷ xs) s r a l e = stay xs s.1 r a (right (q == r) (has_left xs r) l) e
  where
    right : (b c : Bool) → b || c ≡ false → c ≡ false
    right true c f = cc
    right false c f = f
stay (returned q used ∷ xs) s r a l e = on (q == r) refl (stay xs s.1 r)
  where
    on : (b : Bool) → (q == r) ≡ b → (has_asked xs r ≡ true → has_left xs r ≡ false → is_some (end_of xs r) ≡ false → has r (queued xs) || is_some (given xs r) ≡ true) → has r (queued xs) || is_some (if q == r then None else given xs r) ≡ true
    on true f deeper = let k : true ≡ false = sym (ap (λ b. b || has_left xs r) f) ∙ l in cc
    on false f deeper = let k : has_left xs r ≡ false = sym (ap (λ b. b || has_left xs r) f) ∙ l in rw f (deeper a k e)
stay (taken q c ∷ xs) s r a l e = on (q == r) refl (stay xs s.1 r a l e)
  where
    on : (b : Bool) → (q == r) ≡ b → has r (queued xs) || is_some (given xs r) ≡ true → has r (queued xs) || is_some (if q == r then Some c else given xs r) ≡ true
    on true f k = rw f (either (has r (queued xs)))
      where
        either : (b : Bool) → b || true ≡ true
        either true = refl
        either false = refl
    on false f k = rw f k
stay (granted q c ∷ xs) s r a l e = on (q == r) refl (stay xs s.1 r a l e)
  where
    on : (b : Bool) → (q == r) ≡ b → has r (queued xs) || is_some (given xs r) ≡ true → has r (without q (queued xs)) || is_some (if q == r then Some c else given xs r) ≡ true
    on true f k = rw f (either (has r (without q (queued xs))))
      where
        either : (b : Bool) → b || true ≡ true
        either true = refl
        either false = refl
    on false f k = let g : has r (without q (queued xs)) ≡ has r (queued xs) = grind (arith, has-without-is r q (queued xs)) in rw (f, g) k
stay (ended q end ∷ xs) s r a l e = on (q == r) refl (stay xs s.1 r a l)
  where
    on : (b : Bool) → (q == r) ≡ b → (is_some (end_of xs r) ≡ false → has r (queued xs) || is_some (given xs r) ≡ true) → has r (without q (queued xs)) || is_some (if q == r then None else given xs r) ≡ true
    on true f deeper = let k : is_some (if true then Some end else end_of xs r) ≡ false = subst (λ b. is_some (if b then Some end else end_of xs r) ≡ false) f e in cc
    on false f deeper = let k : is_some (end_of xs r) ≡ false = subst (λ b. is_some (if b then Some end else end_of xs r) ≡ false) f e in let g : has r (without q (queued xs)) ≡ has r (queued xs) = grind (arith, has-without-is r q (queued xs)) in rw (f, g) (deeper k)

module _ (p : ℕ) (a : ServerAddress) (o : PoolOptions) (m : ℕ) (xs : List PoolItem) (s : Sound xs) (z : Rested xs) where
  calm : Calm xs
  calm = calm-rested xs z

  -- a connection comes back or goes to its pin: ws are the items that decide, and ys those that it comes after
  back-or-pin : (ws ys : List PoolItem) (c : ℕ) → Sound ws → was_closed ys ≡ was_closed ws → Sound ys → Calm ys → (pins ws c ≡ 0 → IsBack ys c) → parties ys c ≡ [] → Fine (after_facts p m (come_back p a o ws (Some c)) ys)
  back-or-pin ws ys c v same u k back none = on (nat_lt 0 (pins ws c)) refl
    where
      on : (b : Bool) → nat_lt 0 (pins ws c) ≡ b → Fine (after_facts p m (come_back p a o ws (Some c)) ys)
      on true e = rw e (u, k)
      on false e = rw e (back-fine p a o m ws ys c v same u k (back (no-pins (pins ws c) e)) none)

  module _ (r : ℕ) (used : Use) (h : Holds xs r) where
    left-alone : without r (parties xs h.connection) ≡ []
    left-alone = without-only r (parties xs h.connection) (only-party xs s r h.connection (held-given xs r h.connection h.holds))

    pub returned-fine : Fine (after_facts p m (come_back p a o (returned r used ∷ xs) (holding xs r)) (returned r used ∷ xs))
    returned-fine =
        let ys : List PoolItem = returned r used ∷ xs in
        let back : pins xs h.connection ≡ 0 → IsBack ys h.connection = λ e. record { lives = h.lives; idle = rw left-alone refl; loose = e; settled = held-settled xs r h.connection h.holds; away = held-away xs s calm r h.connection (held-given xs r h.connection h.holds) } in
        subst (λ k. Fine (after_facts p m (come_back p a o ys k) ys)) (sym h.holds) (back-or-pin ys ys h.connection (h, s) refl (h, s) (record { free = λ d e. ap (without r) (calm.free d e); loose = calm.loose }) back left-alone)

  module _ (r : ℕ) (w : MayGiveUp xs r) (going : is_some (end_of xs r) ≡ false) where
    abbrev ws : List PoolItem
    ws = gave_up r ∷ xs

    leaves : MayEnd ws r GaveUp
    leaves = record { asked_for = w.asked_for; unended = none-is (end_of xs r) going; so = rw (same-number r) (stay xs s r w.asked_for w.stays going) }

    pub given_up-fine : Fine (after_facts p m (Ended r GaveUp ∷ come_back p a o ws (holding xs r)) ws)
    given_up-fine = subst (λ b. Fine (after_facts p m (come_back p a o ws (holding xs r)) (if_so b (ended r GaveUp) ws))) (sym w.asked_for) (on (holding xs r) refl)
      where
        on : (k : Option ℕ) → holding xs r ≡ k → Fine (after_facts p m (come_back p a o ws (holding xs r)) (ended r GaveUp ∷ ws))
        on None e = subst (λ k. Fine (after_facts p m (come_back p a o ws k) (ended r GaveUp ∷ ws))) (sym e) ((leaves, (w, s)), calm-end ws r GaveUp (record { free = calm.free; loose = calm.loose }))
        on (Some c) e =
            let g : given xs r ≡ Some c = held-given xs r c e in
            let alone : without r (parties xs c) ≡ [] = without-only r (parties xs c) (only-party xs s r c g) in
            let back : pins xs c ≡ 0 → IsBack (ended r GaveUp ∷ ws) c = λ f. record { lives = one-lives xs c (z.lives r c g); idle = rw alone refl; loose = f; settled = held-settled xs r c e; away = held-away xs s calm r c g } in
            subst (λ k. Fine (after_facts p m (come_back p a o ws k) (ended r GaveUp ∷ ws))) (sym e) (back-or-pin ws (ended r GaveUp ∷ ws) c (w, s) refl (leaves, (w, s)) (calm-end ws r GaveUp (record { free = calm.free; loose = calm.loose })) back alone)

  pub gave_up-fine : (r : ℕ) → MayGiveUp xs r → Fine (gave_up r ∷ xs)
  gave_up-fine r w = ((w, s), record { free = calm.free; loose = calm.loose })

  pinless : (d c : ℕ) → has d (available_list xs) ≡ true → 0 < pins xs c → (c == d) ≡ false
  pinless d c e l = on (c == d) refl
    where
      on : (b : Bool) → (c == d) ≡ b → (c == d) ≡ false
      on true f = let g : c ≡ d = grind arith in let h : 0 < pins xs d = subst (λ k. 0 < pins xs k) g l in let n : pins xs d ≡ 0 = calm.loose d e in absurd (omega arith)
      on false f = f

  pub replicated-fine : (c : ℕ) → 0 < pins xs c → Fine (replicated c ∷ xs)
  replicated-fine c w = ((w, s), record { free = calm.free; loose = λ d e. let n : pins xs d ≡ 0 = calm.loose d e in let f : (c == d) ≡ false = pinless d c e w in rw (n, f) refl })

  pub pinned-fine : (r : ℕ) → Holds xs r → Fine (pinned_by r ∷ xs)
  pinned-fine r h = ((h, s), record { free = calm.free; loose = λ d e. let n : pins xs d ≡ 0 = calm.loose d e in let f : is_number (given xs r) d ≡ false = sym (one-connection xs s r d) ∙ rw (calm.free d e) refl in rw (n, f) refl })

  at-pins : (c : ℕ) → is_pinned xs c ≡ true → 0 < pins xs c
  at-pins c e = let k : is_pinned xs c && nat_lt 0 (pins xs c) ≡ is_pinned xs c = pinned-again xs c in let l : nat_lt 0 (pins xs c) ≡ true = grind arith in grind (arith, nat_tests)

  pub taken-fine : (r c : ℕ) → MayTake xs r c → Fine (taken r c ∷ xs)
  taken-fine r c w = ((w, s), record { free = λ d e. let f : (c == d) ≡ false = pinless d c e (at-pins c w.pinned) in rw f (calm.free d e); loose = calm.loose })

  unpinned-calm : (c : ℕ) → Calm (unpinned c ∷ xs)
  unpinned-calm c = record { free = calm.free; loose = λ d e. let n : pins xs d ≡ 0 = calm.loose d e in omega arith }

  pub unpinned-fine : (c : ℕ) → 0 < pins xs c → Fine (after_facts p m (if is_pinned xs c && (pins (unpinned c ∷ xs) c == 0) then check_in p a o (unpinned c ∷ xs) c else []) (unpinned c ∷ xs))
  unpinned-fine c w = on (is_pinned xs c) (pins (unpinned c ∷ xs) c == 0) refl refl
    where
      pending-not : (b : Bool) → has c (pending_list xs) ≡ b → has c (pending_list xs) ≡ false
      pending-not true e = let n : pins xs c ≡ 0 = z.pending_loose c e in absurd (omega arith)
      pending-not false e = e

      away-not : (b : Bool) → has c (available_list xs) ≡ b → has c (available_list xs) ≡ false
      away-not true e = let n : pins xs c ≡ 0 = calm.loose c e in absurd (omega arith)
      away-not false e = e

      on : (i e : Bool) → is_pinned xs c ≡ i → (pins (unpinned c ∷ xs) c == 0) ≡ e → Fine (after_facts p m (if is_pinned xs c && (pins (unpinned c ∷ xs) c == 0) then check_in p a o (unpinned c ∷ xs) c else []) (unpinned c ∷ xs))
      on false e f g = rw f ((w, s), unpinned-calm c)
      on true false f g = rw (f, g) ((w, s), unpinned-calm c)
      on true true f g =
          let none : parties xs c ≡ [] = z.pinned_free c f in
          let back : IsBack (unpinned c ∷ xs) c = record { lives = one-lives xs c ((connection-laws xs s c).pinned_lives w); idle = rw none refl; loose = grind arith; settled = pending-not (has c (pending_list xs)) refl; away = away-not (has c (available_list xs)) refl } in
          rw (f, g) (back-fine p a o m (unpinned c ∷ xs) (unpinned c ∷ xs) c (w, s) refl (w, s) (unpinned-calm c) back none)
