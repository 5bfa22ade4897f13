-- At which addresses a pool is open after an open one was marked ready or closed.
use Rattle.std.proofs.Common.{ℕ, ◌≡◌, ◌≢◌, ◌==◌, ◌&&◌, ◌||◌, Bool, true, false, not, if◌then◌else◌, List, [], ◌∷◌, ◌++◌, map, filter, set, Option, Some, None, is_some, refl, sym, ◌∙◌, ap, subst, arith}
use Rattle.std.specs.Prelude.{slice_get}
use Rattle.mdb_base.specs.Equality.{same_address}
use Rattle.mdb_base.specs.declared.address.ServerAddress.{ServerAddress}
use Rattle.mdb_describe.specs.Servers.{is_listed}
use Rattle.mdb_events.specs.declared.end.End.TheVariants.{Closed}
use Rattle.mdb_events.specs.declared.fact.Fact.{Fact}
use Rattle.mdb_events.specs.declared.reasons.ConnectionClosedReason.TheVariants.{PoolClosed as PoolClosedReason}
use Rattle.mdb_log.specs.declared.options.PoolOptions.{PoolOptions}
use Rattle.mdb_log.specs.declared.step.Act.TheVariants.{Ready, Close}
use Rattle.mdb_log.specs.declared.reply.Reply.{Reply}
use Rattle.mdb_log.specs.History.{Item, PoolItem, of_pool, open_pool, is_number}
use Rattle.mdb_log.specs.Connections.{available_list, pending_list, known_service}
use Rattle.mdb_log.specs.Own.{is_closing, shuts}
use Rattle.mdb_log.specs.Requests.{requests, is_unserved}
use Rattle.mdb_log.specs.State.{State, is_new, is_ready, is_paused, is_closed, state_of}
use Rattle.mdb_describe.proofs.Addresses.{same-address}
use Rattle.mdb_pool.specs.Core.{PoolCore}
use Rattle.mdb_pool_rules.specs.Answer.{all_facts}
use Rattle.mdb_pool_rules.specs.Facts.{closed_fact, pool_closed_fact, all_ends, readied, close_facts}
use Rattle.mdb_pool.specs.Now.{is_closed_now}
use Rattle.mdb_pool.specs.Planning.{Does}
use Rattle.mdb_pool_rules.specs.Quiet.{IsQuiet}
use Rattle.mdb_pool_rules.specs.Serving.{IsServed}
use Rattle.mdb_pool.specs.Standing.{Fits, Accepts, SameHome}
use Rattle.mdb_pool_rules.proofs.AfterClearOrClose.{ready-alone, close-alone}
use Rattle.mdb_driver_pools.specs.Standing.{is_open_at, at_address, PoolFits, PoolsStand}
use Rattle.mdb_driver_pools.proofs.OnePool.OpenAtOneAddress.{at-address, open-unclosed}
use Rattle.mdb_driver_rules.proofs.General.FirstThatPasses.{position-shut}
use Rattle.mdb_driver_rules.proofs.General.OneElement.{position-at, position-set}
use Rattle.mdb_driver_rules.proofs.General.Truth.{and-or-same}

gone-shut : (b : Bool) → (b && false) || false ≡ false
gone-shut true = refl
gone-shut false = refl

module _ (p : ℕ) (a : ServerAddress) (o : PoolOptions) (m : ℕ) (xs : List PoolItem) where
  -- a mark as ready closes no pool
  readied-open : shuts (readied p a o m xs) ≡ false
  readied-open = on (state_of o xs) refl
    where
      on : (u : State) → state_of o xs ≡ u → shuts (readied p a o m xs) ≡ false
      on is_new e = rw e refl
      on is_ready e = rw e refl
      on (is_paused error) e = rw e refl
      on is_closed e = rw e refl

  ends-shut : (fs : List Fact) → shuts (fs ++ pool_closed_fact p a ∷ []) ≡ true
  ends-shut [] = refl
  ends-shut (f ∷ fs) = on (is_closing f) refl (ends-shut fs)
    where
      on : (b : Bool) → is_closing f ≡ b → shuts (fs ++ pool_closed_fact p a ∷ []) ≡ true → shuts ((f ∷ fs) ++ pool_closed_fact p a ∷ []) ≡ true
      on true e deeper = rw e refl
      on false e deeper = rw e deeper

  abbrev ends : List Fact
  ends = map (λ c. closed_fact p a c PoolClosedReason (known_service xs c)) (available_list xs ++ pending_list xs) ++ all_ends p a m xs Closed (filter (is_unserved xs) (requests xs))

  -- a close of an open one does
  close-shut : state_of o xs ≢ is_closed → shuts (close_facts p a o m xs) ≡ true
  close-shut unclosed = on (state_of o xs) refl
    where
      on : (u : State) → state_of o xs ≡ u → shuts (close_facts p a o m xs) ≡ true
      on is_new e = rw e (ends-shut ends)
      on is_ready e = rw e (ends-shut ends)
      on (is_paused error) e = rw e (ends-shut ends)
      on is_closed e = absurd (unclosed e)

module _ (o : PoolOptions) (pools : List PoolCore) (k : List Item) (z : PoolsStand o pools k) (a : ServerAddress) (i : ℕ) (s t : PoolCore)
    (here : at_address pools a ≡ Some i) (at_i : slice_get pools i ≡ Some s) (same : SameHome s t) (m q : ℕ) (fs : List Fact) (reply : Reply) where
  abbrev xs : List PoolItem
  xs = of_pool s.pool k

  abbrev d : PoolFits o k i s
  d = z.fit.each i s at_i

  fits : Fits s xs
  fits = subst (λ p. Fits s (of_pool p k)) (sym d.number) d.fits

  open-s : is_open_at a s ≡ true
  open-s = (position-at (is_open_at a) pools i s here at_i).0

  at-a : s.address ≡ a
  at-a = at-address a s open-s

  module _ (does : Does s t [] fs (record { moment = m; act = Ready q }) reply) where
    still-open : is_closed_now t ≡ is_closed_now s
    still-open =
        let v : Accepts s t [] fs m (Ready q) reply xs xs = does xs fits in
        let quiet : IsQuiet s.options xs = subst (λ c. IsQuiet c xs) (sym d.options) (z.quiet s.pool) in
        let served : IsServed s.options xs = subst (λ c. IsServed c xs) (sym d.options) (z.served s.pool) in
        let no : shuts (all_facts s.pool s.address s.options m xs xs (Ready q)) ≡ false =
        ap shuts (ready-alone s.pool s.address s.options m xs q quiet served) ∙ readied-open s.pool s.address s.options m xs in
        v.shut ∙ ap (λ b. b || is_closed_now s) no

    -- after a mark as ready the same are open
    pub ready-open : (b : ServerAddress) → is_some (at_address (set pools i t) b) ≡ is_some (at_address pools b)
    ready-open b =
        let w : is_open_at b t ≡ is_open_at b s = ap (λ x. not x && same_address t.address b) still-open ∙ ap (λ c. not (is_closed_now s) && same_address c b) same.address in
        ap is_some (position-set (is_open_at b) pools i s t at_i w)

  module _ (does : Does s t [] fs (record { moment = m; act = Close q }) reply) where
    is-shut : is_closed_now t ≡ true
    is-shut =
        let v : Accepts s t [] fs m (Close q) reply xs xs = does xs fits in
        let number : open_pool k a ≡ Some s.pool = z.fit.open_are a ∙ (here ∙ ap Some (sym d.number)) in
        let mine : is_number (open_pool k a) s.pool ≡ true = rw number (own s.pool) in
        let unclosed : state_of s.options xs ≢ is_closed = open-unclosed o pools k z.fit i s at_i a mine in
        let yes : shuts (all_facts s.pool s.address s.options m xs xs (Close q)) ≡ true =
        ap shuts (close-alone s.pool s.address s.options m xs q) ∙ close-shut s.pool s.address s.options m xs unclosed in
        v.shut ∙ ap (λ b. b || is_closed_now s) yes
      where
        own : (p : ℕ) → (p == p) ≡ true
        own p = grind arith

    -- after a close none is open at its address
    pub close-open : (b : ServerAddress) → same_address a b ≡ true → is_some (at_address (set pools i t) b) ≡ false
    close-open b e =
        let at-b : at_address pools b ≡ Some i = ap (at_address pools) (sym (same-address a b e)) ∙ here in
        let shut-b : is_open_at b t ≡ false = rw is-shut refl in
        let gone : at_address (set pools i t) b ≡ if is_number (at_address pools b) i then None else at_address pools b =
        position-shut (is_open_at b) pools i s t at_i shut-b (λ j x f g h. z.fit.single b i j s x at_i f h g) in
        ap is_some (gone ∙ none (at_address pools b) at-b)
      where
        none : (x : Option ℕ) → x ≡ Some i → (if is_number x i then None else x) ≡ None
        none x f = rw f (rw (own i) refl)
          where
            own : (p : ℕ) → (p == p) ≡ true
            own p = grind arith

    -- and elsewhere the same are
    pub close-leaves : (b : ServerAddress) → (same_address a b ≡ false → at_address (set pools i t) b ≡ at_address pools b) → is_some (at_address (set pools i t) b) ≡ (is_some (at_address pools b) && not (is_listed (a ∷ []) b)) || false
    close-leaves b elsewhere = on (same_address a b) refl
      where
        on : (c : Bool) → same_address a b ≡ c → is_some (at_address (set pools i t) b) ≡ (is_some (at_address pools b) && not (is_listed (a ∷ []) b)) || false
        on true e = close-open b e ∙ sym (rw e (gone-shut (is_some (at_address pools b))))
        on false e = ap is_some (elsewhere e) ∙ sym (rw e (and-or-same (is_some (at_address pools b))))
