-- The clear of a pool, planned at its place: what it tells, what it takes past a limit, and that the pool stays open.
use Rattle.std.proofs.Common.{ℕ, ◌≡◌, ◌+◌, ◌&&◌, ◌||◌, Bool, true, false, not, if◌then◌else◌, List, [], ◌∷◌, ◌++◌, set, Option, Some, None, is_some, nat_lt, nat_le, refl, sym, ◌∙◌, ap, subst, arith}
use Rattle.std.specs.Prelude.{slice_get, unwrap_or}
use Rattle.std.proofs.lemmas.Bool.Decides.{nat_tests}
use Rattle.mdb_base.specs.Equality.{same_address}
use Rattle.mdb_base.specs.declared.address.ServerAddress.{ServerAddress}
use Rattle.mdb_base.specs.declared.error.Error.{Error}
use Rattle.mdb_base.specs.declared.object_id.ObjectId.{ObjectId}
use Rattle.mdb_base.specs.declared.options.Options.{Options}
use Rattle.mdb_events.specs.declared.end.End.{End}
use Rattle.mdb_events.specs.declared.end.End.TheVariants.{Cleared}
use Rattle.mdb_events.specs.declared.fact.Fact.{Fact}
use Rattle.mdb_events.specs.declared.fact.Fact.TheVariants.{Raised}
use Rattle.mdb_log.specs.declared.options.PoolOptions.{PoolOptions}
use Rattle.mdb_log.specs.declared.reply.Reply.{Reply}
use Rattle.mdb_log.specs.declared.reply.What.TheVariants.{Generation}
use Rattle.mdb_log.specs.declared.step.Act.TheVariants.{Clear as ClearAct}
use Rattle.mdb_log.specs.History.{Item, PoolItem, made, of_pool, open_pool}
use Rattle.mdb_log.specs.Opening.{pool_options}
use Rattle.mdb_log.specs.Own.{shuts}
use Rattle.mdb_log.specs.Requests.{is_warm, queued}
use Rattle.mdb_log.specs.State.{State, is_new, is_ready, is_paused, is_closed, state_of, generation_of}
use Rattle.mdb_pool.specs.Core.{PoolCore}
use Rattle.mdb_pool_rules.specs.Answer.{all_facts}
use Rattle.mdb_pool_rules.specs.Facts.{all_ends, cleared_fact, clear_facts}
use Rattle.mdb_pool.specs.Now.{is_closed_now}
use Rattle.mdb_pool.specs.Planning.{Does}
use Rattle.mdb_pool_rules.specs.Refusal.{is_exhausted}
use Rattle.mdb_pool_rules.specs.Serving.{IsServed}
use Rattle.mdb_pool.specs.Standing.{Fits, Accepts, SameHome}
use Rattle.mdb_pool_rules.proofs.AfterClearOrClose.{clear-alone}
use Rattle.mdb_driver_pools.specs.declared.pool_change.PoolChange.{PoolChange}
use Rattle.mdb_driver_pools.specs.Acting.{PlansOne}
use Rattle.mdb_driver_rules.specs.Errors.{Trouble}
use Rattle.mdb_driver_rules.specs.Facts.{clearing}
use Rattle.mdb_topology.specs.Marking.{clear_with}
use Rattle.mdb_driver_pools.specs.Clearing.{clear_act}
use Rattle.mdb_driver_pools.specs.Planned.{PlansMore}
use Rattle.mdb_driver_rules.specs.Refusal.{first_past, sooner}
use Rattle.mdb_driver_pools.specs.Standing.{is_open_at, at_address, PoolFits, PoolsStand}
use Rattle.mdb_driver_pools.specs.Telling.{Makes}
use Rattle.mdb_driver_rules.proofs.NumbersWithinLimits.{take_numbers, first-free, out-free, all-ends-free}
use Rattle.mdb_driver_rules.proofs.General.OneElement.{position-set}
use Rattle.mdb_driver_rules.proofs.General.Truth.{and-or-same}
use Rattle.mdb_driver_pools.proofs.Publications.AtOpenPool.{Gives, of_open, inner-made}
use Rattle.mdb_driver_pools.proofs.Publications.PlannedOfServer.{plans-alter}
use Rattle.mdb_driver_pools.proofs.PartsInTurn.{comes-as}

-- one number past the limit or none
past-or : (b : Bool) → sooner (if b then Some Generation else None) None ≡ (if b then Some Generation else None)
past-or true = refl
past-or false = refl

module _ (p : ℕ) (a : ServerAddress) (m : ℕ) (xs : List PoolItem) (end : End) where
  ends-open : (rs : List ℕ) → shuts (all_ends p a m xs end rs) ≡ false
  ends-open [] = refl
  ends-open (r ∷ rs) = on (is_warm xs r) refl (ends-open rs)
    where
      on : (b : Bool) → is_warm xs r ≡ b → shuts (all_ends p a m xs end rs) ≡ false → shuts (all_ends p a m xs end (r ∷ rs)) ≡ false
      on true e deeper = rw e deeper
      on false e deeper = rw e deeper

module _ (p : ℕ) (a : ServerAddress) (o : PoolOptions) (m : ℕ) (xs : List PoolItem) (error : Error) where
  -- a clear closes no pool
  pub cleared-open : (service : Option ObjectId) → shuts (clear_facts p a o m xs service error) ≡ false
  cleared-open service = on (state_of o xs) service refl
    where
      on : (t : State) (service : Option ObjectId) → state_of o xs ≡ t → shuts (clear_facts p a o m xs service error) ≡ false
      on is_closed s e = rw e refl
      on is_ready None e = rw e (ends-open p a m xs (Cleared error) (queued xs))
      on is_ready (Some s) e = rw e refl
      on is_new None e = rw e refl
      on is_new (Some s) e = rw e refl
      on (is_paused why) None e = rw e refl
      on (is_paused why) (Some s) e = rw e refl

module _ (o : Options) (m : ℕ) (k : List Item) (p : ℕ) (a : ServerAddress) (error : Error) where
  abbrev xs : List PoolItem
  xs = of_pool p k

  raised-past : (service : Option ObjectId) (more : List Fact) → take_numbers more ≡ false
      → first_past o m k (Raised p service error ∷ more) ≡ (if nat_le (pool_options o).limit_generation (generation_of xs service) then Some Generation else None)
  raised-past service more free =
      let limit : ℕ = unwrap_or o.limit_generation 18446744073709551615 in
      let w : nat_lt limit (generation_of xs service + 1) ≡ nat_le limit (generation_of xs service) = grind (arith, nat_tests) in
      rw (first-free o m (made m (Raised p service error) ∷ k) more free, w) (past-or (nat_le limit (generation_of xs service)))

  -- a clear passes a limit where the generation is at it
  pub past-clear : (service : Option ObjectId)
      → first_past o m k (clear_facts p a (pool_options o) m xs service error) ≡ (if is_exhausted (pool_options o) xs service then Some Generation else None)
  past-clear service = on (state_of (pool_options o) xs) service refl
    where
      all-free : take_numbers (cleared_fact p a None error ∷ all_ends p a m xs (Cleared error) (queued xs)) ≡ false
      all-free = out-free (all_ends p a m xs (Cleared error) (queued xs)) (all-ends-free p a (pool_options o) m xs (Cleared error) (queued xs))

      on : (t : State) (service : Option ObjectId) → state_of (pool_options o) xs ≡ t
          → first_past o m k (clear_facts p a (pool_options o) m xs service error) ≡ (if is_exhausted (pool_options o) xs service then Some Generation else None)
      on is_closed s e = rw e refl
      on is_ready None e = rw e (raised-past None (cleared_fact p a None error ∷ all_ends p a m xs (Cleared error) (queued xs)) all-free)
      on is_ready (Some s) e = rw e (raised-past (Some s) (cleared_fact p a (Some s) error ∷ []) refl)
      on is_new None e = rw e (raised-past None [] refl)
      on is_new (Some s) e = rw e (raised-past (Some s) (cleared_fact p a (Some s) error ∷ []) refl)
      on (is_paused why) None e = rw e (raised-past None [] refl)
      on (is_paused why) (Some s) e = rw e (raised-past (Some s) (cleared_fact p a (Some s) error ∷ []) refl)

-- the part of a clear is that of its pool
pub clearing-is : (o : Options) (m : ℕ) (x : Trouble) (service : Option ObjectId) (k : List Item)
    → clearing o m (Some x) (clear_with service) k ≡ clear_facts x.pool x.address (pool_options o) m (of_pool x.pool k) service x.error
clearing-is o m x None k = refl
clearing-is o m x (Some s) k = refl

abbrev clears : Option ObjectId → Error → ℕ → Gives
clears service error m p a o xs = clear_facts p a o m xs service error

module _ (o : Options) (m : ℕ) (a : ServerAddress) (pools : List PoolCore) (i : ℕ) (s t : PoolCore) (here : at_address pools a ≡ Some i) (at_i : slice_get pools i ≡ Some s) (same : SameHome s t)
    (service : Option ObjectId) (error : Error) (q : ℕ) (fs : List Fact) (reply : Reply) (does : Does s t [] fs (record { moment = m; act = ClearAct q service error }) reply) where
  -- the pool that is open at the address is cleared
  pub clear-made : (x : Trouble) → x.pool ≡ s.pool → x.address ≡ a → x.error ≡ error → (before after : List Fact) → after ≡ before ++ fs
      → Makes o m (clearing o m (Some x) (clear_with service)) pools (set pools i t) before after
  clear-made x pool address error_is before after added k z =
      comes-as o m (clearing o m (Some x) (clear_with service) k) (of_open (clears service error m) o a (open_pool k a) k) (set pools i t) before after k eq
      (inner-made o m a pools (clears service error m) i s t here at_i same (ClearAct q service error) tt (λ ys quiet served. clear-alone s.pool s.address s.options m ys q service error served) fs reply does before after added k z)
    where
      number : open_pool k a ≡ Some s.pool
      number = z.fit.open_are a ∙ (here ∙ ap Some (sym (z.fit.each i s at_i).number))

      eq : of_open (clears service error m) o a (open_pool k a) k ≡ clearing o m (Some x) (clear_with service) k
      eq =
          ap (λ y. of_open (clears service error m) o a y k) number
          ∙ (ap (λ p. clear_facts p a (pool_options o) m (of_pool p k) service error) (sym pool)
          ∙ (ap (λ b. clear_facts x.pool b (pool_options o) m (of_pool x.pool k) service error) (sym address)
          ∙ (ap (λ e. clear_facts x.pool x.address (pool_options o) m (of_pool x.pool k) service e) (sym error_is)
          ∙ sym (clearing-is o m x service k))))

  -- and stays open
  module _ (k : List Item) (z : PoolsStand (pool_options o) pools k) where
    abbrev d : PoolFits (pool_options o) k i s
    d = z.fit.each i s at_i

    still-open : is_closed_now t ≡ is_closed_now s
    still-open =
        let ys : List PoolItem = of_pool s.pool k in
        let fits : Fits s ys = subst (λ p. Fits s (of_pool p k)) (sym d.number) d.fits in
        let v : Accepts s t [] fs m (ClearAct q service error) reply ys ys = does ys fits in
        let served : IsServed s.options ys = subst (λ c. IsServed c ys) (sym d.options) (z.served s.pool) in
        let no : shuts (all_facts s.pool s.address s.options m ys ys (ClearAct q service error)) ≡ false =
        ap shuts (clear-alone s.pool s.address s.options m ys q service error served) ∙ cleared-open s.pool s.address s.options m ys error service in
        v.shut ∙ ap (λ b. b || is_closed_now s) no

    pub clear-open : (b : ServerAddress) → is_some (at_address (set pools i t) b) ≡ is_some (at_address pools b)
    clear-open b =
        let w : is_open_at b t ≡ is_open_at b s = ap (λ x. not x && same_address t.address b) still-open ∙ ap (λ c. not (is_closed_now s) && same_address c b) same.address in
        ap is_some (position-set (is_open_at b) pools i s t at_i w)

-- the clear, behind other changes
pub plans-clear : (o : Options) (m : ℕ) (pools : List PoolCore) (n : ℕ) (earlier changes : List PoolChange) (a : ServerAddress) (i : ℕ) (service : Option ObjectId) (error : Error) (before after : List Fact)
    → at_address pools a ≡ Some i → (d : PlansOne pools i m (clear_act service error) earlier changes before after) → (x : Trouble) → x.pool ≡ d.pool.pool → x.address ≡ a → x.error ≡ error
    → PlansMore o m pools n (same_address a) (clearing o m (Some x) (clear_with service) ∷ []) [] [] earlier changes before after
plans-clear o m pools n earlier changes a i service error before after here d x pool address error_is =
    plans-alter o m pools n earlier changes a (clear_act service error) (clearing o m (Some x) (clear_with service)) [] i before after before after here d
    (λ now t k b at get done y elsewhere. clear-open o m a now i d.pool t at get done.home service error d.pool.pool d.answered.facts d.answered.reply done.does k y b ∙ sym (and-or-same (is_some (at_address now b))))
    (λ now t at get done. clear-made o m a now i d.pool t at get done.home service error d.pool.pool d.answered.facts d.answered.reply done.does x pool address error_is before after d.told)
