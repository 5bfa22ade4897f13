-- A driver's own act on one of its pools: a mark as ready, a clear or a close. It is whole: nothing is left to serve.
use Rattle.std.proofs.Common.{ℕ, ◌≡◌, ◌≢◌, ◌==◌, ◌||◌, Bool, true, false, List, set, Option, Some, None, refl, sym, ◌∙◌, ap, subst, arith}
use Rattle.std.specs.Prelude.{slice_get, ⊤}
use Rattle.mdb_base.specs.declared.address.ServerAddress.{ServerAddress}
use Rattle.mdb_events.specs.declared.fact.Fact.{Fact}
use Rattle.mdb_log.specs.declared.options.PoolOptions.{PoolOptions}
use Rattle.mdb_log.specs.declared.step.Step.{Step}
use Rattle.mdb_log.specs.declared.step.Act.{Act}
use Rattle.mdb_log.specs.declared.step.Act.TheVariants.{Ready, Clear, Close}
use Rattle.mdb_log.specs.declared.reply.Reply.{Reply}
use Rattle.mdb_log.specs.declared.reply.Reply.TheVariants.{Done}
use Rattle.mdb_log.specs.History.{Item, PoolItem, of_pool, after_act, after_facts, with_facts}
use Rattle.mdb_log.specs.Requests.{settles, is_job}
use Rattle.mdb_log.specs.Limits.{WithinLimits}
use Rattle.mdb_log.specs.LegalLog.{AllFirstCome}
use Rattle.mdb_log.specs.Fresh.{AllGrantFresh}
use Rattle.mdb_log.specs.Beside.{AllFreshGrants}
use Rattle.mdb_log.proofs.Later.{of_pool-with_facts}
use Rattle.mdb_pool.specs.Core.{PoolCore}
use Rattle.mdb_pool.specs.Now.{claimed_now, settled_now}
use Rattle.mdb_pool_rules.specs.Answer.{all_facts, reply_of}
use Rattle.mdb_pool_rules.specs.Serving.{IsServed}
use Rattle.mdb_pool_rules.specs.Quiet.{IsQuiet}
use Rattle.mdb_pool.specs.Standing.{Fits, Accepts, SameHome}
use Rattle.mdb_pool_rules.proofs.FactsGrantNothing.{IsBound}
use Rattle.mdb_pool.proofs.Histories.GrantsAreFresh.{accepted-fresh}
use Rattle.mdb_pool_rules.proofs.LimitsAreKept.{accepted-within}
use Rattle.mdb_pool.proofs.NothingServed.KeptByActs.{act-quiet}
use Rattle.mdb_driver_pools.specs.Standing.{PoolFits, PoolsStand}
use Rattle.mdb_driver_pools.proofs.OnePool.FactsWithoutAct.{Calls, call-fits, there}
use Rattle.mdb_driver_pools.proofs.OnePool.FactsLeaveOthers.{fair-facts, fresh-facts}

abbrev pub IsInner : Act → Type 0
IsInner (Ready q) = ⊤
IsInner (Clear q service error) = ⊤
IsInner (Close q) = ⊤
IsInner _ = ⊥

-- the pool knows no more by the act itself
pub same-items : (act : Act) → IsInner act → (p m : ℕ) (here : ServerAddress → Option ℕ) (xs : List PoolItem) → after_act p here m act xs ≡ xs
same-items (Ready q) c p m here xs = refl
same-items (Clear q service error) c p m here xs = refl
same-items (Close q) c p m here xs = refl
same-items _ c p m here xs = elim c [ ]

settles-none : (act : Act) → IsInner act → (reply : Reply) (r : ℕ) → settles act reply r ≡ false
settles-none (Ready q) c reply r = refl
settles-none (Clear q service error) c reply r = refl
settles-none (Close q) c reply r = refl
settles-none _ c reply r = elim c [ ]

is-done : (act : Act) → IsInner act → (p : ℕ) (claimed : ℕ → Bool) (xs zs : List PoolItem) → reply_of p claimed xs zs act ≡ Done
is-done (Ready q) c p claimed xs zs = refl
is-done (Clear q service error) c p claimed xs zs = refl
is-done (Close q) c p claimed xs zs = refl
is-done _ c p claimed xs zs = elim c [ ]

is-bound : (act : Act) → IsInner act → (n : ℕ) (xs : List PoolItem) → IsBound n xs act
is-bound (Ready q) c n xs = tt
is-bound (Clear q service error) c n xs = tt
is-bound (Close q) c n xs = tt
is-bound _ c n xs = elim c [ ]

-- what comes of it among all pools
pub record Acted (o : PoolOptions) (later : List PoolCore) (m : ℕ) (fs : List Fact) (h : List Item) : Type 0 where
  pub stand : PoolsStand o later (with_facts m fs h)
  pub fair : AllFirstCome m h fs
  pub fresh : AllFreshGrants o m h fs

module _ (o : PoolOptions) (pools : List PoolCore) (h : List Item) (z : PoolsStand o pools h) (i : ℕ) (s t : PoolCore) (at_i : slice_get pools i ≡ Some s)
    (m : ℕ) (act : Act) (inner : IsInner act) (before after : List Fact) (reply : Reply) (same : SameHome s t)
    (v : Accepts s t before after m act reply (of_pool s.pool h) (of_pool s.pool h)) where
  abbrev xs : List PoolItem
  xs = of_pool s.pool h

  abbrev d : PoolFits o h i s
  d = z.fit.each i s at_i

  abbrev F : List Fact
  F = all_facts s.pool s.address s.options m xs xs act

  abbrev k : List Item
  k = with_facts m F h

  replied : reply ≡ Done
  replied =
      let claims : (c : ℕ) → claimed_now s c ≡ claimed_now s c = λ c. refl in
      v.reply_is (λ c. claimed_now s c) claims ∙ is-done act inner s.pool (λ c. claimed_now s c) xs (after_facts s.pool m F xs)

  calls : Calls s t m F xs
  calls = record {
    same = same;
    own = v.own;
    fits = v.fits;
    shut = v.shut;
    settled = λ r. v.settled r ∙ ap (λ b. b || settled_now s r) (settles-none act inner reply r);
    claimed = λ c. v.claimed c ∙ ap (λ b. is_job s.pool b c || claimed_now s c) replied;
  }

  -- what holds of the pool afterwards and of the others holds of each
  each : (P : List PoolItem → Type 0) → P (after_facts s.pool m F xs) → ((q : ℕ) → P (of_pool q h)) → (q : ℕ) → P (of_pool q k)
  each P here old q = on (s.pool == q) refl
    where
      on : (b : Bool) → (s.pool == q) ≡ b → P (of_pool q k)
      on true e = let f : s.pool ≡ q = grind arith in subst P (sym (of_pool-with_facts s.pool m F h) ∙ ap (λ p. of_pool p k) f) here
      on false e = let f : s.pool ≢ q = grind arith in subst P (sym (there o pools h z.fit i s t at_i m F calls q f)) (old q)

  within-here : WithinLimits s.options (after_facts s.pool m F xs)
  within-here = accepted-within s.pool s.address s.options m xs xs act (subst (λ c. WithinLimits c xs) (sym d.options) (z.within s.pool))

  quiet-here : IsQuiet s.options (after_facts s.pool m F xs)
  quiet-here =
      subst (λ ys. IsQuiet s.options (after_facts s.pool m (all_facts s.pool s.address s.options m xs ys act) ys)) (same-items act inner s.pool m (λ a. None) xs)
      (act-quiet s.pool s.address s.options m (λ a. None) xs (λ b e f. cc) (subst (λ c. IsQuiet c xs) (sym d.options) (z.quiet s.pool)) act)

  fresh-here : AllGrantFresh s.pool o m xs F
  fresh-here =
      let step : Step = record { moment = m; act = act } in
      let fits : Fits s xs = subst (λ p. Fits s (of_pool p h)) (sym d.number) d.fits in
      subst (λ c. AllGrantFresh s.pool c m xs F) d.options
      (subst (λ ys. AllGrantFresh s.pool s.options m ys (all_facts s.pool s.address s.options m xs ys act)) (same-items act inner s.pool m _ xs)
      (accepted-fresh s h step fits (is-bound act inner _ xs)))

  pub acted : Acted o (set pools i t) m F h
  acted = record {
    stand = record {
      fit = call-fits o pools h z.fit i s t at_i m F calls;
      served = each (IsServed o) (subst (λ c. IsServed c (after_facts s.pool m F xs)) d.options v.served) z.served;
      quiet = each (IsQuiet o) (subst (λ c. IsQuiet c (after_facts s.pool m F xs)) d.options quiet-here) z.quiet;
      within = each (WithinLimits o) (subst (λ c. WithinLimits c (after_facts s.pool m F xs)) d.options within-here) z.within;
    };
    fair = fair-facts s.pool m F h v.fair;
    fresh = fresh-facts s.pool o m F h v.fair fresh-here;
  }
