-- Each pool is the one at its number, and a job that was told is there.
use Rattle.std.proofs.Common.{ℕ, zero, suc, length, nat_lt, ◌≡◌, ◌==◌, Bool, true, false, List, [], ◌∷◌, find, Option, Some, None, is_some, refl, sym, ◌∙◌, ap, subst, arith}
use Rattle.std.specs.Prelude.{slice_get}
use Rattle.std.proofs.lemmas.Bool.Decides.{nat_tests}
use Rattle.mdb_base.specs.declared.options.Options.{Options}
use Rattle.mdb_log.specs.declared.options.PoolOptions.{PoolOptions}
use Rattle.mdb_log.specs.declared.log.Entry.{Entry}
use Rattle.mdb_log.specs.declared.step.Step.{Step}
use Rattle.mdb_log.specs.declared.step.Act.TheVariants as Do
use Rattle.mdb_log.specs.declared.reply.Reply.{Reply}
use Rattle.mdb_log.specs.declared.reply.Reply.TheVariants.{Job}
use Rattle.mdb_log.specs.Driver.{IsThere}
use Rattle.mdb_log.specs.History.{Item, did, of_pool, with_answer, history_of}
use Rattle.mdb_log.specs.Connections.{has, pending_list}
use Rattle.mdb_log.specs.Requests.{is_claimed}
use Rattle.mdb_log.specs.Homes.{Home, homes}
use Rattle.mdb_log.specs.Opening.{pool_options}
use Rattle.mdb_log.proofs.Frame.{other-number}
use Rattle.mdb_log.proofs.Numbers.{same-number}
use Rattle.mdb_pool.specs.Core.{PoolCore}
use Rattle.mdb_pool_rules.specs.Answer.{first_job}
use Rattle.mdb_pool_rules.specs.Jobs.{job_in}
use Rattle.mdb_pool.specs.Now.{is_spent}
use Rattle.mdb_pool.proofs.Told.OfQueries.{pending-is}
use Rattle.mdb_pool.proofs.KeptInLittle.NothingLives.{none-pending}
use Rattle.mdb_pool_rules.proofs.Listed.Values.{find-member}
use Rattle.mdb_topology.specs.declared.topology.TopologyCore.{TopologyCore}
use Rattle.mdb_driver_rules.specs.Homes.{concerns, home_of, home_at}
use Rattle.mdb_driver_rules.specs.Answer.{pool_reply}
use Rattle.mdb_driver_rules.specs.Jobs.{job_at, job_after}
use Rattle.mdb_driver_rules.specs.Lines.{options_of}
use Rattle.mdb_topology.specs.Logging.{IsDriverOf}
use Rattle.mdb_driver_pools.specs.Standing.{home, PoolFits, PoolsFit}
use Rattle.mdb_driver_rules.proofs.General.OneElement.{find-at, find-none}
use Rattle.mdb_driver_pools.specs.Living.{living_at}
use Rattle.mdb_driver_pools.proofs.OnePool.FoundAt.{fits-at, number-at}

-- there is something at each place below the length
pub some-place : {T : Type 0} (xs : List T) (p : ℕ) → is_some (slice_get xs p) ≡ nat_lt p (length xs)
some-place [] p = grind (arith, nat_tests)
some-place (x ∷ xs) zero = grind (arith, nat_tests)
some-place (x ∷ xs) (suc p) = grind (arith, nat_tests, some-place xs p)

module _ (o : PoolOptions) (pools : List PoolCore) (h : List Item) (z : PoolsFit o pools h) (p : ℕ) where
  -- the pool at the place has its number
  pub numbered-home : (s : PoolCore) → slice_get pools p ≡ Some s → home_at h p ≡ Some (home s)
  numbered-home s e =
      let here : (s.pool == p) ≡ true = rw (number-at o pools h z p s e) (same-number p) in
      rw z.homes_are (find-at home (λ x. x.number == p) pools p s e here (λ j x f l. other-number x.pool p (λ k. (let n : x.pool ≡ j = number-at o pools h z j x f in omega arith))))

  -- past the last there is none
  pub no-home : slice_get pools p ≡ None → home_at h p ≡ None
  no-home e =
      rw z.homes_are (find-none home (λ x. x.number == p) pools (λ j x f. other-number x.pool p (λ k. (let n : j ≡ p = sym (number-at o pools h z j x f) ∙ k in let g : slice_get pools p ≡ Some x = subst (λ i. slice_get pools i ≡ Some x) n f in cc))))

-- the options of a driver are those that its log was opened with
pub options-are : (w : TopologyCore) (log : List Entry) → IsDriverOf w log → options_of log ≡ w.options
options-are w log z = ap options_of z.logged

module _ (w : TopologyCore) (log : List Entry) (z : IsDriverOf w log) (p c : ℕ) where
  abbrev h : List Item
  h = history_of log

  job-by : (x : Option Home) → home_at h p ≡ x → job_after log p c ≡ job_at w.options h c x
  job-by x e = ap (λ q. job_at q h c (home_at h p)) (options-are w log z) ∙ ap (job_at w.options h c) e

  -- the pool's own job
  pub job-known : (s : PoolCore) → slice_get w.pools.cores.items p ≡ Some s → job_in s.pool s.address s.options (of_pool s.pool h) c ≡ job_after log p c
  job-known s e =
      let d : PoolFits (pool_options w.options) h p s = z.stands.pools.fit.each p s e in
      ap (λ q. job_in s.pool s.address q (of_pool s.pool h) c) d.options ∙ sym (job-by (Some (home s)) (numbered-home (pool_options w.options) w.pools.cores.items h z.stands.pools.fit p s e))

  pub job-unknown : living_at w.pools.cores.items p ≡ None → None ≡ job_after log p c
  job-unknown gone = on (slice_get w.pools.cores.items p) refl
    where
      on : (u : Option PoolCore) → slice_get w.pools.cores.items p ≡ u → None ≡ job_after log p c
      on None e = sym (job-by None (no-home (pool_options w.options) w.pools.cores.items h z.stands.pools.fit p e))
      on (Some s) e = in-two (is_spent s) refl
        where
          in-two : (b : Bool) → is_spent s ≡ b → None ≡ job_after log p c
          in-two true f =
              let none : has c (pending_list (of_pool s.pool h)) ≡ false = pending-is s (of_pool s.pool h) (fits-at (pool_options w.options) w.pools.cores.items h z.stands.pools.fit p s e) c ∙ none-pending s f c in
              sym (rw none refl) ∙ job-known s e
          in-two false f = let k : living_at w.pools.cores.items p ≡ Some s = rw (e, f) refl in let v : ◌≡◌ {A = Option PoolCore} (Some s) None = sym k ∙ gone in cc

-- what passes one test is found by another that it passes
found-again : {T : Type 0} (f g : T → Bool) (xs : List T) (x : T) → find f xs ≡ Some x → g x ≡ true → is_some (find g xs) ≡ true
found-again f g [] x e k = cc
found-again f g (y ∷ xs) x e k = on (f y) (g y) refl refl (λ i. found-again f g xs x i k)
  where
    on : (b c : Bool) → f y ≡ b → g y ≡ c → (find f xs ≡ Some x → is_some (find g xs) ≡ true) → is_some (find g (y ∷ xs)) ≡ true
    on b true i j rest = rw j refl
    on true false i j rest = let v : Some y ≡ Some x = sym (rw i refl) ∙ e in let n : y ≡ x = cc in let t : g x ≡ false = subst (λ u. g u ≡ false) n j in cc
    on false false i j rest = rw j (rest (sym (rw i refl) ∙ e))

-- the job that is told is of a pending connection
first-told : (p : ℕ) (claimed : ℕ → Bool) (cs : List ℕ) (q c : ℕ) → first_job p claimed cs ≡ Job q c → (p ≡ q) × (has c cs ≡ true)
first-told p claimed [] q c e = cc
first-told p claimed (d ∷ cs) q c e = on (claimed d) refl (first-told p claimed cs q c)
  where
    later : (b : Bool) → (d == c) ≡ b → has c cs ≡ true → has c (d ∷ cs) ≡ true
    later true f g = rw f refl
    later false f g = rw f g

    on : (b : Bool) → claimed d ≡ b → (first_job p claimed cs ≡ Job q c → (p ≡ q) × (has c cs ≡ true)) → (p ≡ q) × (has c (d ∷ cs) ≡ true)
    on true f rest = let k : (p ≡ q) × (has c cs ≡ true) = rest (sym (rw f refl) ∙ e) in (k.0, later (d == c) refl k.1)
    on false f rest =
        let k : Job p d ≡ Job q c = sym (rw f refl) ∙ e in
        let n : d ≡ c = cc in
        let i : (d == c) ≡ true = rw n (same-number c) in
        (cc, rw i refl)

module _ (o : Options) (h : List Item) (m : ℕ) where
  abbrev step : Step
  step = record { moment = m; act = Do.Claim }

  there : (x : Home) → home_of h Do.Claim ≡ Some x → (q c : ℕ) → first_job x.number (is_claimed h x.number) (pending_list (of_pool x.number h)) ≡ Job q c → is_some (job_at o (did step (Job q c) ∷ h) c (home_at h q)) ≡ true
  there x e q c f = on (home_at h q) refl
    where
      t : (x.number ≡ q) × (has c (pending_list (of_pool x.number h)) ≡ true)
      t = first-told x.number (is_claimed h x.number) (pending_list (of_pool x.number h)) q c f

      found : is_some (home_at h q) ≡ true
      found = found-again (λ y. concerns h Do.Claim y.number) (λ y. y.number == q) (homes h) x e (rw t.0 (same-number q))

      on : (y : Option Home) → home_at h q ≡ y → is_some (job_at o (did step (Job q c) ∷ h) c (home_at h q)) ≡ true
      on None g = let k : false ≡ true = sym (ap is_some g) ∙ found in cc
      on (Some y) g =
          let named : (y.number == q) ≡ true = (find-member (λ k. k.number == q) y (homes h) g).1 in
          let n : y.number ≡ q = grind arith in
          let pends : has c (pending_list (of_pool y.number h)) ≡ true = subst (λ i. has c (pending_list (of_pool i h)) ≡ true) (t.0 ∙ sym n) t.1 in
          rw (g, pends) refl

  -- after the claim, which makes no fact
  pub told-there : (x : Option Home) (y : List Item) (reply : Reply) → home_of h Do.Claim ≡ x → pool_reply h y Do.Claim x ≡ reply
      → IsThere (λ p c. job_at o (with_answer step reply [] h) c (home_at (with_answer step reply [] h) p)) reply
  told-there None y (Job q c) e f = cc
  told-there (Some x) y (Job q c) e f = there x e q c f
  told-there x y _ e f = tt
