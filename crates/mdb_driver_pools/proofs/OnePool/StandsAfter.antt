-- After an accepted act of one pool the pools stand for the longer history.
use Rattle.std.proofs.Common.{ℕ, ◌≡◌, ◌≢◌, ◌==◌, ◌||◌, ◌&&◌, Bool, true, false, not, List, [], ◌∷◌, set, Option, Some, None, is_some, refl, sym, ◌∙◌, ap, subst, arith}
use Rattle.std.specs.Prelude.{slice_get}
use Rattle.mdb_events.specs.declared.fact.Fact.{Fact}
use Rattle.mdb_base.specs.declared.options.Options.{Options}
use Rattle.mdb_log.specs.declared.options.PoolOptions.{PoolOptions}
use Rattle.mdb_log.specs.declared.step.Step.{Step}
use Rattle.mdb_log.specs.declared.step.Act.{Act}
use Rattle.mdb_log.specs.declared.step.Act.TheVariants.{Request, Warm, Collect, Claim, GiveUp}
use Rattle.mdb_log.specs.declared.reply.Reply.{Reply}
use Rattle.mdb_events.specs.declared.end.End.{End}
use Rattle.mdb_pool.specs.Core.{PoolCore}
use Rattle.mdb_log.specs.History.{Item, did, PoolItem, of_pool, with_facts, with_answer, after_facts, last_moment, given, open_pool, with_act}
use Rattle.mdb_log.specs.Connections.{has, pending_list}
use Rattle.mdb_log.specs.Requests.{some_act, names_party, was_asked, leaves, told, asks_how, is_outcome, is_claimed, end_of, outcome_of, settles, is_job}
use Rattle.mdb_pool_rules.specs.Answer.{all_facts, first_job, reply_of}
use Rattle.mdb_pool.specs.Now.{claimed_now, knows_now}
use Rattle.mdb_pool_rules.specs.Serving.{IsServed}
use Rattle.mdb_log.specs.Own.{shuts}
use Rattle.mdb_log.specs.Legal.{AllFirstCome as PoolFirstCome}
use Rattle.mdb_log.specs.Limits.{WithinLimits}
use Rattle.mdb_log.specs.Fresh.{AllGrantFresh}
use Rattle.mdb_pool.specs.Standing.{Fits, Accepts, SameHome}
use Rattle.mdb_pool.proofs.Told.OfQueries.{party-is}
use Rattle.mdb_log.proofs.Later.{with_answer-accepted, opens-after, claimed-reply}
use Rattle.mdb_pool_rules.proofs.LimitsAreKept.{act-kept, accepted-within}
use Rattle.mdb_pool.proofs.Histories.GrantsAreFresh.{accepted-fresh}
use Rattle.mdb_pool.proofs.NothingServed.KeptByActs.{act-quiet}
use Rattle.mdb_pool_rules.specs.Quiet.{IsQuiet}
use Rattle.mdb_driver_pools.proofs.OnePool.OpenAtOneAddress.{open-unclosed}
use Rattle.mdb_log.proofs.Frame.{party-facts, asked-facts, last-facts, acts-facts, open-facts, told-facts, claimed-facts, other-number}
use Rattle.mdb_log.specs.Opening.{pool_options}
use Rattle.mdb_driver_pools.specs.Taking.{Takes}
use Rattle.mdb_driver_pools.specs.Standing.{PoolFits, PoolsStand}
use Rattle.mdb_driver_pools.proofs.OnePool.FactsLeaveOthers.{homes-facts, fair-facts, fair-accepted, fresh-facts}
use Rattle.mdb_driver_pools.proofs.OnePool.OthersStay.{Moved, moved}
use Rattle.mdb_driver_pools.proofs.OnePool.AcceptedAct.{Concerns, answer-is, all-here, all-there}

-- a job is told by the pool that has it
outcome-no-job : (p q : ℕ) (xs : List PoolItem) (r c : ℕ) → is_job q (outcome_of p xs r) c ≡ false
outcome-no-job p q xs r c = on (end_of xs r) (given xs r) refl refl
  where
    at_pending : (d : ℕ) (b : Bool) → end_of xs r ≡ None → given xs r ≡ Some d → has d (pending_list xs) ≡ b → is_job q (outcome_of p xs r) c ≡ false
    at_pending d true e f g = rw (e, f, g) refl
    at_pending d false e f g = rw (e, f, g) refl

    on : (a : Option End) (b : Option ℕ) → end_of xs r ≡ a → given xs r ≡ b → is_job q (outcome_of p xs r) c ≡ false
    on (Some end) b e f = rw e refl
    on None None e f = rw (e, f) refl
    on None (Some d) e f = at_pending d (has d (pending_list xs)) e f refl

first-no-job : (p q c : ℕ) → p ≢ q → (claimed : ℕ → Bool) (cs : List ℕ) → is_job q (first_job p claimed cs) c ≡ false
first-no-job p q c ne claimed [] = refl
first-no-job p q c ne claimed (d ∷ cs) = on (claimed d) refl (first-no-job p q c ne claimed cs)
  where
    on : (b : Bool) → claimed d ≡ b → is_job q (first_job p claimed cs) c ≡ false → is_job q (first_job p claimed (d ∷ cs)) c ≡ false
    on true e rest = rw e rest
    on false e rest = rw (e, other-number p q ne) refl

other-job : (p q c : ℕ) → p ≢ q → (claimed : ℕ → Bool) (xs zs : List PoolItem) (act : Act) → is_job q (reply_of p claimed xs zs act) c ≡ false
other-job p q c ne claimed xs zs (Request r a) = outcome-no-job p q zs r c
other-job p q c ne claimed xs zs (Warm r a) = outcome-no-job p q zs r c
other-job p q c ne claimed xs zs (Collect r) = outcome-no-job p q zs r c
other-job p q c ne claimed xs zs Claim = first-no-job p q c ne claimed (pending_list xs)
other-job p q c ne claimed xs zs (GiveUp r) = on (is_some (end_of xs r)) refl
  where
    on : (b : Bool) → is_some (end_of xs r) ≡ b → is_job q (reply_of p claimed xs zs (GiveUp r)) c ≡ false
    on true e = rw e (outcome-no-job p q xs r c)
    on false e = rw e refl
other-job p q c ne claimed xs zs _ = refl

module _ (qo : Options) (pools : List PoolCore) (h : List Item) (z : PoolsStand (pool_options qo) pools h) (i : ℕ) (s t : PoolCore) (at_i : slice_get pools i ≡ Some s)
    (step : Step) (reply : Reply) (ys : List PoolItem) (before after : List Fact) (same : SameHome s t) (w : Concerns qo pools h s step ys)
    (v : Accepts s t before after step.moment step.act reply (of_pool s.pool h) ys) where
  abbrev o : PoolOptions
  o = pool_options qo

  abbrev m : ℕ
  m = step.moment

  abbrev own-stands : PoolFits o h i s
  own-stands = z.fit.each i s at_i

  abbrev F : List Fact
  F = all_facts s.pool s.address s.options m (of_pool s.pool h) ys step.act

  abbrev k : List Item
  k = with_facts m F (did step reply ∷ h)

  here-k : of_pool s.pool k ≡ after_facts s.pool m F ys
  here-k = all-here qo pools h z i s t at_i step reply ys before after w v

  there-k : (q : ℕ) → s.pool ≢ q → of_pool q k ≡ of_pool q h
  there-k = all-there qo pools h z i s t at_i step reply ys before after w v

  served-k : (q : ℕ) → IsServed o (of_pool q k)
  served-k q = on (s.pool == q) refl
    where
      on : (b : Bool) → (s.pool == q) ≡ b → IsServed o (of_pool q k)
      on true e =
          let f : s.pool ≡ q = grind arith in
          subst (IsServed o) (sym here-k ∙ ap (λ p. of_pool p k) f) (subst (λ c. IsServed c (after_facts s.pool m F ys)) own-stands.options v.served)
      on false e = let f : s.pool ≢ q = grind arith in subst (IsServed o) (sym (there-k q f)) (z.served q)

  -- each pool keeps its limits
  within-here : WithinLimits s.options (after_facts s.pool m F ys)
  within-here =
      let before : WithinLimits s.options (of_pool s.pool h) = subst (λ c. WithinLimits c (of_pool s.pool h)) (sym own-stands.options) (z.within s.pool) in
      let acted : WithinLimits s.options ys = subst (WithinLimits s.options) w.mine (act-kept s.options s.pool (open_pool h) m step.act (of_pool s.pool h) before) in
      accepted-within s.pool s.address s.options m (of_pool s.pool h) ys step.act acted

  within-k : (q : ℕ) → WithinLimits o (of_pool q k)
  within-k q = on (s.pool == q) refl
    where
      on : (b : Bool) → (s.pool == q) ≡ b → WithinLimits o (of_pool q k)
      on true e =
          let f : s.pool ≡ q = grind arith in
          subst (WithinLimits o) (sym here-k ∙ ap (λ p. of_pool p k) f) (subst (λ c. WithinLimits c (after_facts s.pool m F ys)) own-stands.options within-here)
      on false e = let f : s.pool ≢ q = grind arith in subst (WithinLimits o) (sym (there-k q f)) (z.within q)

  -- nobody is queued in vain
  quiet-here : IsQuiet s.options (after_facts s.pool m F ys)
  quiet-here =
      let before : IsQuiet s.options (of_pool s.pool h) = subst (λ c. IsQuiet c (of_pool s.pool h)) (sym own-stands.options) (z.quiet s.pool) in
      subst (λ zs. IsQuiet s.options (after_facts s.pool m (all_facts s.pool s.address s.options m (of_pool s.pool h) zs step.act) zs)) w.mine
      (act-quiet s.pool s.address s.options m (open_pool h) (of_pool s.pool h) (open-unclosed o pools h z.fit i s at_i) before step.act)

  quiet-k : (q : ℕ) → IsQuiet o (of_pool q k)
  quiet-k q = on (s.pool == q) refl
    where
      on : (b : Bool) → (s.pool == q) ≡ b → IsQuiet o (of_pool q k)
      on true e =
          let f : s.pool ≡ q = grind arith in
          subst (IsQuiet o) (sym here-k ∙ ap (λ p. of_pool p k) f) (subst (λ c. IsQuiet c (after_facts s.pool m F ys)) own-stands.options quiet-here)
      on false e = let f : s.pool ≢ q = grind arith in subst (IsQuiet o) (sym (there-k q f)) (z.quiet q)

  -- the grants are of fresh connections
  fresh-k : AllGrantFresh s.pool o m (with_act s.pool h step) F
  fresh-k =
      let fits : Fits s (of_pool s.pool h) = subst (λ p. Fits s (of_pool p h)) (sym own-stands.number) own-stands.fits in
      let of_act : AllGrantFresh s.pool s.options m (with_act s.pool h step) F =
      subst (λ zs. AllGrantFresh s.pool s.options m (with_act s.pool h step) (all_facts s.pool s.address s.options m (of_pool s.pool h) zs step.act)) w.mine (accepted-fresh s h step fits w.bound) in
      subst (λ c. AllGrantFresh s.pool c m (with_act s.pool h step) F) own-stands.options of_act

  closes-k : (b : ℕ → Bool) → ((r : ℕ) → (told h r == 0) && not (some_act leaves h r) ≡ not (b r)) → (r : ℕ) → (told k r == 0) && not (some_act leaves k r) ≡ not (settles step.act reply r || b r)
  closes-k b e r = rw (told-facts m r F (did step reply ∷ h), acts-facts leaves m r F (did step reply ∷ h)) (opens-after (asks_how step.act r && is_outcome reply) (leaves step.act r) (some_act leaves h r) (told h r) (b r) (e r))

  job-k : (q c : ℕ) → is_claimed k q c ≡ is_job q reply c || is_claimed h q c
  job-k q c = claimed-facts q m c F (did step reply ∷ h) ∙ claimed-reply q c step reply h

  no-job : (q c : ℕ) → s.pool ≢ q → is_job q reply c ≡ false
  no-job q c ne =
      let claims : (d : ℕ) → is_claimed h s.pool d ≡ claimed_now s d = λ d. ap (λ p. is_claimed h p d) own-stands.number ∙ z.fit.claims i s d at_i in
      ap (λ b. is_job q b c) (v.reply_is (is_claimed h s.pool) claims) ∙ other-job s.pool q c ne (is_claimed h s.pool) (of_pool s.pool h) (after_facts s.pool m F ys) step.act

  -- whose outcome was told, or who leaves, is known
  known-k : (r : ℕ) → settles step.act reply r ≡ true → knows_now t r ≡ true
  known-k r e = sym (party-is t _ v.fits r) ∙ (party-facts s.pool m r F ys ∙ w.parties r (weaker (asks_how step.act r) (is_outcome reply) (leaves step.act r) e))
    where
      weaker : (a b c : Bool) → (a && b) || c ≡ true → a || c ≡ true
      weaker true b c f = refl
      weaker false b c f = f

  moves : Moved pools h s t k (after_facts s.pool m F ys) (names_party step.act) (was_asked step.act) (settles step.act reply) (shuts F)
  moves = record {
    same = same;
    fits = v.fits;
    here = here-k;
    there = there-k;
    homes_k = homes-facts s.pool m F ys (did step reply ∷ h) v.own;
    open_k = λ a. open-facts s.pool m F ys (did step reply ∷ h) a v.own;
    status = v.shut;
    names = λ r. acts-facts names_party m r F (did step reply ∷ h);
    requested = λ r. acts-facts was_asked m r F (did step reply ∷ h);
    parties = λ r. party-facts s.pool m r F ys ∙ w.names r;
    asks = λ r. asked-facts s.pool m r F ys ∙ w.asks r;
    fresh = w.fresh;
    opens = closes-k;
    settles = v.settled;
    known = known-k;
    claims = λ c e. job-k s.pool c ∙ (ap (λ b. is_job s.pool reply c || b) e ∙ sym (v.claimed c));
    unclaimed = λ q c ne. job-k q c ∙ ap (λ b. b || is_claimed h q c) (no-job q c ne);
  }

  pub takes : Takes qo pools i t before after step reply h
  takes =
      let e : with_answer step reply F h ≡ k = with_answer-accepted step reply F h v.accepted in
      let stands : PoolsStand o (set pools i t) k = record { fit = moved o pools h z.fit i s t at_i k (after_facts s.pool m F ys) (names_party step.act) (was_asked step.act) (settles step.act reply) (shuts F) moves; served = served-k; quiet = quiet-k; within = within-k } in
      record {
        facts = F;
        facts_are = v.facts_are;
        answer_is = answer-is qo pools h z i s t at_i step reply ys before after w v;
        stands = subst (PoolsStand o (set pools i t)) (sym e) stands;
        accepted = v.accepted;
        last_is = ap last_moment e ∙ last-facts m F (did step reply ∷ h);
        fair = fair-accepted h step reply F v.accepted (fair-facts s.pool m F (did step reply ∷ h) (subst (λ zs. PoolFirstCome s.pool m zs F) (sym w.mine) v.fair));
        fresh = fresh-facts s.pool o m F (did step reply ∷ h) (subst (λ zs. PoolFirstCome s.pool m zs F) (sym w.mine) v.fair) fresh-k;
      }
