-- What becomes of a failure: the pool refuses its clear, or it is accepted.
use Rattle.std.proofs.Common.{ℕ, ◌≡◌, ◌≤◌, ◌&&◌, Bool, true, false, if◌then◌else◌, List, [], ◌∷◌, ◌++◌, length, Option, Some, None, refl, sym, ◌∙◌, ap, subst}
use Rattle.std.specs.Prelude.{slice_get, unwrap_or}
use Rattle.mdb_base.specs.declared.address.ServerAddress.{ServerAddress}
use Rattle.mdb_base.specs.declared.error.Error.{Error}
use Rattle.mdb_base.specs.declared.object_id.ObjectId.{ObjectId}
use Rattle.mdb_base.specs.declared.options.Options.{Options}
use Rattle.mdb_describe.specs.Servers.{in_order, is_known}
use Rattle.mdb_events.specs.declared.fact.Fact.{Fact}
use Rattle.mdb_log.specs.declared.step.Act.{Act}
use Rattle.mdb_log.specs.declared.step.Act.TheVariants.{Failed}
use Rattle.mdb_log.specs.declared.step.FailedAt.{FailedAt}
use Rattle.mdb_log.specs.declared.step.Step.{Step}
use Rattle.mdb_log.specs.declared.reply.Refused.TheVariants.{Exhausted}
use Rattle.mdb_log.specs.declared.reply.Reply.TheVariants.{Done}
use Rattle.mdb_log.specs.declared.reply.What.{What}
use Rattle.mdb_log.specs.declared.reply.What.TheVariants.{Generation}
use Rattle.mdb_log.specs.History.{Item, PoolItem, failed, service_in, of_pool, after_facts, with_facts}
use Rattle.mdb_log.specs.Homes.{homes}
use Rattle.mdb_log.specs.Opening.{pool_options}
use Rattle.mdb_pool.specs.Core.{PoolCore}
use Rattle.mdb_pool_rules.specs.Facts.{act_facts}
use Rattle.mdb_pool.specs.Now.{exhausted_now}
use Rattle.mdb_pool_rules.specs.Quiet.{IsQuiet}
use Rattle.mdb_pool_rules.specs.Refusal.{is_exhausted, wrong_service}
use Rattle.mdb_pool.specs.Refusing.{refusal_now}
use Rattle.mdb_pool_rules.specs.Serving.{IsServed}
use Rattle.mdb_pool.specs.Standing.{Fits}
use Rattle.mdb_pool.proofs.Told.OfQueries.{exhausted-is}
use Rattle.mdb_log.specs.Limits.{WithinLimits}
use Rattle.mdb_driver_pools.specs.declared.trouble.Asked.{Asked}
use Rattle.mdb_driver_pools.specs.declared.trouble.Asked.TheVariants.{Nothing, CheckNow, CancelIfCleared}
use Rattle.mdb_topology.specs.declared.monitors.monitoring.Monitoring.TheVariants.{Same}
use Rattle.mdb_topology.specs.declared.transition.Transition.{Transition}
use Rattle.mdb_topology.specs.declared.topology.TopologyCore.{TopologyCore}
use Rattle.mdb_driver_pools.specs.Acting.{step_of}
use Rattle.mdb_driver_rules.specs.Description.{Rule, rule_after, description_of, applied, known_after}
use Rattle.mdb_driver_rules.specs.Facts.{trouble, clear_of, clearing, asking, own_facts, serve_all, step_facts}
use Rattle.mdb_topology.specs.Failing.{TellsFailure, cleared_facts}
use Rattle.mdb_driver_pools.specs.Failing.{Fails as FailsBy}
use Rattle.mdb_driver_rules.specs.Homes.{home_of, begun}
use Rattle.mdb_driver_pools.specs.Clearing.{asked_of, clear_act}
use Rattle.mdb_driver_rules.specs.Publishing.{told_by}
use Rattle.mdb_driver_rules.specs.Refusal.{first_past, first_refusal, ran_out, refusal, sooner}
use Rattle.mdb_topology.specs.Standing.{StandsFor}
use Rattle.mdb_driver_pools.specs.Standing.{home, PoolFits}
use Rattle.mdb_topology.specs.Stepping.{Follows}
use Rattle.mdb_driver_rules.specs.Turns.{in_turn}
use Rattle.mdb_topology.proofs.Marks.ClearsPool.{past-clear}
use Rattle.mdb_topology.proofs.Failure.FactsOf.{known-1, failed-step}
use Rattle.mdb_topology.proofs.Failure.MarkOfNoPool.{Constant}
use Rattle.mdb_topology.proofs.Failure.PastLimits.{fails-free, failed-past, refused-past, sooner-none}
use Rattle.mdb_topology.proofs.Failure.Plan.{clears, fails, Doing, planned-done}
use Rattle.mdb_driver_pools.proofs.Failure.PoolsStand.{failing}
use Rattle.mdb_topology.proofs.Failure.RefusedByItsPool.{home-failed, not-late, failed-rows}
use Rattle.mdb_topology.proofs.Failure.Follows.{follows-failed}
use Rattle.mdb_driver_pools.proofs.InMemory.NewParties.{failing-lives}
use Rattle.mdb_driver_rules.proofs.NumbersWithinLimits.{take_numbers, act-free, first-free, free-append, out-free}
use Rattle.mdb_topology.proofs.OfMonitors.FactsOfCheck.{AreCalm}
use Rattle.mdb_driver_rules.proofs.LeavesAsItIs.{turn-append}
use Rattle.mdb_driver_rules.proofs.FactsPastLimits.{past-append}
use Rattle.mdb_topology.proofs.Marks.ComesTo.{not-exhausted}
use Rattle.mdb_driver_pools.proofs.OnePool.FoundAt.{fits-at}
use Rattle.mdb_driver_rules.proofs.General.OnePosition.{some-same}
use Rattle.mdb_topology.proofs.WholeSteps.RefusedOfNoPool.{serving-none}

-- what a monitor is asked is of no pool, and takes no number
asked-calm : (asked : Asked) (b : Bool) (a : ServerAddress) → AreCalm (asked_of asked b a)
asked-calm Nothing b a = tt
asked-calm CheckNow b a = (tt, tt)
asked-calm CancelIfCleared true a = (tt, tt)
asked-calm CancelIfCleared false a = tt

asked-none : (asked : Asked) (b : Bool) (a : ServerAddress) → take_numbers (asked_of asked b a) ≡ false
asked-none Nothing b a = refl
asked-none CheckNow b a = refl
asked-none CancelIfCleared true a = refl
asked-none CancelIfCleared false a = refl

module _ (w : TopologyCore) (h : List Item) (z : StandsFor w h) (m : ℕ) (l : w.pools.last ≤ m) (i : ℕ) (s : PoolCore) (there : slice_get w.pools.cores.items i ≡ Some s) (c : ℕ) (at : FailedAt) (error : Error)
    (rule : Option Rule) (cleared : Bool) (service : Option ObjectId) (asked : Asked) (f : TellsFailure w.options h (failing m s.pool c at error) s rule cleared service error asked)
    (told : Constant m (told_by w.options m rule w.description)) (few : length (applied rule w.description).servers ≤ 128) where
  abbrev o : Options
  o = w.options

  abbrev pools : List PoolCore
  pools = w.pools.cores.items

  abbrev step : Step
  step = failing m s.pool c at error

  abbrev act : Act
  act = Failed s.pool c at error

  abbrev xs : List PoolItem
  xs = of_pool s.pool h

  abbrev ws : List PoolItem
  ws = failed c (service_in at) ∷ xs

  d : PoolFits (pool_options o) h i s
  d = z.pools.fit.each i s there

  fits : Fits s xs
  fits = fits-at (pool_options o) pools h z.pools.fit i s there

  served : IsServed s.options xs
  served = subst (λ q. IsServed q xs) (sym d.options) (z.pools.served s.pool)

  quiet : IsQuiet s.options xs
  quiet = subst (λ q. IsQuiet q xs) (sym d.options) (z.pools.quiet s.pool)

  within : WithinLimits s.options xs
  within = subst (λ q. WithinLimits q xs) (sym d.options) (z.pools.within s.pool)

  abbrev C : List Fact
  C = clears o h s fits served quiet within d.options m c at error service cleared

  abbrev A : List Fact
  A = asked_of asked cleared s.address

  abbrev E : List Fact
  E = fails o h s fits served quiet within d.options m c at error service cleared

  abbrev k0 : List Item
  k0 = begun h step

  abbrev k1 : List Item
  k1 = with_facts m told.facts k0

  abbrev told-now : Constant m (told_by o m (rule_after o h step) (description_of o h))
  told-now = record {
    facts = told.facts;
    calm = told.calm;
    free = told.free;
    same = λ k. ap (λ r. in_turn m (told_by o m r (description_of o h)) k) f.rule_is ∙ (ap (λ v. in_turn m (told_by o m rule v) k) z.described.known ∙ told.same k);
  }

  clears-now : (k : List Item) → of_pool s.pool k ≡ ws → clearing o m (trouble o h step) (clear_of o h step) k ≡ C
  clears-now k e = f.clears_are k ∙ ap (λ ys. cleared_facts cleared o m s ys service error) e

  place : home_of h act ≡ Some (home s)
  place = home-failed o pools h z.pools.fit i s there c at error

  first : first_refusal o h step ≡ None
  first = failed-rows w h z m l i s there c at error ∙ f.failing.accepted

  few-then : length (description_of o k0).servers ≤ 128
  few-then =
      subst (λ r. length (applied r (description_of o h)).servers ≤ 128) (sym f.rule_is)
      (subst (λ v. length (applied rule v).servers ≤ 128) (sym z.described.known) few)

  here : of_pool s.pool k1 ≡ ws
  here = known-1 o pools h z.pools i s there m c at error C A told-now clears-now (asked-calm asked cleared s.address) f.asks_are place

  -- what the clear takes past a limit
  exhausted : is_exhausted (pool_options o) ws service ≡ exhausted_now s service
  exhausted = ap (λ p. is_exhausted p ws service) (sym d.options) ∙ exhausted-is s xs fits service

  past-for : (b : Bool) → first_past o m k1 (cleared_facts b o m s ws service error) ≡ (if b && exhausted_now s service then Some Generation else None)
  past-for false = refl
  past-for true =
      ap (λ ys. first_past o m k1 (cleared_facts true o m s ys service error)) (sym here)
      ∙ (past-clear o m k1 s.pool s.address error service
      ∙ (ap (λ ys. if is_exhausted (pool_options o) ys service then Some Generation else None) here ∙ ap (λ b. if b then Some Generation else None) exhausted))

  -- how the pool refuses the clear
  refuses : cleared ≡ true → refusal_now s (step_of m (clear_act service error) s.pool) ≡ (if exhausted_now s service then Some (Exhausted Generation) else None)
  refuses e =
      let fit : wrong_service s.options.load_balanced service ≡ false = ap (λ q. wrong_service q.load_balanced service) d.options ∙ f.fitting e in
      rw (not-late w h z m l i s there, fit) refl

  -- the facts of the step begin with those of the mark and of the clear
  abbrev more : List (List Item → List Fact)
  more = asking o (trouble o h step) (clear_of o h step) ∷ own_facts o h step (home_of h act) ∷ serve_all o m ∷ []

  abbrev rest : List (List Item → List Fact)
  rest = clearing o m (trouble o h step) (clear_of o h step) ∷ more

  begins-with : step_facts o h step ≡ told.facts ++ (C ++ in_turn m more (with_facts m C k1))
  begins-with =
      turn-append m (told_by o m (rule_after o h step) (description_of o h)) rest k0
      ∙ (ap (λ fs. fs ++ in_turn m rest (with_facts m fs k0)) (told-now.same k0)
      ∙ ap (λ fs. told.facts ++ (fs ++ in_turn m more (with_facts m fs k1))) (clears-now k1 here))

  own-free : (j : List Item) → take_numbers (own_facts o h step (home_of h act) j) ≡ false
  own-free j =
      ap (λ x. take_numbers (own_facts o h step x j)) place
      ∙ out-free (act_facts s.pool s.address (pool_options o) m xs (of_pool s.pool j) act) (act-free s.pool s.address (pool_options o) m xs (of_pool s.pool j) act tt)

  -- those after them take no number
  more-free : (j : List Item) → take_numbers (in_turn m more j) ≡ false
  more-free j =
      let asks : List Fact = asking o (trouble o h step) (clear_of o h step) j in
      let j1 : List Item = with_facts m asks j in
      let own : List Fact = own_facts o h step (home_of h act) j1 in
      let j2 : List Item = with_facts m own j1 in
      let served : List Fact = serve_all o m j2 in
      free-append asks (own ++ (served ++ []))
      ∙ rw (ap take_numbers (f.asks_are j) ∙ asked-none asked cleared s.address) (free-append own (served ++ []) ∙ rw (own-free j1) (free-append served [] ∙ rw (serving-none o m j2 (homes j2)) refl))

  past-begun : (past : Option What) → first_past o m k1 C ≡ past → first_past o m k0 (step_facts o h step) ≡ past
  past-begun past e =
      let others : List Fact = in_turn m more (with_facts m C k1) in
      ap (first_past o m k0) begins-with
      ∙ (past-append o m k0 told.facts (C ++ others)
      ∙ (ap (λ y. sooner y (first_past o m k1 (C ++ others))) (first-free o m k0 told.facts told.free)
      ∙ (past-append o m k1 C others
      ∙ (ap (sooner (first_past o m k1 C)) (first-free o m (with_facts m C k1) others (more-free (with_facts m C k1))) ∙ (sooner-none (first_past o m k1 C) ∙ e)))))

  -- the failure is refused where the generation that it clears is at its limit, and for nothing else
  pub failure-refusal : (b : Bool) → cleared && exhausted_now s service ≡ b → refusal o h step ≡ ran_out (if b then Some Generation else None)
  failure-refusal b e = refused-past o h step (if b then Some Generation else None) first few-then (past-begun (if b then Some Generation else None) (past-for cleared ∙ ap (λ c. if c then Some Generation else None) e))

  module _ (n : Transition) (fails_by : FailsBy cleared pools i step service error asked [] n.changes.items told.facts n.facts.items) where
    does : Doing o h s fits served quiet within d.options m c at error service cleared i asked n.changes.items told.facts n.facts.items
    does = planned-done o h s fits served quiet within d.options m c at error service pools i there asked n.changes.items told.facts n.facts.items cleared fails_by

    facts-are : step_facts o h step ≡ told.facts ++ (C ++ (A ++ E))
    facts-are = failed-step o pools h z.pools i s there m c at error C A told-now clears-now (asked-calm asked cleared s.address) f.asks_are place (does.does does.made.0 does.made.1).own

    spare : (b : Bool) → cleared ≡ b → first_past o m k1 C ≡ None
    spare false e = past-for cleared ∙ rw e refl
    spare true e =
        let accepted : refusal_now s (step_of m (clear_act service error) s.pool) ≡ None = accepts true e fails_by in
        let no : exhausted_now s service ≡ false = not-exhausted (exhausted_now s service) (sym (refuses e) ∙ accepted) in
        past-for cleared ∙ rw (e, no) refl
      where
        accepts : (b : Bool) → cleared ≡ b → FailsBy cleared pools i step service error asked [] n.changes.items told.facts n.facts.items → refusal_now s (step_of m (clear_act service error) s.pool) ≡ None
        accepts b e2 by =
            let v = subst (λ q. FailsBy q pools i step service error asked [] n.changes.items told.facts n.facts.items) e by in
            subst (λ (u : PoolCore). refusal_now u (step_of m (clear_act service error) u.pool) ≡ None) (some-same v.0.pool s (slice_get pools i) v.0.there there) v.1

    past-none : first_past o m k0 (step_facts o h step) ≡ None
    past-none =
        ap (first_past o m k0) facts-are
        ∙ (failed-past o m told.facts C A E told.free (asked-none asked cleared s.address) (fails-free s.pool s.address s.options m s.pool c at error xs (after_facts s.pool m C ws)) k0 ∙ spare cleared refl)

    accepted-now : refusal o h step ≡ None
    accepted-now = refused-past o h step None first few-then past-none

    pub failure-follows : n.reply ≡ Done → n.description ≡ known_after rule w.description → n.monitors.items ≡ [] → n.monitoring ≡ Same → n.stops ≡ false
        → in_order (unwrap_or n.description w.description).servers ≡ true → length (unwrap_or n.description w.description).servers ≤ 128
        → ((b : ServerAddress) → is_known b (unwrap_or n.description w.description).servers ≡ is_known b w.description.servers) → Follows w n step h
    failure-follows reply known none nothing goes_on ordered fewer same_known =
        follows-failed w h z i s there (failing-lives s step error f.failing) m c at error l told.facts C A E told.calm (asked-calm asked cleared s.address) does.plan does.made does.does does.last_is does.stays
        n reply does.told does.changes_are none nothing goes_on accepted-now facts-are place (ap (λ r. known_after r w.description) f.rule_is ∙ sym known) ordered fewer same_known
