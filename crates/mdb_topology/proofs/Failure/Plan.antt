-- What the pool of a failure does by the plan that was made of it: it fails alone, or is cleared and then fails.
use Rattle.std.proofs.Common.{ℕ, ◌≡◌, Bool, true, false, List, [], ◌∷◌, ◌++◌, Option, Some, sym, ◌∙◌, ap, subst}
use Rattle.std.specs.Prelude.{slice_get}
use Rattle.std.proofs.lemmas.List.{append_assoc}
use Rattle.mdb_base.specs.declared.error.Error.{Error}
use Rattle.mdb_base.specs.declared.object_id.ObjectId.{ObjectId}
use Rattle.mdb_base.specs.declared.options.Options.{Options}
use Rattle.mdb_events.specs.declared.fact.Fact.{Fact}
use Rattle.mdb_log.specs.declared.options.PoolOptions.{PoolOptions}
use Rattle.mdb_log.specs.declared.step.Act.{Act}
use Rattle.mdb_log.specs.declared.step.Act.TheVariants.{Failed}
use Rattle.mdb_log.specs.declared.step.FailedAt.{FailedAt}
use Rattle.mdb_log.specs.declared.step.Step.{Step}
use Rattle.mdb_log.specs.History.{Item, PoolItem, failed, service_in, of_pool, after_facts}
use Rattle.mdb_log.specs.Limits.{WithinLimits}
use Rattle.mdb_log.specs.Opening.{pool_options}
use Rattle.mdb_log.specs.Own.{shuts}
use Rattle.mdb_pool.specs.Core.{PoolCore}
use Rattle.mdb_pool_rules.specs.Answer.{all_facts}
use Rattle.mdb_pool_rules.specs.Facts.{clear_facts}
use Rattle.mdb_pool.specs.Now.{is_closed_now, last_now}
use Rattle.mdb_pool.specs.Planning.{Plan, Plans, IsPlanOf, IsDone}
use Rattle.mdb_pool_rules.specs.Quiet.{IsQuiet}
use Rattle.mdb_pool_rules.specs.Serving.{IsServed}
use Rattle.mdb_pool.specs.Standing.{Fits}
use Rattle.mdb_driver_pools.specs.declared.pool_change.PoolChange.{PoolChange}
use Rattle.mdb_driver_pools.specs.declared.pool_change.PoolChange.TheVariants.{Alter}
use Rattle.mdb_driver_pools.specs.declared.trouble.Asked.{Asked}
use Rattle.mdb_driver_pools.specs.Acting.{step_of, PlansOne}
use Rattle.mdb_topology.specs.Failing.{cleared_facts}
use Rattle.mdb_driver_pools.specs.Failing.{DoesBoth, PlansTwo, Fails as FailsBy}
use Rattle.mdb_driver_pools.specs.Clearing.{asked_of, clear_act}
use Rattle.mdb_driver_pools.proofs.Failure.OfItsPool.{alone-facts, fails-alone, clears-are, fails-are, fails-cleared}
use Rattle.mdb_driver_pools.proofs.Failure.PoolsStand.{Fails, failing}
use Rattle.mdb_topology.proofs.Failure.ClosesNoPool.{shut-before, fails-open, both-open}
use Rattle.mdb_driver_rules.proofs.General.OnePosition.{some-same}

module _ (o : Options) (h : List Item) (s : PoolCore) (fits : Fits s (of_pool s.pool h)) (served : IsServed s.options (of_pool s.pool h)) (quiet : IsQuiet s.options (of_pool s.pool h)) (within : WithinLimits s.options (of_pool s.pool h))
    (options : s.options ≡ pool_options o) (m c : ℕ) (at : FailedAt) (error : Error) (service : Option ObjectId) where
  abbrev xs : List PoolItem
  xs = of_pool s.pool h

  abbrev ws : List PoolItem
  ws = failed c (service_in at) ∷ xs

  abbrev act : Act
  act = Failed s.pool c at error

  abbrev step : Step
  step = failing m s.pool c at error

  -- the facts of the clear, and those of the failure
  abbrev pub clears : Bool → List Fact
  clears b = cleared_facts b o m s ws service error

  abbrev pub fails : Bool → List Fact
  fails b = all_facts s.pool s.address s.options m xs (after_facts s.pool m (clears b) ws) act

  -- the facts of the clear, by the options of the pool
  abbrev cleared : PoolOptions → List Fact
  cleared q = clear_facts s.pool s.address q m ws service error

  abbrev failed_after : PoolOptions → List Fact
  failed_after q = all_facts s.pool s.address s.options m xs (after_facts s.pool m (cleared q) ws) act

  abbrev is_open_by : PoolOptions → Type 0
  is_open_by q = shuts (cleared q ++ failed_after q) ≡ false

  -- by the plan the pool fails, and these are the facts after those before it
  pub record Doing (b : Bool) (i : ℕ) (asked : Asked) (changes : List PoolChange) (before after : List Fact) : Type 0 where
    pub plan : Plan
    pub made : IsPlanOf plan s
    pub does : (u : PoolCore) → Plans plan s u → Fails s u m (clears b ++ fails b) ws
    pub last_is : (u : PoolCore) → Plans plan s u → last_now u ≡ m
    pub stays : (u : PoolCore) → Plans plan s u → is_closed_now u ≡ is_closed_now s
    pub told : after ≡ before ++ (clears b ++ (asked_of asked b s.address ++ fails b))
    pub changes_are : changes ≡ Alter i plan ∷ []

  module _ (pools : List PoolCore) (i : ℕ) (there : slice_get pools i ≡ Some s) (asked : Asked) (changes : List PoolChange) (before after : List Fact) where
    alone-done : (d : PlansOne pools i m (λ p. act) [] changes (before ++ asked_of asked false s.address) after) → d.pool ≡ s → Doing false i asked changes before after
    alone-done d same = record {
      plan = d.plan;
      made = made;
      does = λ u p. fails-alone s h fits served quiet within m c at error u d.answered (done u p);
      last_is = λ u p. (done u p).last;
      stays = λ u p. shut-before s u m (fails false) ws (fails-alone s h fits served quiet within m c at error u d.answered (done u p)) (fails-open s.pool s.address s.options m s.pool c at error xs ws);
      told =
          d.told ∙ (append_assoc before (asked_of asked false s.address) d.answered.facts
          ∙ ap (λ fs. before ++ (asked_of asked false s.address ++ fs)) (alone-facts s h fits served quiet within m c at error made.0 d.answered (done made.0 made.1)));
      changes_are = d.behind;
    }
      where
        made : IsPlanOf d.plan s
        made = subst (IsPlanOf d.plan) same d.made

        done : (u : PoolCore) → Plans d.plan s u → IsDone s u step d.answered
        done u p = subst (λ (v : PoolCore). IsDone v u step d.answered) same (d.does u (subst (λ (v : PoolCore). Plans d.plan v u) (sym same) p))

    two-done : (d : PlansTwo pools i (clear_act service error) step asked [] changes before after) → d.pool ≡ s → Doing true i asked changes before after
    two-done d same = record {
      plan = d.plan;
      made = made;
      does = does;
      last_is = λ u p. (both u p).2.last;
      stays = λ u p. shut-before s u m (clears true ++ fails true) ws (does u p)
          (subst (λ (q : PoolOptions). is_open_by q) options (both-open s.pool s.address s.options m s.pool c at error xs (after_facts s.pool m (cleared s.options) ws) ws service error));
      told =
          d.told ∙ (ap (λ a. ((before ++ d.clear.facts) ++ asked_of asked true a) ++ d.failure.facts) (ap (λ (v : PoolCore). v.address) same)
          ∙ (ap (λ fs. ((before ++ fs) ++ asked_of asked true s.address) ++ d.failure.facts) clear-is
          ∙ (ap (λ fs. ((before ++ clears true) ++ asked_of asked true s.address) ++ fs) failure-is
          ∙ (append_assoc (before ++ clears true) (asked_of asked true s.address) (fails true) ∙ append_assoc before (clears true) (asked_of asked true s.address ++ fails true)))));
      changes_are = d.behind;
    }
      where
        made : IsPlanOf d.plan s
        made = subst (IsPlanOf d.plan) same d.made

        both : (u : PoolCore) → Plans d.plan s u → DoesBoth s u (step_of m (clear_act service error) s.pool) step d.clear d.failure
        both u p = subst (λ (v : PoolCore). DoesBoth v u (step_of m (clear_act service error) v.pool) step d.clear d.failure) same (d.does u (subst (λ (v : PoolCore). Plans d.plan v u) (sym same) p))

        does : (u : PoolCore) → Plans d.plan s u → Fails s u m (clears true ++ fails true) ws
        does u p =
            let v = both u p in
            subst (λ (q : PoolOptions). Fails s u m (cleared q ++ failed_after q) ws) options
            (fails-cleared s h fits served quiet within m c at error service error v.0 u d.clear d.failure v.1 v.2)

        clear-is : d.clear.facts ≡ clears true
        clear-is =
            let v = both made.0 made.1 in
            clears-are s h fits served quiet within m c at error service error v.0 made.0 d.clear d.failure v.1 v.2 ∙ ap cleared options

        failure-is : d.failure.facts ≡ fails true
        failure-is =
            let v = both made.0 made.1 in
            fails-are s h fits served quiet within m c at error service error v.0 made.0 d.clear d.failure v.1 v.2 ∙ ap failed_after options

    pub planned-done : (b : Bool) → FailsBy b pools i step service error asked [] changes before after → Doing b i asked changes before after
    planned-done false d =
        let same : d.pool ≡ s = some-same d.pool s (slice_get pools i) d.there there in
        alone-done (subst (λ (v : PoolCore). PlansOne pools i m (λ p. act) [] changes (before ++ asked_of asked false v.address) after) same d.one) (some-same _ s (slice_get pools i) (subst (λ (v : PoolCore). PlansOne pools i m (λ p. act) [] changes (before ++ asked_of asked false v.address) after) same d.one).there there)
    planned-done true d = two-done d.0 (some-same d.0.pool s (slice_get pools i) d.0.there there)
