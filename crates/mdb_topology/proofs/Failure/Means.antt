-- What a failure applies, clears and asks, by its error and the mode of its driver.
use Rattle.std.proofs.Common.{ℕ, ◌≡◌, ◌≤◌, ◌&&◌, Bool, true, false, if◌then◌else◌, List, [], Option, Some, None, is_some, refl, sym, ◌∙◌, ap}
use Rattle.std.specs.Prelude.{slice_get}
use Rattle.mdb_base.specs.declared.error.Error.{Error}
use Rattle.mdb_base.specs.declared.object_id.ObjectId.{ObjectId}
use Rattle.mdb_base.specs.declared.options.Options.{Options}
use Rattle.mdb_base.specs.Errors.{is_auth, is_state_change}
use Rattle.mdb_describe.specs.declared.topology.TopologyDescription.{TopologyDescription}
use Rattle.mdb_describe.specs.Descriptions.{failed}
use Rattle.mdb_describe.specs.Differences.{difference}
use Rattle.mdb_describe.specs.Update.{updated}
use Rattle.mdb_log.specs.declared.step.FailedAt.{FailedAt}
use Rattle.mdb_log.specs.declared.step.Step.{Step}
use Rattle.mdb_log.specs.declared.step.Act.{Act}
use Rattle.mdb_log.specs.declared.step.Act.TheVariants as Do
use Rattle.mdb_log.specs.History.{Item, service_in, of_pool}
use Rattle.mdb_pool.specs.Core.{PoolCore}
use Rattle.mdb_pool.specs.Now.{is_live_now}
use Rattle.mdb_pool_rules.specs.Refusal.{wrong_service}
use Rattle.mdb_pool.specs.Refusing.{refusal_now}
use Rattle.mdb_driver_pools.specs.declared.trouble.Asked.TheVariants.{Nothing}
use Rattle.mdb_topology.specs.declared.topology.TopologyCore.{TopologyCore}
use Rattle.mdb_topology.specs.Complaining.{is_hard_now}
use Rattle.mdb_driver_rules.specs.Current.{establishing}
use Rattle.mdb_driver_rules.specs.Description.{Rule, updates, rule_after, marking_rule, description_of, change_by}
use Rattle.mdb_driver_rules.specs.Errors.{Case, state_change, lost, Trouble, Clear, nothing, whole, case_of, where_so, for_service, marks, asks, trouble_of}
use Rattle.mdb_driver_rules.specs.Facts.{trouble, clear_by, clear_of, clearing, asking}
use Rattle.mdb_topology.specs.Failing.{regards_now, clears_after, service_after, asked_after, cleared_facts, TellsFailure}
use Rattle.mdb_driver_pools.specs.Failing.{IsFailing}
use Rattle.mdb_driver_rules.specs.Homes.{begun}
use Rattle.mdb_driver_pools.specs.Clearing.{asked_of}
use Rattle.mdb_topology.specs.Standing.{StandsFor}
use Rattle.mdb_topology.proofs.Marks.OfOperations.{open-unstopped}
use Rattle.mdb_driver_pools.proofs.Failure.PoolsStand.{failing}
use Rattle.mdb_topology.proofs.Failure.Trouble.{met, failed-told, failed-none, failed-place, Row, changes, loses, row-of}
use Rattle.mdb_topology.proofs.Publications.WhichSteps.{rule-unstopped, rule-stopped}

where-none : (b : Bool) → where_so b nothing ≡ nothing
where-none true = refl
where-none false = refl

and-first : (b : Bool) → b && true ≡ b
and-first true = refl
and-first false = refl

module _ (w : TopologyCore) (h : List Item) (z : StandsFor w h) (m : ℕ) (l : w.pools.last ≤ m) (i : ℕ) (s : PoolCore) (there : slice_get w.pools.cores.items i ≡ Some s)
    (c : ℕ) (live : is_live_now s c ≡ true) (at : FailedAt) (e : Error) (accepted : refusal_now s (failing m s.pool c at e) ≡ None) where
  abbrev o : Options
  o = w.options

  abbrev t : TopologyDescription
  t = w.description

  abbrev act : Act
  act = Do.Failed s.pool c at e

  abbrev step : Step
  step = failing m s.pool c at e

  is-failing : IsFailing s step e
  is-failing = record { connection = c; at = at; act_is = refl; accepted = accepted }

  abbrev troubled : Option Trouble → Type 0
  troubled y = trouble_of o (begun h step) t act ≡ y

  trouble-is : (y : Option Trouble) → troubled y → trouble o h step ≡ y
  trouble-is y f = ap (λ v. trouble_of o (begun h step) v act) z.described.known ∙ f

  ruled-by : (y : Option Trouble) → troubled y → (r : Option Rule) → marking_rule o y ≡ r → w.stopped ≡ false → rule_after o h step ≡ r
  ruled-by y f r g running = rule-unstopped w h z m l act running ∙ (ap (marking_rule o) f ∙ g)

  unruled-by : (y : Option Trouble) → troubled y → marking_rule o y ≡ None → rule_after o h step ≡ None
  unruled-by y f g = on w.stopped refl
    where
      on : (b : Bool) → w.stopped ≡ b → rule_after o h step ≡ None
      on true e2 = rule-stopped w h z m l act e2
      on false e2 = ruled-by y f None g e2

  clear-is : (y : Option Trouble) (r : Option Rule) → troubled y → rule_after o h step ≡ r → clear_of o h step ≡ clear_by o (is_some (change_by r t)) y
  clear-is y r f g =
      ap (λ q. clear_by o (is_some (change_by q (description_of o h))) (trouble o h step)) g
      ∙ (ap (λ v. clear_by o (is_some (change_by r v)) (trouble o h step)) z.described.known ∙ ap (clear_by o (is_some (change_by r t))) (trouble-is y f))

  -- an error that is not current, or has no row, tells nothing
  pub means-nothing : regards_now w s c at e && is_some (case_of (establishing at) e) ≡ false → TellsFailure o h step s None false None e Nothing
  means-nothing none =
      let calm : troubled None = failed-none w h z m i s there c live at e none in
      record {
        failing = is-failing;
        fitting = λ f. cc;
        rule_is = unruled-by None calm refl;
        clears_are = λ k. ap (λ y. clearing o m y (clear_of o h step) k) (trouble-is None calm);
        asks_are = λ k. ap (λ y. asking o y (clear_of o h step) k) (trouble-is None calm);
      }

  module _ (current : regards_now w s c at e ≡ true) where
    -- under load balancing it clears the service
    module _ (balanced : o.load_balanced ≡ true) where
      abbrev service : Option ObjectId
      service = service_after s c at e

      served : (y : Option ObjectId) → is_some y ≡ true → wrong_service true y ≡ false
      served None f = cc
      served (Some v) f = refl

      facts-for : (row : Case) (y : Option ObjectId) (k : List Item) → clearing o m (Some (met w h z m i s there c live at e row)) (for_service y) k ≡ cleared_facts (is_some y) o m s (of_pool s.pool k) y e
      facts-for row None k = refl
      facts-for row (Some v) k = refl

      asks-for : (y : Option ObjectId) → asked_of Nothing (is_some y) s.address ≡ []
      asks-for None = refl
      asks-for (Some v) = refl

      by-row : (row : Case) → case_of (establishing at) e ≡ Some row → marks true row ≡ false → ((y : Clear) (a : _) → asks true row e y a ≡ [])
          → clear_by o false (Some (met w h z m i s there c live at e row)) ≡ for_service service → TellsFailure o h step s None (is_some service) service e Nothing
      by-row row case unmarked silent clears_it =
          let told : troubled (Some (met w h z m i s there c live at e row)) = failed-told w h z m i s there c live at e row current case in
          let ruled : rule_after o h step ≡ None = unruled-by (Some (met w h z m i s there c live at e row)) told (rw (balanced, unmarked) refl) in
          let cleared : clear_of o h step ≡ for_service service = clear-is (Some (met w h z m i s there c live at e row)) None told ruled ∙ clears_it in
          record {
            failing = is-failing;
            fitting = λ f. ap (λ b. wrong_service b service) balanced ∙ served service f;
            rule_is = ruled;
            clears_are = λ k. ap (λ y. clearing o m y (clear_of o h step) k) (trouble-is _ told) ∙ (ap (λ y. clearing o m (Some (met w h z m i s there c live at e row)) y k) cleared ∙ facts-for row service k);
            asks_are = λ k. ap (λ y. asking o y (clear_of o h step) k) (trouble-is _ told) ∙ (ap (λ b. asks b row e (clear_of o h step) s.address) balanced ∙ (silent (clear_of o h step) s.address ∙ sym (asks-for service)));
          }

      for-if : (b : Bool) (y : Option ObjectId) → where_so b (for_service y) ≡ for_service (if b then y else None)
      for-if true y = refl
      for-if false y = refl

      pub means-service : is_some (case_of (establishing at) e) ≡ true → TellsFailure o h step s None (is_some service) service e Nothing
      means-service row = on (row-of at e row)
        where
          on : Row at e → TellsFailure o h step s None (is_some service) service e Nothing
          on (changes f case) = by-row state_change case refl (λ y a. refl) (rw (balanced, f) (for-if (is_hard_now s c e) (service_in at)))
          on (loses f case) = by-row lost case refl (λ y a. refl) (rw (balanced, f) refl)

    -- else it marks the server, and clears the pool where something changed
    module _ (normal : o.load_balanced ≡ false) where
      abbrev u : TopologyDescription
      u = updated t (failed s.address e)

      abbrev differs : Bool
      differs = is_some (difference t.servers u.servers)

      abbrev cleared : Bool
      cleared = differs && clears_after s c e

      running : w.stopped ≡ false
      running = open-unstopped w h z m l s.address i (failed-place w h z m i s there c live at e current)

      facts-whole : (row : Case) (b : Bool) (k : List Item) → clearing o m (Some (met w h z m i s there c live at e row)) (where_so b whole) k ≡ cleared_facts b o m s (of_pool s.pool k) None e
      facts-whole row true k = refl
      facts-whole row false k = refl

      by-mark : (row : Case) → case_of (establishing at) e ≡ Some row → marks false row ≡ true → clear_by o differs (Some (met w h z m i s there c live at e row)) ≡ where_so cleared whole
          → asks false row e (where_so cleared whole) s.address ≡ asked_of (asked_after e) cleared s.address → TellsFailure o h step s (Some (updates (failed s.address e))) cleared None e (asked_after e)
      by-mark row case marked clears_it asks_it =
          let told : troubled (Some (met w h z m i s there c live at e row)) = failed-told w h z m i s there c live at e row current case in
          let ruled : rule_after o h step ≡ Some (updates (failed s.address e)) = ruled-by (Some (met w h z m i s there c live at e row)) told (Some (updates (failed s.address e))) (rw (normal, marked) refl) running in
          let clear : clear_of o h step ≡ where_so cleared whole = clear-is (Some (met w h z m i s there c live at e row)) (Some (updates (failed s.address e))) told ruled ∙ clears_it in
          record {
            failing = is-failing;
            fitting = λ f. ap (λ b. wrong_service b None) normal;
            rule_is = ruled;
            clears_are = λ k. ap (λ y. clearing o m y (clear_of o h step) k) (trouble-is _ told) ∙ (ap (λ y. clearing o m (Some (met w h z m i s there c live at e row)) y k) clear ∙ facts-whole row cleared k);
            asks_are = λ k. ap (λ y. asking o y (clear_of o h step) k) (trouble-is _ told) ∙ (ap (λ y. asks o.load_balanced row e y s.address) clear ∙ (ap (λ b. asks b row e (where_so cleared whole) s.address) normal ∙ asks_it));
          }

      lost-asks : (b d : Bool) → is_state_change e.kind ≡ false → is_auth e.kind ≡ d → asks false lost e (where_so b whole) s.address ≡ asked_of (asked_after e) b s.address
      lost-asks true true f g = rw (f, g) refl
      lost-asks true false f g = rw (f, g) refl
      lost-asks false true f g = rw (f, g) refl
      lost-asks false false f g = rw (f, g) refl

      pub means-mark : is_some (case_of (establishing at) e) ≡ true → TellsFailure o h step s (Some (updates (failed s.address e))) cleared None e (asked_after e)
      means-mark row = on (row-of at e row)
        where
          on : Row at e → TellsFailure o h step s (Some (updates (failed s.address e))) cleared None e (asked_after e)
          on (changes f case) = by-mark state_change case refl (rw (normal, f) refl) (rw f refl)
          on (loses f case) = by-mark lost case refl (rw (normal, f) (ap (λ b. where_so b whole) (sym (and-first differs)))) (lost-asks cleared (is_auth e.kind) f refl)
