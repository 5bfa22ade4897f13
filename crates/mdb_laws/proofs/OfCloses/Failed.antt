-- Every close that an accepted failure of a connection makes in a driver has a cause.
use Rattle.std.proofs.Common.{ℕ, ◌≡◌, ◌==◌, Bool, true, false, List, [], ◌++◌, Option, Some, None, is_some, refl, sym, ◌∙◌, ap, subst, arith}
use Rattle.mdb_base.specs.declared.address.ServerAddress.{ServerAddress}
use Rattle.mdb_base.specs.declared.error.Error.{Error}
use Rattle.mdb_base.specs.declared.options.Options.{Options}
use Rattle.mdb_describe.specs.declared.topology.TopologyDescription.{TopologyDescription}
use Rattle.mdb_describe.specs.Descriptions.{failed as failed_server}
use Rattle.mdb_describe.specs.Differences.{difference}
use Rattle.mdb_describe.specs.Servers.{in_order, is_known}
use Rattle.mdb_describe.specs.Update.{updated}
use Rattle.mdb_events.specs.declared.fact.Fact.{Fact}
use Rattle.mdb_log.specs.declared.step.Step.{Step}
use Rattle.mdb_log.specs.declared.step.Act.{Act}
use Rattle.mdb_log.specs.declared.step.Act.TheVariants as Do
use Rattle.mdb_log.specs.declared.step.FailedAt.{FailedAt}
use Rattle.mdb_log.specs.declared.step.FailedAt.TheVariants.{Pre, Post}
use Rattle.mdb_log.specs.History.{Item, of_pool, open_pool, with_facts}
use Rattle.mdb_log.specs.Homes.{Home}
use Rattle.mdb_log.specs.Opening.{pool_options}
use Rattle.mdb_log.proofs.Later.{of_pool-with_facts}
use Rattle.mdb_log.proofs.Numbers.{same-number}
use Rattle.mdb_pool_rules.specs.Refusal.{first_row}
use Rattle.mdb_sound.specs.Sound.{just_failed}
use Rattle.mdb_pool_rules.specs.Rested.{Rested}
use Rattle.mdb_driver_rules.specs.Description.{description_of, marking_rule, rule_after, is_stopped}
use Rattle.mdb_driver_rules.specs.Errors.{Trouble, marks}
use Rattle.mdb_driver_rules.specs.Facts.{trouble, clear_of, clearing, asking, own_facts, step_facts}
use Rattle.mdb_driver_rules.specs.Homes.{home_of, begun}
use Rattle.mdb_driver_rules.specs.Publishing.{told_by}
use Rattle.mdb_driver_rules.specs.Refusal.{rows_of}
use Rattle.mdb_driver_rules.specs.Turns.{in_turn}
use Rattle.mdb_histories.specs.SoundHistory.{SoundHistory}
use Rattle.mdb_histories.proofs.Begins.{number-is}
use Rattle.mdb_histories.proofs.Comes.{AllMayCome, come-sound}
use Rattle.mdb_histories.proofs.FailedSteps.{failed-come}
use Rattle.mdb_topology.proofs.Failure.MarkOfNoPool.{Constant, constant-none, mark-constant}
use Rattle.mdb_histories.proofs.Outside.{last_parts, told, parts-are}
use Rattle.mdb_histories.proofs.PoolSteps.{begun-sound}
use Rattle.mdb_histories.proofs.Steps.{home-concerned}
use Rattle.mdb_histories.proofs.Troubles.{asking-calm, trouble-here}
use Rattle.mdb_histories.proofs.Turns.{calm-items}
use Rattle.mdb_pool_laws.proofs.OfCloses.Acts.{failed-caused}
use Rattle.mdb_laws.proofs.OfCloses.Pools.{come-split, calm-caused, parts-both}
use Rattle.mdb_laws.proofs.OfCloses.Soft.{soft-keeps, clearing-soft}
use Rattle.mdb_laws.proofs.OfCloses.Steps.{Caused, cleared, then_asked, last-caused}

module _ (o : Options) (h : List Item) (s : SoundHistory h) (rest : (p : ℕ) → Rested (of_pool p h)) (m q c : ℕ) (at : FailedAt) (error : Error)
    (rows : first_row (rows_of o h (Do.Failed q c at error)) ≡ None)
    (ordered : in_order (description_of o h).servers ≡ true) (open_for : (a : ServerAddress) → is_some (open_pool h a) ≡ is_known a (description_of o h).servers) (p : ℕ) where
  abbrev act : Act
  act = Do.Failed q c at error

  abbrev step : Step
  step = record { moment = m; act = act }

  abbrev k : List Item
  k = begun h step

  abbrev t : TopologyDescription
  t = description_of o h

  abbrev here : List Item → List Fact → Type 0
  here j fs = Caused o h s rest step rows p j fs

  -- what is told of the server is of no pool
  told-marked : (y : Option Trouble) → trouble o h step ≡ y → Constant m (told_by o m (marking_rule o y) t)
  told-marked None e = constant-none m
  told-marked (Some x) e = on (marks o.load_balanced x.row) refl
    where
      known : is_known x.address t.servers ≡ true
      known =
          let there : open_pool h x.address ≡ Some x.pool = number-is (open_pool h x.address) x.pool (trouble-here o k t act x e) in
          sym (open_for x.address) ∙ ap is_some there

      on : (b : Bool) → marks o.load_balanced x.row ≡ b → Constant m (told_by o m (marking_rule o (Some x)) t)
      on true f = rw f (mark-constant x.address x.error t known ordered o m (difference t.servers (updated t (failed_server x.address x.error)).servers) refl)
      on false f = rw f (constant-none m)

  told-constant : Constant m (told o h s rest step rows)
  told-constant = on (is_stopped h) refl
    where
      on : (b : Bool) → is_stopped h ≡ b → Constant m (told_by o m (rule_after o h step) t)
      on true f = rw f (constant-none m)
      on false f = rw f (told-marked (trouble o h step) refl)

  abbrev says : List Fact
  says = in_turn m (told o h s rest step rows) k

  abbrev j : List Item
  j = with_facts m says k

  -- the connection just failed, in its pool, until it is closed
  failed-first : q ≡ p → just_failed (of_pool p k) c ≡ true
  failed-first same = on at
    where
      here-is : (q == p) ≡ true
      here-is = subst (λ n. (q == n) ≡ true) same (same-number q)

      on : (at : FailedAt) → just_failed (of_pool p (begun h (record { moment = m; act = Do.Failed q c at error }))) c ≡ true
      on Pre = rw here-is (same-number c)
      on (Post service) = rw here-is (same-number c)

  failed-still : q ≡ p → just_failed (of_pool p (then_asked o h s rest step rows p j)) c ≡ true
  failed-still same =
      let cl : List Fact = clearing o m (trouble o h step) (clear_of o h step) j in
      let i : List Item = cleared o h s rest step rows p j in
      let told-items : of_pool p j ≡ of_pool p k = ap (λ fs. of_pool p (with_facts m fs k)) (told-constant.same k) ∙ calm-items m p told-constant.facts k told-constant.calm in
      let at-told : just_failed (of_pool p j) c ≡ true = ap (λ xs. just_failed xs c) told-items ∙ failed-first same in
      let at-clear : just_failed (of_pool p i) c ≡ true = ap (λ xs. just_failed xs c) (of_pool-with_facts p m cl j) ∙ soft-keeps p m cl (of_pool p j) c (clearing-soft o m (trouble o h step) (clear_of o h step) j) at-told in
      ap (λ xs. just_failed xs c) (calm-items m p (asking o (trouble o h step) (clear_of o h step) i) i (asking-calm o (trouble o h step) (clear_of o h step) i)) ∙ at-clear

  own-caused : (x : Option Home) → home_of h act ≡ x → here (then_asked o h s rest step rows p j) (own_facts o h step x (then_asked o h s rest step rows p j))
  own-caused None e = tt
  own-caused (Some x) e =
      let i : List Item = then_asked o h s rest step rows p j in
      let mine : (q == x.number) ≡ true = home-concerned h act x e in
      let same : q ≡ x.number = grind arith in
      failed-caused p x.address (pool_options o) (open_pool h) m act x.number x.address (of_pool x.number i) (of_pool p i) c error (λ f. failed-still (same ∙ f))

  pub driver-failed : here k (step_facts o h step)
  driver-failed =
      let last : List Fact = in_turn m (last_parts o h s rest step rows) j in
      let come : AllMayCome m k (says ++ last) = subst (AllMayCome m k) (parts-are o h s rest step rows [] refl) (failed-come o h s rest m q c at error rows ordered open_for) in
      let a : AllMayCome m k says × AllMayCome m j last = come-split m says last k come in
      let sound : SoundHistory j = come-sound m says k (begun-sound o h s rest step rows) a.0 in
      let calm : here k says = subst (here k) (sym (told-constant.same k)) (calm-caused p (pool_options o) (open_pool h) m act told-constant.facts (of_pool p k) told-constant.calm) in
      subst (here k) (sym (parts-are o h s rest step rows [] refl)) (parts-both p (pool_options o) (open_pool h) m act says last k calm (last-caused o h s rest step rows p j sound a.1 (own-caused (home_of h act) refl)))
