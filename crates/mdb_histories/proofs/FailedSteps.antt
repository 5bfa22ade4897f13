-- The answer to an accepted failure of a connection may come after a sound history.
use Rattle.std.proofs.Common.{ℕ, ◌≡◌, ◌≢◌, ◌==◌, ◌&&◌, Bool, true, false, not, List, [], ◌∷◌, ◌++◌, Option, Some, None, is_some, refl, sym, ◌∙◌, ap, subst, arith, append-nil}
use Rattle.std.proofs.lemmas.Bool.{not-false}
use Rattle.mdb_base.specs.declared.address.ServerAddress.{ServerAddress}
use Rattle.mdb_base.specs.declared.error.Error.{Error}
use Rattle.mdb_base.specs.declared.options.Options.{Options}
use Rattle.mdb_describe.specs.declared.topology.TopologyDescription.{TopologyDescription}
use Rattle.mdb_describe.specs.Descriptions.{failed as failed_server}
use Rattle.mdb_describe.specs.Differences.{difference}
use Rattle.mdb_describe.specs.Servers.{in_order, is_known}
use Rattle.mdb_describe.specs.Update.{updated}
use Rattle.mdb_events.specs.declared.fact.Fact.{Fact}
use Rattle.mdb_log.specs.declared.step.Step.{Step}
use Rattle.mdb_log.specs.declared.step.Act.{Act}
use Rattle.mdb_log.specs.declared.step.Act.TheVariants as Do
use Rattle.mdb_log.specs.declared.step.FailedAt.{FailedAt}
use Rattle.mdb_log.specs.declared.step.FailedAt.TheVariants.{Pre, Post}
use Rattle.mdb_log.specs.declared.reply.Refused.TheVariants.{NotPending, WrongMode}
use Rattle.mdb_log.specs.History.{Item, PoolItem, failed, service_in, of_pool, open_pool, with_facts}
use Rattle.mdb_log.specs.Connections.{has, pending_list}
use Rattle.mdb_log.specs.Homes.{Home}
use Rattle.mdb_log.specs.Opening.{pool_options}
use Rattle.mdb_pool_rules.specs.Refusal.{first_row}
use Rattle.mdb_pool_rules.proofs.FirstRow.{first-passes, one-passes}
use Rattle.mdb_sound.specs.Sound.{Sound}
use Rattle.mdb_pool_rules.specs.Rested.{Rested}
use Rattle.mdb_sound.proofs.Served.{Fine}
use Rattle.mdb_driver_rules.specs.Description.{description_of, marking_rule, rule_after, is_stopped}
use Rattle.mdb_driver_rules.specs.Errors.{Trouble, marks}
use Rattle.mdb_driver_rules.specs.Facts.{trouble, clear_of, clearing, asking, own_facts, serve_all, step_facts}
use Rattle.mdb_driver_rules.specs.Homes.{concerns, home_of, begun}
use Rattle.mdb_driver_rules.specs.Publishing.{told_by}
use Rattle.mdb_driver_rules.specs.Refusal.{rows_of}
use Rattle.mdb_driver_rules.specs.Turns.{in_turn}
use Rattle.mdb_topology.proofs.Failure.MarkOfNoPool.{Constant, constant-none, mark-constant}
use Rattle.mdb_histories.specs.SoundHistory.{SoundHistory, was_opened}
use Rattle.mdb_histories.proofs.Begins.{number-is}
use Rattle.mdb_histories.proofs.Beside.{alike-none, alike-beside}
use Rattle.mdb_histories.proofs.Clearing.{behind-clearing}
use Rattle.mdb_histories.proofs.Comes.{AllMayCome, come-sound, come-both}
use Rattle.mdb_histories.proofs.Failing.{Behind, behind-first, failing-fine, failing-own}
use Rattle.mdb_histories.proofs.Opened.{home-opened}
use Rattle.mdb_histories.proofs.Outside.{last_parts, told, parts-are, trouble-known, last-come}
use Rattle.mdb_histories.proofs.Parties.{each-sound}
use Rattle.mdb_histories.proofs.PoolSteps.{ComeFine, own-fine, begun-sound, still-fine}
use Rattle.mdb_histories.proofs.Servings.{serve-all-come, opened-facts}
use Rattle.mdb_histories.proofs.Steps.{home-concerned}
use Rattle.mdb_histories.proofs.Troubles.{calm-fine, asking-calm, trouble-here, clearing-come}
use Rattle.mdb_histories.proofs.Turns.{calm-items}

module _ (o : Options) (h : List Item) (s : SoundHistory h) (rest : (p : ℕ) → Rested (of_pool p h)) (m q c : ℕ) (at : FailedAt) (error : Error)
    (rows : first_row (rows_of o h (Do.Failed q c at error)) ≡ None)
    (ordered : in_order (description_of o h).servers ≡ true) (open_for : (a : ServerAddress) → is_some (open_pool h a) ≡ is_known a (description_of o h).servers) where
  abbrev act : Act
  act = Do.Failed q c at error

  abbrev step : Step
  step = record { moment = m; act = act }

  abbrev k : List Item
  k = begun h step

  abbrev t : TopologyDescription
  t = description_of o h

  abbrev parts_told : List (List Item → List Fact)
  parts_told = told o h s rest step rows

  -- what is told of the server is of no pool
  told-marked : (y : Option Trouble) → trouble o h step ≡ y → Constant m (told_by o m (marking_rule o y) t)
  told-marked None e = constant-none m
  told-marked (Some x) e = on (marks o.load_balanced x.row) refl
    where
      known : is_known x.address t.servers ≡ true
      known =
          let here : open_pool h x.address ≡ Some x.pool = number-is (open_pool h x.address) x.pool (trouble-here o k t act x e) in
          sym (open_for x.address) ∙ ap is_some here

      on : (b : Bool) → marks o.load_balanced x.row ≡ b → Constant m (told_by o m (marking_rule o (Some x)) t)
      on true f = rw f (mark-constant x.address x.error t known ordered o m (difference t.servers (updated t (failed_server x.address x.error)).servers) refl)
      on false f = rw f (constant-none m)

  told-constant : Constant m parts_told
  told-constant = on (is_stopped h) refl
    where
      on : (b : Bool) → is_stopped h ≡ b → Constant m (told_by o m (rule_after o h step) t)
      on true f = rw f (constant-none m)
      on false f = rw f (told-marked (trouble o h step) refl)

  abbrev j : List Item
  j = with_facts m (in_turn m parts_told k) k

  told-come : ((p : ℕ) → Fine (of_pool p k)) → ComeFine m k (in_turn m parts_told k)
  told-come fine = subst (ComeFine m k) (sym (told-constant.same k)) (calm-fine m told-constant.facts k told-constant.calm (begun-sound o h s rest step rows) fine)

  told-items : (p : ℕ) → of_pool p j ≡ of_pool p k
  told-items p = ap (λ fs. of_pool p (with_facts m fs k)) (told-constant.same k) ∙ calm-items m p told-constant.facts k told-constant.calm

  known-then : (x : Trouble) → trouble o h step ≡ Some x → was_opened j x.pool ≡ true
  known-then x e = opened-facts m x.pool (in_turn m parts_told k) k (trouble-known o h s rest step rows x e)

  whole-come : ((p : ℕ) → Fine (of_pool p k)) → AllMayCome m j (in_turn m (last_parts o h s rest step rows) j) → AllMayCome m k (step_facts o h step)
  whole-come fine later = subst (AllMayCome m k) (sym (parts-are o h s rest step rows [] refl)) (come-both m (in_turn m parts_told k) (in_turn m (last_parts o h s rest step rows) j) k (told-come fine).come later)

  pending : not (has c (pending_list (of_pool q h))) ≡ false
  pending = on at rows
    where
      on : (at : FailedAt) → first_row (rows_of o h (Do.Failed q c at error)) ≡ None → not (has c (pending_list (of_pool q h))) ≡ false
      on Pre e = one-passes (not (has c (pending_list (of_pool q h)))) NotPending e
      on (Post service) e = (first-passes (not (has c (pending_list (of_pool q h)))) NotPending ((not o.load_balanced && is_some service, WrongMode) ∷ []) e).0

  item-is : (p : ℕ) → (q == p) ≡ true → of_pool p k ≡ failed c (service_in at) ∷ of_pool p h
  item-is p e = on at
    where
      on : (at : FailedAt) → of_pool p (begun h (record { moment = m; act = Do.Failed q c at error })) ≡ failed c (service_in at) ∷ of_pool p h
      on Pre = rw e refl
      on (Post service) = rw e refl

  -- in the pool that it concerns
  module _ (x : Home) (found : home_of h act ≡ Some x) where
    abbrev p : ℕ
    p = x.number

    abbrev xs : List PoolItem
    xs = of_pool p h

    here : (q == p) ≡ true
    here = home-concerned h act x found

    waits : has c (pending_list xs) ≡ true
    waits = let same : q ≡ p = grind (arith, here) in subst (λ n. has c (pending_list (of_pool n h)) ≡ true) same (not-false (has c (pending_list (of_pool q h))) pending)

    fine-first : (n : ℕ) → Fine (of_pool n k)
    fine-first n = on (p == n) refl
      where
        on : (b : Bool) → (p == n) ≡ b → Fine (of_pool n k)
        on true e =
            let same : p ≡ n = grind arith in
            let sound : Sound (of_pool p k) = each-sound k (begun-sound o h s rest step rows) p in
            let one : Fine (of_pool p k) = subst Fine (sym (item-is p here)) (subst Sound (item-is p here) sound, record { free = (rest p).free; loose = (rest p).loose }) in
            subst (λ i. Fine (of_pool i k)) same one
        on false e = let ne : p ≢ n = grind arith in still-fine o h s rest step rows n (alike-beside o h s rest m x n ne act here)

    later : AllMayCome m j (in_turn m (last_parts o h s rest step rows) j)
    later =
        let first : ComeFine m k (in_turn m parts_told k) = told-come fine-first in
        let s0 : SoundHistory j = come-sound m (in_turn m parts_told k) k (begun-sound o h s rest step rows) first.come in
        let b0 : Behind xs c (of_pool p j) = subst (Behind xs c) (sym (told-items p ∙ item-is p here)) (behind-first xs c (service_in at) (each-sound h s p) (rest p) waits) in
        let cl : List Fact = clearing o m (trouble o h step) (clear_of o h step) j in
        let second : ComeFine m j cl = clearing-come o m j s0 first.fine (trouble o h step) (clear_of o h step) known-then in
        let j1 : List Item = with_facts m cl j in
        let s1 : SoundHistory j1 = come-sound m cl j s0 second.come in
        let b1 : Behind xs c (of_pool p j1) = behind-clearing o m xs c p j s0 (trouble o h step) (clear_of o h step) second b0 in
        let ask : List Fact = asking o (trouble o h step) (clear_of o h step) j1 in
        let third : ComeFine m j1 ask = calm-fine m ask j1 (asking-calm o (trouble o h step) (clear_of o h step) j1) s1 second.fine in
        let j2 : List Item = with_facts m ask j1 in
        let s2 : SoundHistory j2 = come-sound m ask j1 s1 third.come in
        let ns : List PoolItem = of_pool p j2 in
        let b2 : Behind xs c ns = subst (Behind xs c) (sym (calm-items m p ask j1 (asking-calm o (trouble o h step) (clear_of o h step) j1))) b1 in
        let own : List Fact = own_facts o h step (Some x) j2 in
        let opened : was_opened j2 p ≡ true = opened-facts m p ask j1 (opened-facts m p cl j (opened-facts m p (in_turn m parts_told k) k (home-opened h (λ y. concerns h act y.number) x found))) in
        let fourth : ComeFine m j2 own =
        own-fine p m own j2 s2 opened (failing-own xs c p x.address (pool_options o) m (each-sound h s p) (rest p) waits ns b2 (third.fine p) error q at)
        (failing-fine xs c p x.address (pool_options o) m (each-sound h s p) (rest p) waits ns b2 (third.fine p) error q at) (λ n ne. third.fine n) in
        let j3 : List Item = with_facts m own j2 in
        let serve : AllMayCome m j3 (serve_all o m j3) = serve-all-come o m j3 fourth.fine (come-sound m own j2 s2 fourth.come) in
        let end : AllMayCome m j2 (in_turn m (own_facts o h step (home_of h act) ∷ serve_all o m ∷ []) j2) =
        subst (λ y. AllMayCome m j2 (in_turn m (own_facts o h step y ∷ serve_all o m ∷ []) j2)) (sym found)
        (come-both m own (serve_all o m j3 ++ []) j2 fourth.come (subst (AllMayCome m j3) (sym (append-nil (serve_all o m j3))) serve)) in
        come-both m cl _ j second.come (come-both m ask _ j1 third.come end)

    failed-here : AllMayCome m k (step_facts o h step)
    failed-here = whole-come fine-first later

  failed-by : (x : Option Home) → home_of h act ≡ x → AllMayCome m k (step_facts o h step)
  failed-by (Some x) e = failed-here x e
  failed-by None e =
      let fine : (p : ℕ) → Fine (of_pool p k) = λ p. still-fine o h s rest step rows p (alike-none o h s rest m step refl rows e p) in
      let first : ComeFine m k (in_turn m parts_told k) = told-come fine in
      let s0 : SoundHistory j = come-sound m (in_turn m parts_told k) k (begun-sound o h s rest step rows) first.come in
      whole-come fine (last-come o h s rest step rows j s0 first.fine known-then (λ i. ap (λ y. own_facts o h step y i) e))

  pub failed-come : AllMayCome m k (step_facts o h step)
  failed-come = failed-by (home_of h act) refl
