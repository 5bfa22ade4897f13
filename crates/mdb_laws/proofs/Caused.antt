-- The facts of an accepted step say of whole pools what is caused.
use Rattle.std.proofs.Common.{ℕ, ◌≡◌, ◌≢◌, ◌==◌, Bool, true, false, List, [], ◌∷◌, ◌++◌, Option, Some, None, refl, sym, ◌∙◌, ap, subst, append-nil}
use Rattle.std.specs.List.{list_any}
use Rattle.std.specs.Prelude.{slice_get}
use Rattle.mdb_base.specs.declared.address.ServerAddress.{ServerAddress}
use Rattle.mdb_base.specs.declared.options.Options.{Options}
use Rattle.mdb_describe.specs.declared.topology.TopologyDescription.{TopologyDescription}
use Rattle.mdb_events.specs.declared.fact.Fact.{Fact}
use Rattle.mdb_log.specs.declared.options.PoolOptions.{PoolOptions}
use Rattle.mdb_log.specs.declared.step.Step.{Step}
use Rattle.mdb_log.specs.declared.step.Act.{Act}
use Rattle.mdb_log.specs.Acts.{IsDriverAct}
use Rattle.mdb_log.specs.History.{Item, of_pool, open_pool, is_number, with_facts}
use Rattle.mdb_log.specs.Homes.{Home, homes}
use Rattle.mdb_log.specs.State.{is_closed, state_of}
use Rattle.mdb_log.specs.Opening.{pool_options}
use Rattle.mdb_pool.specs.Core.{PoolCore}
use Rattle.mdb_topology.specs.declared.topology.TopologyCore.{TopologyCore}
use Rattle.mdb_driver_rules.specs.Turns.{in_turn}
use Rattle.mdb_driver_rules.specs.Homes.{home_of, begun}
use Rattle.mdb_driver_rules.specs.Monitors.{heartbeat}
use Rattle.mdb_driver_rules.specs.Errors.{Trouble}
use Rattle.mdb_driver_rules.specs.Description.{description_of, is_stopped, rule_after}
use Rattle.mdb_driver_rules.specs.Facts.{trouble, clear_of, clearing, asking, own_facts, serve_all, step_facts}
use Rattle.mdb_driver_rules.specs.Publishing.{told_by}
use Rattle.mdb_topology.specs.Standing.{StandsFor}
use Rattle.mdb_driver_pools.specs.Standing.{PoolFits, PoolsFit}
use Rattle.mdb_driver_pools.proofs.OnePool.OpenAtOneAddress.{here-alone, open-unclosed, is-there}
use Rattle.mdb_driver_rules.proofs.NumbersWithinLimits.{act-free}
use Rattle.mdb_driver_rules.proofs.LeavesAsItIs.{with-append}
use Rattle.mdb_topology.proofs.WholeSteps.CheckThenRule.{told-first}
use Rattle.mdb_laws.specs.Causes.{marks_of, changes, clears, described_after, difference_by, caused}
use Rattle.mdb_laws.proofs.Marks.{Seen, own-number, same-number, marks-append, out-marks, is_opened, touches, spared, below-facts, same-homes}
use Rattle.mdb_laws.proofs.Published.{IsSound, IsFresh}
use Rattle.mdb_laws.proofs.Rules.{IsLater, rule-later, rule-marks, trouble-here, rule-says, marking-spares}
use Rattle.mdb_laws.proofs.Said.{act-state, heartbeat-test, heartbeat-marks, IsAsWas, clearing-marks, asking-marks, is-tame, servings-out}

-- the pools of a driver
pub sound-of : (w : TopologyCore) (h : List Item) → StandsFor w h → IsSound w.options (description_of w.options h) h
sound-of w h z = subst (λ (t : TopologyDescription). IsSound w.options t h) (sym z.described.known) (record {
  alone = λ a b p e f. here-alone o pools h fit a b p e (rw f (own-number p));
  unclosed = λ a p e. on a p e (slice_get pools p) refl;
  open_for = z.described.open_for;
  ordered = z.described.ordered;
})
  where
    o : PoolOptions
    o = pool_options w.options

    pools : List PoolCore
    pools = w.pools.cores.items

    fit : PoolsFit o pools h
    fit = z.pools.fit

    on : (a : ServerAddress) (p : ℕ) → open_pool h a ≡ Some p → (x : Option PoolCore) → slice_get pools p ≡ x → state_of o (of_pool p h) ≢ is_closed
    on a p e None f = λ g. absurd (is-there o pools h fit a p e f)
    on a p e (Some s) f = λ g.
        let d : PoolFits o h p s = fit.each p s f in
        let n : (p == s.pool) ≡ true = ap (λ q. p == q) d.number ∙ own-number p in
        let here : is_number (open_pool h a) s.pool ≡ true = rw e n in
        open-unclosed o pools h fit p s f a here (ap (λ c. state_of c (of_pool s.pool h)) d.options ∙ (ap (λ q. state_of o (of_pool q h)) d.number ∙ g))

module _ (o : Options) (h : List Item) (m : ℕ) (act : Act) (driver : IsDriverAct act) (sound : IsSound o (description_of o h) h) where
  abbrev step : Step
  step = record { moment = m; act = act }

  abbrev t : TopologyDescription
  t = description_of o h

  abbrev k : List Item
  k = begun h step

  abbrev beat : List Fact
  beat = heartbeat o h act

  abbrev j : List Item
  j = with_facts m beat k

  -- with the step and the event of its check the pools are as they were
  fresh : IsFresh o h j
  fresh = record {
    below = below-facts m h beat k (heartbeat-test o h is_opened (λ e. refl) act) (λ a p e. e);
    seen = λ a p e. spared (pool_options o) m h a p beat k (heartbeat-test o h (touches p) (λ e. refl) act) (record { here = e; state = act-state (pool_options o) p m (open_pool h) act (of_pool p h) });
    same = same-homes m beat k (heartbeat-test o h is_opened (λ e. refl) act);
  }

  later : IsLater (rule_after o h step)
  later = on (is_stopped h) refl
    where
      on : (b : Bool) → is_stopped h ≡ b → IsLater (rule_after o h step)
      on true f = rw f tt
      on false f = rw f (rule-later o k t m act driver)

  abbrev told : List (List Item → List Fact)
  told = told_by o m (rule_after o h step) t

  abbrev F : List Fact
  F = beat ++ in_turn m told j

  first-marks : marks_of F ≡ changes o h (described_after o h step) (difference_by o h step)
  first-marks = marks-append beat (in_turn m told j) ∙ rw (heartbeat-marks o h act) (rule-says o m t h sound (rule_after o h step) later j fresh)

  abbrev n : List Item
  n = with_facts m F k

  -- a pool that a trouble is of is open at its address, and what is told of the trouble does not touch it
  trouble-open : (x : Trouble) → trouble o h step ≡ Some x → open_pool h x.address ≡ Some x.pool
  trouble-open x e = on (open_pool h x.address) refl
    where
      on : (y : Option ℕ) → open_pool h x.address ≡ y → open_pool h x.address ≡ Some x.pool
      on None f = let w : false ≡ true = sym (rw f refl) ∙ trouble-here o k t m act x e in cc
      on (Some p) f = let w : (p == x.pool) ≡ true = sym (rw f refl) ∙ trouble-here o k t m act x e in f ∙ ap Some (same-number p x.pool w)

  told-spares : (x : Trouble) → trouble o h step ≡ Some x → list_any (touches x.pool) (in_turn m told j) ≡ false
  told-spares x e = on (is_stopped h) refl
    where
      on : (b : Bool) → is_stopped h ≡ b → list_any (touches x.pool) (in_turn m told j) ≡ false
      on true f = rw f refl
      on false f = rw (f, rule-marks o k t m act x e) (marking-spares o m t h sound x (trouble-open x e) j fresh)

  as-was : (x : Trouble) → trouble o h step ≡ Some x → IsAsWas o h n x.pool
  as-was x e =
      let there : open_pool h x.address ≡ Some x.pool = trouble-open x e in
      let first : Seen (pool_options o) h j x.address x.pool = fresh.seen x.address x.pool there in
      let then-told : Seen (pool_options o) h (with_facts m (in_turn m told j) j) x.address x.pool = spared (pool_options o) m h x.address x.pool (in_turn m told j) j (told-spares x e) first in
      let same : state_of (pool_options o) (of_pool x.pool n) ≡ state_of (pool_options o) (of_pool x.pool (with_facts m (in_turn m told j) j)) = ap (λ i. state_of (pool_options o) (of_pool x.pool i)) (with-append m beat (in_turn m told j) k) in
      (same ∙ then-told.state, sound.unclosed x.address x.pool there)

  own-marks : (x : Option Home) (i : List Item) → marks_of (own_facts o h step x i) ≡ []
  own-marks None i = refl
  own-marks (Some x) i = out-marks (own_facts o h step (Some x) i) (act-free x.number x.address (pool_options o) m (of_pool x.number h) (of_pool x.number i) act (is-tame act driver))

  serve-marks : (i : List Item) → marks_of (serve_all o m i) ≡ []
  serve-marks i = out-marks (serve_all o m i) (servings-out o m i (homes i))

  -- the parts after those of the rule
  abbrev rest : List (List Item → List Fact)
  rest = clearing o m (trouble o h step) (clear_of o h step) ∷ asking o (trouble o h step) (clear_of o h step) ∷ own_facts o h step (home_of h act) ∷ serve_all o m ∷ []

  rest-marks : marks_of (in_turn m rest n) ≡ clears o h (trouble o h step) (clear_of o h step)
  rest-marks =
      let a : List Fact = clearing o m (trouble o h step) (clear_of o h step) n in
      let i : List Item = with_facts m a n in
      let b : List Fact = asking o (trouble o h step) (clear_of o h step) i in
      let i2 : List Item = with_facts m b i in
      let c : List Fact = own_facts o h step (home_of h act) i2 in
      let i3 : List Item = with_facts m c i2 in
      let d : List Fact = serve_all o m i3 in
      marks-append a (b ++ (c ++ (d ++ [])))
      ∙ (ap (λ ms. marks_of a ++ ms) (marks-append b (c ++ (d ++ [])) ∙ rw (asking-marks o (trouble o h step) (clear_of o h step) i) (marks-append c (d ++ []) ∙ rw (own-marks (home_of h act) i2) (marks-append d [] ∙ rw (serve-marks i3) refl)))
      ∙ (append-nil (marks_of a)
      ∙ clearing-marks o h m (trouble o h step) (clear_of o h step) n as-was))

  pub step-marks : marks_of (step_facts o h step) ≡ caused o h step
  step-marks = ap marks_of (told-first o h m act) ∙ (marks-append F (in_turn m rest n) ∙ rw (first-marks, rest-marks) refl)
