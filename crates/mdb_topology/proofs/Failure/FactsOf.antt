-- The facts of a failure: those of its mark, the clear of its pool, what the monitor is asked, and the pool's own.
use Rattle.std.proofs.Common.{ℕ, ◌≡◌, ◌≢◌, List, [], ◌∷◌, ◌++◌, map, Some, refl, sym, ◌∙◌, ap, subst, append-nil}
use Rattle.std.specs.Prelude.{slice_get, flat_map}
use Rattle.std.proofs.lemmas.List.{append_assoc}
use Rattle.mdb_base.specs.declared.error.Error.{Error}
use Rattle.mdb_base.specs.declared.options.Options.{Options}
use Rattle.mdb_events.specs.declared.fact.Fact.{Fact}
use Rattle.mdb_log.specs.declared.step.Step.{Step}
use Rattle.mdb_log.specs.declared.step.Act.{Act}
use Rattle.mdb_log.specs.declared.step.Act.TheVariants.{Failed}
use Rattle.mdb_log.specs.declared.step.FailedAt.{FailedAt}
use Rattle.mdb_log.specs.History.{Item, PoolItem, made, failed, service_in, of_pool, after_facts, with_facts}
use Rattle.mdb_log.specs.Homes.{Home, homes}
use Rattle.mdb_log.specs.Opening.{pool_options}
use Rattle.mdb_log.specs.Own.{AllOwn}
use Rattle.mdb_log.proofs.Frame.{other-facts}
use Rattle.mdb_log.proofs.Later.{of_pool-with_facts, own-prefix}
use Rattle.mdb_pool.specs.Core.{PoolCore}
use Rattle.mdb_pool_rules.specs.Facts.{act_facts}
use Rattle.mdb_pool_rules.specs.Serving.{serving}
use Rattle.mdb_pool_rules.proofs.NoMove.{served-serving}
use Rattle.mdb_driver_rules.specs.Description.{rule_after, description_of}
use Rattle.mdb_driver_rules.specs.Facts.{trouble, clear_of, clearing, asking, own_facts, serve_all, step_facts}
use Rattle.mdb_driver_rules.specs.Homes.{home_of, begun}
use Rattle.mdb_driver_rules.specs.Publishing.{told_by}
use Rattle.mdb_driver_pools.specs.Standing.{home, PoolFits, PoolsStand}
use Rattle.mdb_driver_rules.specs.Turns.{in_turn}
use Rattle.mdb_driver_pools.proofs.OnePool.FactsLeaveOthers.{homes-facts, apart-items}
use Rattle.mdb_topology.proofs.Failure.MarkOfNoPool.{Constant}
use Rattle.mdb_driver_pools.proofs.Failure.PoolsStand.{failing, failed-here, failed-there}
use Rattle.mdb_topology.proofs.OfMonitors.FactsOfCheck.{AreCalm}
use Rattle.mdb_driver_rules.proofs.LeavesAsItIs.{turn-append, with-append}
use Rattle.mdb_driver_rules.proofs.General.OneElement.{flat-one}
use Rattle.mdb_driver_rules.proofs.SameHistories.{SameFor, calm, same-facts, same-trans}

-- calm facts leave what the pools know
pub calm-same : (m : ℕ) (fs : List Fact) (h k : List Item) → AreCalm fs → SameFor h k → SameFor h (with_facts m fs k)
calm-same m [] h k c e = e
calm-same m (f ∷ fs) h k c e = calm-same m fs h (made m f ∷ k) c.1 (same-trans h k (made m f ∷ k) e (calm m f k c.0))

module _ (o : Options) (pools : List PoolCore) (h : List Item) (z : PoolsStand (pool_options o) pools h) (i : ℕ) (s : PoolCore) (at_i : slice_get pools i ≡ Some s)
    (m c : ℕ) (at : FailedAt) (error : Error) where
  abbrev act : Act
  act = Failed s.pool c at error

  abbrev step : Step
  step = failing m s.pool c at error

  abbrev xs : List PoolItem
  xs = of_pool s.pool h

  abbrev ws : List PoolItem
  ws = failed c (service_in at) ∷ xs

  abbrev k0 : List Item
  k0 = begun h step

  abbrev d : PoolFits (pool_options o) h i s
  d = z.fit.each i s at_i

  module _ (clears asks : List Fact) (told : Constant m (told_by o m (rule_after o h step) (description_of o h)))
      (clears_are : (k : List Item) → of_pool s.pool k ≡ ws → clearing o m (trouble o h step) (clear_of o h step) k ≡ clears)
      (calm_asks : AreCalm asks) (asks_are : (k : List Item) → asking o (trouble o h step) (clear_of o h step) k ≡ asks)
      (place : home_of h act ≡ Some (home s)) where
    abbrev ns : List PoolItem
    ns = after_facts s.pool m clears ws

    -- the pool's own facts, and its serving
    abbrev own : List Fact
    own = act_facts s.pool s.address s.options m xs ns act

    abbrev serves : List Fact
    serves = serving s.pool s.address s.options m (after_facts s.pool m own ns)

    abbrev k1 : List Item
    k1 = with_facts m told.facts k0

    abbrev k2 : List Item
    k2 = with_facts m clears k1

    abbrev k3 : List Item
    k3 = with_facts m asks k2

    abbrev k4 : List Item
    k4 = with_facts m own k3

    -- the history without what is of no pool
    abbrev j2 : List Item
    j2 = with_facts m clears k0

    abbrev j4 : List Item
    j4 = with_facts m own j2

    same-1 : SameFor k0 k1
    same-1 = calm-same m told.facts k0 k0 told.calm (record { items = λ p. refl; homes_are = refl; open_are = λ a. refl; names = λ r. refl; asks = λ r. refl; leaving = λ r. refl; tells = λ r. refl; claims = λ p q. refl })

    pub same-3 : SameFor j2 k3
    same-3 = calm-same m asks j2 k2 calm_asks (same-facts m clears k0 k1 same-1)

    same-4 : SameFor j4 k4
    same-4 = same-facts m own j2 k3 same-3

    pub known-1 : of_pool s.pool k1 ≡ ws
    known-1 = same-1.items s.pool ∙ failed-here m s.pool c at error h

    known-2 : of_pool s.pool j2 ≡ ns
    known-2 = of_pool-with_facts s.pool m clears k0 ∙ ap (after_facts s.pool m clears) (failed-here m s.pool c at error h)

    known-3 : of_pool s.pool k3 ≡ ns
    known-3 = same-3.items s.pool ∙ known-2

    own-is : own_facts o h step (home_of h act) k3 ≡ own
    own-is =
        ap (λ x. own_facts o h step x k3) place
        ∙ (ap (λ ys. act_facts s.pool s.address (pool_options o) m xs ys act) known-3
        ∙ ap (λ x. act_facts s.pool s.address x m xs ns act) (sym d.options))

    module _ (all_own : AllOwn s.pool m ws (clears ++ (own ++ serves))) where
      own-both : AllOwn s.pool m ws (clears ++ own)
      own-both = own-prefix s.pool m (clears ++ own) serves ws (subst (AllOwn s.pool m ws) (sym (append_assoc clears own serves)) all_own)

      j4-is : with_facts m (clears ++ own) k0 ≡ j4
      j4-is = with-append m clears own k0

      here : of_pool s.pool k4 ≡ after_facts s.pool m own ns
      here = same-4.items s.pool ∙ (of_pool-with_facts s.pool m own j2 ∙ ap (after_facts s.pool m own) known-2)

      there : (q : ℕ) → s.pool ≢ q → of_pool q k4 ≡ of_pool q h
      there q ne =
          same-4.items q ∙ (ap (of_pool q) (sym j4-is)
          ∙ (of_pool-with_facts q m (clears ++ own) k0
          ∙ (ap (after_facts q m (clears ++ own)) (failed-there m s.pool c at error h q ne)
          ∙ other-facts s.pool q m ne (clears ++ own) ws (of_pool q h) (λ r e. apart-items (pool_options o) pools h z.fit s.pool q ne r e) own-both)))

      places : homes k4 ≡ map home pools
      places = same-4.homes_are ∙ (ap homes (sym j4-is) ∙ (homes-facts s.pool m (clears ++ own) ws k0 own-both ∙ z.fit.homes_are))

      -- the other pools have nothing to serve
      quiet : (j : ℕ) (x : PoolCore) → slice_get pools j ≡ Some x → i ≢ j → serving x.pool x.address (pool_options o) m (of_pool x.pool k4) ≡ []
      quiet j x e ne =
          let f : PoolFits (pool_options o) h j x = z.fit.each j x e in
          let apart : s.pool ≢ x.pool = λ g. ne (sym d.number ∙ (g ∙ f.number)) in
          let at_x : of_pool x.pool k4 ≡ of_pool j h = there x.pool apart ∙ ap (λ q. of_pool q h) f.number in
          ap (serving x.pool x.address (pool_options o) m) at_x ∙ served-serving (pool_options o) (of_pool j h) (z.served j) x.pool x.address m

      serves-are : serve_all o m k4 ≡ serves
      serves-are =
          ap (flat_map (λ (x : Home). serving x.number x.address (pool_options o) m (of_pool x.number k4))) places
          ∙ (flat-one home (λ (x : Home). serving x.number x.address (pool_options o) m (of_pool x.number k4)) pools i s at_i quiet
          ∙ (ap (serving s.pool s.address (pool_options o) m) here
          ∙ ap (λ x. serving s.pool s.address x m (after_facts s.pool m own ns)) (sym d.options)))

      abbrev rest : List (List Item → List Fact)
      rest = clearing o m (trouble o h step) (clear_of o h step) ∷ asking o (trouble o h step) (clear_of o h step) ∷ own_facts o h step (home_of h act) ∷ serve_all o m ∷ []

      last-turn : in_turn m (own_facts o h step (home_of h act) ∷ serve_all o m ∷ []) k3 ≡ own ++ serves
      last-turn =
          ap (λ fs. fs ++ (serve_all o m (with_facts m fs k3) ++ [])) own-is
          ∙ ap (λ fs. own ++ fs) (append-nil (serve_all o m k4) ∙ serves-are)

      ask-turn : in_turn m (asking o (trouble o h step) (clear_of o h step) ∷ own_facts o h step (home_of h act) ∷ serve_all o m ∷ []) k2 ≡ asks ++ (own ++ serves)
      ask-turn =
          ap (λ fs. fs ++ in_turn m (own_facts o h step (home_of h act) ∷ serve_all o m ∷ []) (with_facts m fs k2)) (asks_are k2)
          ∙ ap (λ fs. asks ++ fs) last-turn

      rest-turn : in_turn m rest k1 ≡ clears ++ (asks ++ (own ++ serves))
      rest-turn =
          ap (λ fs. fs ++ in_turn m (asking o (trouble o h step) (clear_of o h step) ∷ own_facts o h step (home_of h act) ∷ serve_all o m ∷ []) (with_facts m fs k1)) (clears_are k1 known-1)
          ∙ ap (λ fs. clears ++ fs) ask-turn

      pub failed-step : step_facts o h step ≡ told.facts ++ (clears ++ (asks ++ (own ++ serves)))
      failed-step =
          turn-append m (told_by o m (rule_after o h step) (description_of o h)) rest k0
          ∙ (ap (λ fs. fs ++ in_turn m rest (with_facts m fs k0)) (told.same k0)
          ∙ ap (λ fs. told.facts ++ fs) rest-turn)
