-- Where ready and checked out stand among the facts of an accepted step of a driver.
use Rattle.std.proofs.Common.{ℕ, ◌≡◌, Bool, true, false, List, [], ◌∷◌, ◌++◌, Option, Some, None, refl, sym, ◌∙◌, subst, arith}
use Rattle.std.specs.Prelude.{⊤, flat_map}
use Rattle.mdb_base.specs.declared.options.Options.{Options}
use Rattle.mdb_events.specs.declared.fact.Fact.{Fact}
use Rattle.mdb_log.specs.declared.step.Step.{Step}
use Rattle.mdb_log.specs.declared.step.Act.{Act}
use Rattle.mdb_log.specs.declared.step.Act.TheVariants as Do
use Rattle.mdb_log.specs.declared.step.Established.{Established as Establishment}
use Rattle.mdb_log.specs.History.{Item, PoolItem, of_pool, with_facts, after_facts}
use Rattle.mdb_log.specs.Connections.{granted_to}
use Rattle.mdb_log.specs.Homes.{Home, homes}
use Rattle.mdb_log.specs.Opening.{pool_options}
use Rattle.mdb_log.proofs.Numbers.{same-number}
use Rattle.mdb_pool_rules.specs.Serving.{serving}
use Rattle.mdb_driver_rules.specs.Description.{description_of, rule_after}
use Rattle.mdb_driver_rules.specs.Facts.{trouble, clear_of, clearing, asking, own_facts, serve_all, parts, step_facts}
use Rattle.mdb_driver_rules.specs.Homes.{concerns, home_of, begun}
use Rattle.mdb_driver_rules.specs.Monitors.{heartbeat}
use Rattle.mdb_driver_rules.specs.Publishing.{told_by}
use Rattle.mdb_driver_rules.specs.Turns.{in_turn}
use Rattle.mdb_driver_pools.proofs.OnePool.TellsNoTopology.{plain-facts}
use Rattle.mdb_topology.proofs.OfMonitors.FactsOfCheck.{heartbeat-calm}
use Rattle.mdb_histories.proofs.Steps.{home-concerned}
use Rattle.mdb_histories.proofs.Troubles.{asking-calm}
use Rattle.mdb_laws.proofs.OfNames.Plain.{ArePlain, calm-plain, is_establishing, act-plain}
use Rattle.mdb_laws.proofs.OfNames.Placed.{equal-number, AllPlaced, plain-placed, early, placed-both, serving-placed, handed-placed}
use Rattle.mdb_laws.proofs.OfNames.Published.{PartsPlain, told-plain, clearing-plain}

module _ (p : ℕ) (o : Options) (m : ℕ) (act : Act) where
  servings-placed : (k : List Item) (hs : List Home) (xs : List PoolItem) → AllPlaced p m act false xs (flat_map (λ x. serving x.number x.address (pool_options o) m (of_pool x.number k)) hs)
  servings-placed k [] xs = tt
  servings-placed k (x ∷ hs) xs =
      let one : List Fact = serving x.number x.address (pool_options o) m (of_pool x.number k) in
      placed-both p m act false one (flat_map (λ (y : Home). serving y.number y.address (pool_options o) m (of_pool y.number k)) hs) xs (serving-placed p m act x.number x.address (pool_options o) (of_pool x.number k) xs) (servings-placed k hs (after_facts p m one xs))

  serve-all-placed : (k : List Item) (xs : List PoolItem) → AllPlaced p m act false xs (serve_all o m k)
  serve-all-placed k xs = servings-placed k (homes k) xs

  -- parts that may stand later, after any items of the pool
  PartsLate : List (List Item → List Fact) → Type 0
  PartsLate [] = ⊤
  PartsLate (part ∷ parts) = ((k : List Item) (xs : List PoolItem) → AllPlaced p m act false xs (part k)) × PartsLate parts

  plain-late : (parts more : List (List Item → List Fact)) → PartsPlain parts → PartsLate more → PartsLate (parts ++ more)
  unfolding PartsLate
  plain-late [] more a b = b
  plain-late (part ∷ parts) more a b = (λ k xs. plain-placed p m act false (part k) xs (a.0 k), plain-late parts more a.1 b)

  turns-placed : (parts : List (List Item → List Fact)) → PartsLate parts → (k : List Item) (xs : List PoolItem) → AllPlaced p m act false xs (in_turn m parts k)
  unfolding PartsLate
  turns-placed [] w k xs = tt
  turns-placed (part ∷ parts) w k xs = placed-both p m act false (part k) (in_turn m parts (with_facts m (part k) k)) xs (w.0 k xs) (turns-placed parts w.1 (with_facts m (part k) k) (after_facts p m (part k) xs))

module _ (o : Options) (h : List Item) (step : Step) (p : ℕ) where
  own-plain : is_establishing step.act ≡ false → (x : Option Home) (k : List Item) → ArePlain (own_facts o h step x k)
  own-plain e None k = tt
  own-plain e (Some x) k = act-plain x.number x.address (pool_options o) step.moment (of_pool x.number h) (of_pool x.number k) step.act e

  -- a step that establishes nothing
  others-placed : is_establishing step.act ≡ false → (xs : List PoolItem) → AllPlaced p step.moment step.act true xs (step_facts o h step)
  unfolding PartsLate
  others-placed e xs = early p step.moment step.act true (step_facts o h step) xs (turns-placed p o step.moment step.act (parts o h step) (
    λ k ys. plain-placed p step.moment step.act false (heartbeat o h step.act) ys (calm-plain (heartbeat o h step.act) (heartbeat-calm o h step.act)),
    plain-late p o step.moment step.act (told_by o step.moment (rule_after o h step) (description_of o h)) (clearing o step.moment (trouble o h step) (clear_of o h step) ∷ asking o (trouble o h step) (clear_of o h step) ∷ own_facts o h step (home_of h step.act) ∷ serve_all o step.moment ∷ []) (told-plain o step.moment (rule_after o h step) (description_of o h)) (
      λ k ys. plain-placed p step.moment step.act false (clearing o step.moment (trouble o h step) (clear_of o h step) k) ys (clearing-plain o step.moment (trouble o h step) (clear_of o h step) k),
      (
        λ k ys. plain-placed p step.moment step.act false (asking o (trouble o h step) (clear_of o h step) k) ys (calm-plain (asking o (trouble o h step) (clear_of o h step) k) (asking-calm o (trouble o h step) (clear_of o h step) k)),
        (
          λ k ys. plain-placed p step.moment step.act false (own_facts o h step (home_of h step.act) k) ys (own-plain e (home_of h step.act) k),
          (λ k ys. serve-all-placed p o step.moment step.act k ys, tt),
        ),
      ),
    ),
  ) (begun h step) xs)

-- a step that establishes a connection
module _ (o : Options) (h : List Item) (m q c : ℕ) (how : Establishment) (p : ℕ) where
  abbrev act : Act
  act = Do.Established q c how

  abbrev step : Step
  step = record { moment = m; act = act }

  own-placed : (x : Option Home) → home_of h act ≡ x → AllPlaced p m act true (of_pool p (begun h step)) (own_facts o h step x (begun h step))
  own-placed None e = tt
  own-placed (Some x) e = (
    λ i. record { at_first = refl; how = how; establishes = subst (λ n. act ≡ Do.Established n c how) (same ∙ i) refl },
    handed-placed p m act x.number x.address (pool_options o) (of_pool x.number (begun h step)) (of_pool p (begun h step)) c (granted_to (of_pool x.number (begun h step)) c) (λ i. rw (equal-number q p (same ∙ i), same-number c) refl),
  )
    where
      same : q ≡ x.number
      same = let here : concerns h act x.number ≡ true = home-concerned h act x e in grind arith

  pub established-placed : AllPlaced p m act true (of_pool p (begun h step)) (step_facts o h step)
  established-placed =
      let own : List Fact = own_facts o h step (home_of h act) (begun h step) in
      let served : List Fact = serve_all o m (with_facts m own (begun h step)) in
      subst (AllPlaced p m act true (of_pool p (begun h step))) (sym (plain-facts o h step refl))
      (placed-both p m act true own served (of_pool p (begun h step)) (own-placed (home_of h act) refl) (serve-all-placed p o m act (with_facts m own (begun h step)) (after_facts p m own (of_pool p (begun h step)))))

pub step-placed : (o : Options) (h : List Item) (step : Step) (p : ℕ) → AllPlaced p step.moment step.act true (of_pool p (begun h step)) (step_facts o h step)
step-placed o h step p = on (is_establishing step.act) refl
  where
    by : (act : Act) → is_establishing act ≡ true → AllPlaced p step.moment act true (of_pool p (begun h (record { moment = step.moment; act = act }))) (step_facts o h (record { moment = step.moment; act = act }))
    by (Do.Established q c how) e = established-placed o h step.moment q c how p
    by _ e = cc

    on : (b : Bool) → is_establishing step.act ≡ b → AllPlaced p step.moment step.act true (of_pool p (begun h step)) (step_facts o h step)
    on true e = by step.act e
    on false e = others-placed o h step p e (of_pool p (begun h step))
