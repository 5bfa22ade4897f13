-- Why a step of no pool is refused: by its rows, and then by the limit that what it tells passes.
use Rattle.std.proofs.Common.{ℕ, ◌≡◌, ◌≤◌, false, List, [], ◌∷◌, ◌++◌, length, Option, None, refl, ◌∙◌, ap}
use Rattle.std.specs.Prelude.{flat_map}
use Rattle.mdb_base.specs.declared.options.Options.{Options}
use Rattle.mdb_events.specs.declared.fact.Fact.{Fact}
use Rattle.mdb_log.specs.declared.reply.What.{What}
use Rattle.mdb_log.specs.declared.step.Act.{Act}
use Rattle.mdb_log.specs.declared.step.Step.{Step}
use Rattle.mdb_log.specs.History.{Item, of_pool, with_facts}
use Rattle.mdb_log.specs.Homes.{Home, homes}
use Rattle.mdb_log.specs.Opening.{pool_options}
use Rattle.mdb_pool_rules.specs.Serving.{serving}
use Rattle.mdb_driver_rules.specs.Description.{description_of}
use Rattle.mdb_driver_rules.specs.Facts.{own_facts, serve_all}
use Rattle.mdb_driver_rules.specs.Homes.{home_of, begun}
use Rattle.mdb_driver_rules.specs.Refusal.{first_past, first_refusal, ran_out, refusal, sooner}
use Rattle.mdb_driver_rules.specs.Turns.{in_turn}
use Rattle.mdb_topology.proofs.Failure.PastLimits.{refused-past, sooner-none}
use Rattle.mdb_driver_rules.proofs.NumbersWithinLimits.{take_numbers, first-free, free-append, out-free, serving-free}
use Rattle.mdb_driver_rules.proofs.FactsPastLimits.{past-append}
use Rattle.mdb_driver_rules.proofs.SameHistories.{IsOutside}
use Rattle.mdb_topology.proofs.WholeSteps.CheckThenRule.{G, no-own, own_then_served, said-first}

-- the serving of the pools takes no number
pub serving-none : (o : Options) (m : ℕ) (k : List Item) (xs : List Home) → take_numbers (flat_map (λ (x : Home). serving x.number x.address (pool_options o) m (of_pool x.number k)) xs) ≡ false
serving-none o m k [] = refl
serving-none o m k (x ∷ xs) =
    let one : List Fact = serving x.number x.address (pool_options o) m (of_pool x.number k) in
    free-append one (flat_map (λ (x : Home). serving x.number x.address (pool_options o) m (of_pool x.number k)) xs)
    ∙ rw (out-free one (serving-free x.number x.address (pool_options o) m (of_pool x.number k)), serving-none o m k xs) refl

module _ (o : Options) (h : List Item) (m : ℕ) (act : Act) (out : IsOutside act) where
  abbrev step : Step
  step = record { moment = m; act = act }

  abbrev k : List Item
  k = begun h step

  abbrev told : List Fact
  told = G o h m act

  abbrev j : List Item
  j = with_facts m told k

  abbrev rest : List Fact
  rest = in_turn m (own_then_served o h m act) j

  rest-none : take_numbers rest ≡ false
  rest-none =
      let own : List Fact = own_facts o h step (home_of h act) j in
      let served : List Fact = serve_all o m (with_facts m own j) in
      free-append own (served ++ [])
      ∙ rw (ap take_numbers (no-own o h m act out (home_of h act) j)) (free-append served [] ∙ rw (serving-none o m (with_facts m own j) (homes (with_facts m own j))) refl)

  pub outside-refusal : (past : Option What) → first_refusal o h step ≡ None → length (description_of o k).servers ≤ 128 → first_past o m k told ≡ past → refusal o h step ≡ ran_out past
  outside-refusal past first few e =
      refused-past o h step past first few
      (ap (first_past o m k) (said-first o h m act)
      ∙ (past-append o m k told rest
      ∙ (ap (sooner (first_past o m k told)) (first-free o m j rest rest-none)
      ∙ (sooner-none (first_past o m k told) ∙ e))))
