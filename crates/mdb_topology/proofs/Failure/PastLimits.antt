-- What a failure takes past a limit: the generation of the pool that it clears, and nothing else.
use Rattle.std.proofs.Common.{ℕ, ◌≡◌, ◌≤◌, false, if◌then◌else◌, List, ◌++◌, length, Option, Some, None, nat_lt, refl, sym, ◌∙◌, ap, arith}
use Rattle.std.proofs.lemmas.Bool.Decides.{nat_tests}
use Rattle.mdb_base.specs.declared.error.Error.{Error}
use Rattle.mdb_base.specs.declared.address.ServerAddress.{ServerAddress}
use Rattle.mdb_base.specs.declared.object_id.ObjectId.{ObjectId}
use Rattle.mdb_base.specs.declared.options.Options.{Options}
use Rattle.mdb_events.specs.declared.fact.Fact.{Fact}
use Rattle.mdb_log.specs.declared.options.PoolOptions.{PoolOptions}
use Rattle.mdb_log.specs.declared.step.FailedAt.{FailedAt}
use Rattle.mdb_log.specs.declared.step.Step.{Step}
use Rattle.mdb_log.specs.declared.step.Act.TheVariants.{Failed}
use Rattle.mdb_log.specs.declared.reply.What.{What}
use Rattle.mdb_log.specs.declared.reply.What.TheVariants.{Generation, Servers}
use Rattle.mdb_log.specs.History.{Item, PoolItem, of_pool, after_facts, with_facts}
use Rattle.mdb_log.specs.Opening.{pool_options}
use Rattle.mdb_pool_rules.specs.Answer.{all_facts}
use Rattle.mdb_pool_rules.specs.Facts.{act_facts, clear_facts}
use Rattle.mdb_pool_rules.specs.Refusal.{is_exhausted}
use Rattle.mdb_pool_rules.specs.Serving.{serving}
use Rattle.mdb_driver_rules.specs.Description.{description_of}
use Rattle.mdb_driver_rules.specs.Facts.{step_facts}
use Rattle.mdb_driver_rules.specs.Homes.{begun}
use Rattle.mdb_driver_rules.specs.Refusal.{first_past, sooner, first_refusal, refused_by, ran_out, exhausted, refusal}
use Rattle.mdb_topology.proofs.Marks.ClearsPool.{past-clear}
use Rattle.mdb_driver_rules.proofs.NumbersWithinLimits.{take_numbers, first-free, free-append, out-append, out-free, serving-free, act-free}
use Rattle.mdb_driver_rules.proofs.FactsPastLimits.{past-append}

pub sooner-none : (x : Option What) → sooner x None ≡ x
sooner-none None = refl
sooner-none (Some what) = refl

-- a failure and its serving take none
pub fails-free : (p : ℕ) (a : ServerAddress) (o : PoolOptions) (m q c : ℕ) (at : FailedAt) (error : Error) (xs ys : List PoolItem) → take_numbers (all_facts p a o m xs ys (Failed q c at error)) ≡ false
fails-free p a o m q c at error xs ys =
    let own : List Fact = act_facts p a o m xs ys (Failed q c at error) in
    let serves : List Fact = serving p a o m (after_facts p m own ys) in
    out-free (own ++ serves) (out-append own serves ∙ rw (act-free p a o m xs ys (Failed q c at error) tt, serving-free p a o m (after_facts p m own ys)) refl)

module _ (o : Options) (m : ℕ) (told clears asks fails : List Fact) (free_told : take_numbers told ≡ false) (free_asks : take_numbers asks ≡ false) (free : take_numbers fails ≡ false) (k0 : List Item) where
  abbrev k1 : List Item
  k1 = with_facts m told k0

  abbrev k2 : List Item
  k2 = with_facts m clears k1

  free-rest : take_numbers (asks ++ fails) ≡ false
  free-rest = free-append asks fails ∙ rw (free_asks, free) refl

  -- the clear alone passes a limit
  pub failed-past : first_past o m k0 (told ++ (clears ++ (asks ++ fails))) ≡ first_past o m k1 clears
  failed-past =
      past-append o m k0 told (clears ++ (asks ++ fails))
      ∙ (ap (λ y. sooner y (first_past o m k1 (clears ++ (asks ++ fails)))) (first-free o m k0 told free_told)
      ∙ (past-append o m k1 clears (asks ++ fails)
      ∙ (ap (sooner (first_past o m k1 clears)) (first-free o m k2 (asks ++ fails) free-rest)
      ∙ sooner-none (first_past o m k1 clears))))

  -- where the generation of its pool is at the limit
  pub cleared-past : (p : ℕ) (a : ServerAddress) (service : Option ObjectId) (error : Error) (ws : List PoolItem) → of_pool p k1 ≡ ws → clears ≡ clear_facts p a (pool_options o) m ws service error
      → first_past o m k0 (told ++ (clears ++ (asks ++ fails))) ≡ (if is_exhausted (pool_options o) ws service then Some Generation else None)
  cleared-past p a service error ws known clears_are =
      failed-past
      ∙ (ap (first_past o m k1) (clears_are ∙ ap (λ ys. clear_facts p a (pool_options o) m ys service error) (sym known))
      ∙ (past-clear o m k1 p a error service ∙ ap (λ ys. if is_exhausted (pool_options o) ys service then Some Generation else None) known))

-- a step that no row refuses, and that leads to at most 128 servers, is refused by the limit that its facts pass
pub refused-past : (o : Options) (h : List Item) (step : Step) (past : Option What) → first_refusal o h step ≡ None → length (description_of o (begun h step)).servers ≤ 128
    → first_past o step.moment (begun h step) (step_facts o h step) ≡ past → refusal o h step ≡ ran_out past
refused-past o h step past first few e =
    let less : nat_lt 128 (length (description_of o (begun h step)).servers) ≡ false = grind (arith, nat_tests) in
    let all : exhausted o h step (step_facts o h step) ≡ past = ap (λ b. if b then Some Servers else first_past o step.moment (begun h step) (step_facts o h step)) less ∙ e in
    ap (λ x. refused_by x (ran_out (exhausted o h step (step_facts o h step)))) first ∙ ap ran_out all
