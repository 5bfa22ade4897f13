-- An act of one pool tells nothing of the topology, and its facts take no number: it is refused by its rows alone.
use Rattle.std.proofs.Common.{ℕ, ◌≡◌, ◌≤◌, ◌++◌, Bool, true, false, List, [], ◌∷◌, length, Option, Some, None, refl, ◌∙◌, ap}
use Rattle.std.specs.Prelude.{flat_map}
use Rattle.mdb_base.specs.declared.options.Options.{Options}
use Rattle.mdb_describe.specs.declared.topology.TopologyDescription.{TopologyDescription}
use Rattle.mdb_log.specs.declared.step.Step.{Step}
use Rattle.mdb_log.specs.declared.step.Act.{Act}
use Rattle.mdb_log.specs.declared.step.Act.TheVariants as Do
use Rattle.mdb_log.specs.History.{Item, of_pool, with_facts}
use Rattle.mdb_log.specs.Homes.{Home, homes}
use Rattle.mdb_log.specs.Opening.{pool_options}
use Rattle.mdb_pool_rules.specs.Serving.{serving}
use Rattle.mdb_driver_rules.specs.Homes.{home_of, begun}
use Rattle.mdb_driver_rules.specs.Monitors.{heartbeat}
use Rattle.mdb_driver_rules.specs.Errors.{trouble_of}
use Rattle.mdb_driver_rules.specs.Description.{is_stop, is_stopped, rule_of, rule_after, description_of}
use Rattle.mdb_driver_rules.specs.Facts.{trouble, own_facts, serve_all, step_facts}
use Rattle.mdb_driver_rules.specs.Refusal.{first_refusal, refusal}
use Rattle.mdb_driver_rules.specs.Acts.{is_pool_act}
use Rattle.mdb_driver_rules.proofs.NumbersWithinLimits.{any_out, out-append, out-free, serving-free, IsTame, act-free}
use Rattle.mdb_driver_rules.proofs.Still.{IsStill}
use Rattle.mdb_driver_rules.proofs.TellsNothing.{plain-step}
use Rattle.mdb_driver_rules.proofs.RefusedByRows.{plain-refusal}

tame : (act : Act) → is_pool_act act ≡ true → IsTame act
tame (Do.Ready q) e = cc
tame (Do.Clear q service error) e = cc
tame (Do.Close q) e = cc
tame _ e = tt

pub no-heartbeat : (o : Options) (h : List Item) (act : Act) → is_pool_act act ≡ true → heartbeat o h act ≡ []
no-heartbeat o h (Do.Beat a q) e = cc
no-heartbeat o h (Do.Beaten a q duration came) e = cc
no-heartbeat o h _ e = refl

no-trouble-of : (o : Options) (k : List Item) (t : TopologyDescription) (act : Act) → is_pool_act act ≡ true → trouble_of o k t act ≡ None
no-trouble-of o k t (Do.Hello a q came) e = cc
no-trouble-of o k t (Do.Beaten a q duration came) e = cc
no-trouble-of o k t (Do.Error r error) e = cc
no-trouble-of o k t (Do.Failed q c at error) e = cc
no-trouble-of o k t _ e = refl

no-rule-of : (o : Options) (k : List Item) (t : TopologyDescription) (m : ℕ) (act : Act) → is_pool_act act ≡ true → rule_of o k t m act ≡ None
no-rule-of o k t m (Do.Open q) e = cc
no-rule-of o k t m (Do.Hello a q came) e = cc
no-rule-of o k t m (Do.Beaten a q duration came) e = cc
no-rule-of o k t m (Do.Hosts hosts) e = cc
no-rule-of o k t m (Do.ClusterTime time) e = cc
no-rule-of o k t m Do.Stop e = cc
no-rule-of o k t m (Do.Error r error) e = cc
no-rule-of o k t m (Do.Failed q c at error) e = cc
no-rule-of o k t m _ e = refl

module _ (o : Options) (h : List Item) (step : Step) (e : is_pool_act step.act ≡ true) where
  pub no-trouble : trouble o h step ≡ None
  no-trouble = no-trouble-of o (begun h step) (description_of o h) step.act e

  pub no-rule : rule_after o h step ≡ None
  no-rule = on (is_stopped h) refl
    where
      on : (b : Bool) → is_stopped h ≡ b → rule_after o h step ≡ None
      on true f = rw f refl
      on false f = rw f (no-rule-of o (begun h step) (description_of o h) step.moment step.act e)

  own-out : (x : Option Home) (k : List Item) → any_out (own_facts o h step x k) ≡ false
  own-out None k = refl
  own-out (Some x) k = act-free x.number x.address (pool_options o) step.moment (of_pool x.number h) (of_pool x.number k) step.act (tame step.act e)

  servings-out : (k : List Item) (xs : List Home) → any_out (flat_map (λ x. serving x.number x.address (pool_options o) step.moment (of_pool x.number k)) xs) ≡ false
  servings-out k [] = refl
  servings-out k (x ∷ xs) =
      let one : List _ = serving x.number x.address (pool_options o) step.moment (of_pool x.number k) in
      let more : List _ = flat_map (λ (y : Home). serving y.number y.address (pool_options o) step.moment (of_pool y.number k)) xs in
      out-append one more ∙ rw (serving-free x.number x.address (pool_options o) step.moment (of_pool x.number k), servings-out k xs) refl

  pub plain-facts : step_facts o h step ≡ own_facts o h step (home_of h step.act) (begun h step) ++ serve_all o step.moment (with_facts step.moment (own_facts o h step (home_of h step.act) (begun h step)) (begun h step))
  plain-facts = plain-step o h step (no-heartbeat o h step.act e) no-rule no-trouble

  -- none of its facts takes a number or closes a pool
  pub facts-out : any_out (step_facts o h step) ≡ false
  facts-out =
      let own : List _ = own_facts o h step (home_of h step.act) (begun h step) in
      let k : List Item = with_facts step.moment own (begun h step) in
      ap any_out plain-facts ∙ (out-append own (serve_all o step.moment k) ∙ rw (own-out (home_of h step.act) (begun h step), servings-out k (homes k)) refl)

  pub pool-refusal : length (description_of o h).servers ≤ 128 → refusal o h step ≡ first_refusal o h step
  pool-refusal few = plain-refusal o h step no-rule few (out-free (step_facts o h step) facts-out)

-- it does nothing at the monitors, and stops nothing
pub pool-still : (act : Act) → is_pool_act act ≡ true → IsStill act
pool-still (Do.Beat a q) e = cc
pool-still (Do.Beaten a q duration came) e = cc
pool-still (Do.Rtt a q sample) e = cc
pool-still (Do.Want r) e = cc
pool-still (Do.Unwant r) e = cc
pool-still _ e = tt

pub pool-goes-on : (act : Act) → is_pool_act act ≡ true → is_stop act ≡ false
pool-goes-on Do.Stop e = cc
pool-goes-on _ e = refl
