-- Steps that tell nothing of the topology.
use Rattle.std.proofs.Common.{ℕ, ◌≡◌, Bool, true, false, List, [], ◌++◌, Option, Some, None, refl, ◌∙◌, ap, append-nil}
use Rattle.mdb_base.specs.declared.options.Options.{Options}
use Rattle.mdb_base.specs.declared.error.Error.{Error}
use Rattle.mdb_log.specs.declared.step.Step.{Step}
use Rattle.mdb_log.specs.declared.step.Act.TheVariants as Do
use Rattle.mdb_log.specs.History.{Item, with_facts}
use Rattle.mdb_log.specs.Homes.{Home}
use Rattle.mdb_driver_rules.specs.Homes.{home_of, begun}
use Rattle.mdb_driver_rules.specs.Monitors.{heartbeat}
use Rattle.mdb_driver_rules.specs.Description.{marking_rule, is_stopped, rule_after}
use Rattle.mdb_driver_rules.specs.Facts.{trouble, own_facts, serve_all, step_facts}

-- the facts of a step without heartbeat, rule and trouble are its own and the serving
pub plain-step : (o : Options) (h : List Item) (step : Step) → heartbeat o h step.act ≡ [] → rule_after o h step ≡ None → trouble o h step ≡ None
    → step_facts o h step ≡ own_facts o h step (home_of h step.act) (begun h step) ++ serve_all o step.moment (with_facts step.moment (own_facts o h step (home_of h step.act) (begun h step)) (begun h step))
plain-step o h step quiet rule none = rw (quiet, rule, none, append-nil) refl

-- an error that concerns the server no more has no facts but those of the serving
module _ (o : Options) (h : List Item) (m r : ℕ) (e : Error) where
  abbrev step : Step
  step = record { moment = m; act = Do.Error r e }

  no-rule : trouble o h step ≡ None → rule_after o h step ≡ None
  no-rule none = on (is_stopped h) refl
    where
      on : (b : Bool) → is_stopped h ≡ b → rule_after o h step ≡ None
      on true f = rw f refl
      on false f = rw f (ap (marking_rule o) none)

  no-own : (x : Option Home) (k : List Item) → own_facts o h step x k ≡ []
  no-own None k = refl
  no-own (Some x) k = refl

  pub stale-error : trouble o h step ≡ None → step_facts o h step ≡ serve_all o m (begun h step)
  stale-error none =
      let own : own_facts o h step (home_of h (Do.Error r e)) (begun h step) ≡ [] = no-own (home_of h (Do.Error r e)) (begun h step) in
      plain-step o h step refl (no-rule none) none ∙ rw own refl
