-- Errors of operations that concern their server no more are without effect.
use Rattle.std.proofs.Common.{ℕ, ◌≡◌, Bool, true, false, not, List, [], Option, Some, None, refl, sym, ◌∙◌, ap}
use Rattle.mdb_base.specs.declared.options.Options.{Options}
use Rattle.mdb_base.specs.declared.error.Error.{Error}
use Rattle.mdb_describe.specs.declared.topology.TopologyDescription.{TopologyDescription}
use Rattle.mdb_log.specs.declared.step.Step.{Step}
use Rattle.mdb_log.specs.declared.step.Act.{Act}
use Rattle.mdb_log.specs.declared.step.Act.TheVariants as Do
use Rattle.mdb_log.specs.declared.reply.Reply.TheVariants.{Changed}
use Rattle.mdb_log.specs.History.{Item}
use Rattle.mdb_topology.specs.declared.topology.TopologyCore.{TopologyCore}
use Rattle.mdb_driver_rules.specs.Homes.{begun}
use Rattle.mdb_driver_rules.specs.Current.{Complaint, complaint_of, is_current}
use Rattle.mdb_driver_rules.specs.Errors.{complaint_trouble}
use Rattle.mdb_driver_rules.specs.Description.{description_of, is_stopped, marking_rule, rule_after}
use Rattle.mdb_driver_rules.specs.Facts.{trouble, step_facts}
use Rattle.mdb_driver_rules.specs.Refusal.{refusal}
use Rattle.mdb_driver_rules.specs.Answer.{answer, answered, changed_reply}
use Rattle.mdb_topology.specs.Standing.{StandsFor}
use Rattle.mdb_driver_rules.proofs.TellsNothing.{stale-error}
use Rattle.mdb_topology.proofs.WholeSteps.CheckThenRule.{served-all}
use Rattle.mdb_laws.specs.Alike.{IsWithoutEffect}
use Rattle.mdb_laws.specs.Stale.{concerns_no_more, is_stale_error}
use Rattle.mdb_laws.proofs.Alike.{error-alike}

-- a complaint that is not current is no trouble
pub outdated-none : (o : Options) (k : List Item) (t : TopologyDescription) (x : Option Complaint) → concerns_no_more o k t x ≡ true → complaint_trouble o k t x ≡ None
outdated-none o k t None e = refl
outdated-none o k t (Some x) e = on (is_current o k t x) refl e
  where
    on : (b : Bool) → is_current o k t x ≡ b → not (is_current o k t x) ≡ true → complaint_trouble o k t (Some x) ≡ None
    on true f g = let d : not (is_current o k t x) ≡ false = ap not f in let c : true ≡ false = sym g ∙ d in cc
    on false f g = rw f refl

module _ (w : TopologyCore) (h : List Item) (z : StandsFor w h) (m r : ℕ) (e : Error) where
  abbrev o : Options
  o = w.options

  abbrev step : Step
  step = record { moment = m; act = Do.Error r e }

  module _ (none : trouble o h step ≡ None) (accepted : refusal o h step ≡ None) where
    no-rule : rule_after o h step ≡ None
    no-rule = on (is_stopped h) refl
      where
        on : (b : Bool) → is_stopped h ≡ b → rule_after o h step ≡ None
        on true f = rw f refl
        on false f = rw f (ap (marking_rule o) none)

    no-facts : step_facts o h step ≡ []
    no-facts = stale-error o h m r e none ∙ served-all o m w.pools.cores.items h z.pools

    reply-is : changed_reply o h step ≡ Changed false
    reply-is = rw (no-rule, none) refl

    answer-is : answer o h step ≡ record { reply = Changed false; facts = [] }
    answer-is = ap (λ x. answered o h step x (step_facts o h step)) accepted ∙ rw (no-facts, reply-is) refl

    pub without-effect : IsWithoutEffect o h step
    without-effect = record { answered = answer-is; alike = error-alike o h m r e no-rule }

pub stale-without-effect : (w : TopologyCore) (h : List Item) (step : Step) → StandsFor w h → refusal w.options h step ≡ None → is_stale_error w.options h step ≡ true → IsWithoutEffect w.options h step
stale-without-effect w h step z accepted stale = on step.moment step.act accepted stale
  where
    on : (m : ℕ) (act : Act) → refusal w.options h (record { moment = m; act = act }) ≡ None → is_stale_error w.options h (record { moment = m; act = act }) ≡ true → IsWithoutEffect w.options h (record { moment = m; act = act })
    on m (Do.Error r e) a s = without-effect w h z m r e (outdated-none w.options (begun h (record { moment = m; act = Do.Error r e })) (description_of w.options h) (complaint_of (begun h (record { moment = m; act = Do.Error r e })) (Do.Error r e)) s) a
    on m _ a s = cc
