-- A reply to who asks how a request stands is its outcome.
use Rattle.std.proofs.Common.{ℕ, ◌≡◌, true, List, [], ◌∷◌, Option, Some, None, refl, sym, ◌∙◌, ap, subst, arith}
use Rattle.mdb_base.specs.declared.options.Options.{Options}
use Rattle.mdb_events.specs.declared.fact.Fact.{Fact}
use Rattle.mdb_log.specs.declared.log.Entry.{Entry}
use Rattle.mdb_log.specs.declared.step.Step.{Step}
use Rattle.mdb_log.specs.declared.step.Act.{Act}
use Rattle.mdb_log.specs.declared.step.Act.TheVariants as Do
use Rattle.mdb_log.specs.declared.reply.Refused.{Refused}
use Rattle.mdb_log.specs.declared.reply.Reply.{Reply}
use Rattle.mdb_log.specs.declared.reply.Reply.TheVariants.{Refused as RefusedBy}
use Rattle.mdb_log.specs.Answer.{Answer}
use Rattle.mdb_log.specs.Driver.{tells_outcome}
use Rattle.mdb_log.specs.History.{Item, PoolItem, made, of_pool, history_of, after_fact, with_facts, with_answer}
use Rattle.mdb_log.specs.Homes.{Home}
use Rattle.mdb_log.specs.Requests.{asks_how, outcome_of}
use Rattle.mdb_driver_rules.specs.Answer.{answer, answered, reply_to, pool_reply}
use Rattle.mdb_driver_rules.specs.Facts.{step_facts}
use Rattle.mdb_driver_rules.specs.Homes.{home_of, begun}
use Rattle.mdb_driver_rules.specs.Refusal.{refusal}
use Rattle.mdb_laws.specs.Answers.{IsAnswer, TellsOutcome}
use Rattle.mdb_laws.proofs.OfTelling.Accepted.{answered-by}
use Rattle.mdb_laws.proofs.OfTelling.Logs.{one-more}

-- facts say the same of a pool of which as much was known
same-facts : (p m : ℕ) (fs : List Fact) (h k : List Item) → of_pool p h ≡ of_pool p k → of_pool p (with_facts m fs h) ≡ of_pool p (with_facts m fs k)
same-facts p m [] h k e = e
same-facts p m (f ∷ fs) h k e = same-facts p m fs (made m f ∷ h) (made m f ∷ k) (ap (after_fact p m f) e)

-- what a pool knows of a step doesn't depend on its reply
same-begun : (p : ℕ) (step : Step) (reply : Reply) (fs : List Fact) (h : List Item) → tells_outcome reply ≡ true → of_pool p (with_facts step.moment fs (begun h step)) ≡ of_pool p (with_answer step reply fs h)
same-begun p step (RefusedBy why) fs h e = cc
same-begun p step _ fs h e = same-facts p step.moment fs _ _ refl

-- the reply is the outcome at the pool that the act concerns
abbrev Tells : List Item → List Item → Act → ℕ → Reply → Type 0
Tells h z act r reply = (x : Home) × (home_of h act ≡ Some x) × (reply ≡ outcome_of x.number (of_pool x.number z) r)

module _ (o : Options) (h : List Item) (step : Step) (r : ℕ) where
  at-home : (z : List Item) (act : Act) (home : Option Home) → home_of h act ≡ home → asks_how act r ≡ true → tells_outcome (pool_reply h z act home) ≡ true → Tells h z act r (pool_reply h z act home)
  at-home z (Do.Request q a) (Some x) is same e = let f : q ≡ r = grind arith in (x, is, ap (outcome_of x.number (of_pool x.number z)) f)
  at-home z (Do.Warm q a) (Some x) is same e = let f : q ≡ r = grind arith in (x, is, ap (outcome_of x.number (of_pool x.number z)) f)
  at-home z (Do.Collect q) (Some x) is same e = let f : q ≡ r = grind arith in (x, is, ap (outcome_of x.number (of_pool x.number z)) f)
  at-home z _ home is same e = cc

  asking-tells : (z : List Item) (act : Act) → asks_how act r ≡ true → tells_outcome (reply_to o h step z act) ≡ true → Tells h z act r (reply_to o h step z act)
  asking-tells z (Do.Request q a) same e = at-home z (Do.Request q a) (home_of h (Do.Request q a)) refl same e
  asking-tells z (Do.Warm q a) same e = at-home z (Do.Warm q a) (home_of h (Do.Warm q a)) refl same e
  asking-tells z (Do.Collect q) same e = at-home z (Do.Collect q) (home_of h (Do.Collect q)) refl same e
  asking-tells z _ same e = cc

  answered-tells : (why : Option Refused) (fs : List Fact) → asks_how step.act r ≡ true → tells_outcome (answered o h step why fs).reply ≡ true
      → Tells h (with_facts step.moment (answered o h step why fs).facts (begun h step)) step.act r (answered o h step why fs).reply
  answered-tells (Some why) fs same e = cc
  answered-tells None fs same e = asking-tells (with_facts step.moment fs (begun h step)) step.act same e

pub tells-outcome : (log : List Entry) (e : Entry) (r : ℕ) → IsAnswer log e → asks_how e.step.act r ≡ true → tells_outcome e.reply ≡ true → TellsOutcome log e r
tells-outcome log e r is same says =
    let by = answered-by log e.step in
    let o : Options = by.0 in
    let h : List Item = history_of log in
    let reply_is : e.reply ≡ (answer o h e.step).reply = ap (λ (x : Entry). x.reply) is ∙ ap (λ (a : Answer). a.reply) by.1 in
    let facts_are : e.facts ≡ (answer o h e.step).facts = ap (λ (x : Entry). x.facts) is ∙ ap (λ (a : Answer). a.facts) by.1 in
    let told : Tells h (with_facts e.step.moment (answer o h e.step).facts (begun h e.step)) e.step.act r (answer o h e.step).reply =
    answered-tells o h e.step r (refusal o h e.step) (step_facts o h e.step) same (subst (λ (x : Reply). tells_outcome x ≡ true) reply_is says) in
    let told_here : Tells h (with_facts e.step.moment e.facts (begun h e.step)) e.step.act r e.reply =
    subst (λ (x : Reply). Tells h (with_facts e.step.moment e.facts (begun h e.step)) e.step.act r x) (sym reply_is)
    (subst (λ (fs : List Fact). Tells h (with_facts e.step.moment fs (begun h e.step)) e.step.act r (answer o h e.step).reply) (sym facts_are) told) in
    let p : ℕ = told_here.0.number in
    (told_here.0, told_here.1, told_here.2 ∙ ap (λ (xs : List PoolItem). outcome_of p xs r) (same-begun p e.step e.reply e.facts h says ∙ ap (of_pool p) (sym (one-more log e))))
