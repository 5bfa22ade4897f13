-- What one hello of a member's monitor makes of the description.
use Rattle.std.proofs.Common.{◌≡◌, ℕ, true, false, not, List, [], ◌∷◌, Option, Some, None, refl, ◌∙◌, arith}
use Rattle.std.specs.Prelude.{is_some, unwrap_or, if◌then◌else◌}
use Rattle.mdb_base.specs.declared.address.ServerAddress.{ServerAddress}
use Rattle.mdb_base.specs.declared.error.Error.{Error}
use Rattle.mdb_base.specs.declared.options.Options.{Options}
use Rattle.mdb_hello.specs.declared.response.HelloCommandResponse.{HelloCommandResponse}
use Rattle.mdb_events.specs.declared.fact.Fact.{Fact}
use Rattle.mdb_describe.specs.declared.topology.TopologyDescription.{TopologyDescription}
use Rattle.mdb_describe.specs.Descriptions.{failed, from_reply}
use Rattle.mdb_describe.specs.Update.{updated}
use Rattle.mdb_log.specs.History.{Item, did, made, open_pool, is_number, with_facts, with_answer}
use Rattle.mdb_log.specs.PlainLegal.{is_refused}
use Rattle.mdb_log.specs.declared.checked.HelloResult.{HelloResult}
use Rattle.mdb_log.specs.declared.checked.HelloResult.TheVariants as hello
use Rattle.mdb_log.specs.declared.reply.Refused.{Refused}
use Rattle.mdb_log.specs.declared.reply.Reply.TheVariants.{Refused as RefusedBy}
use Rattle.mdb_log.specs.declared.step.Act.TheVariants as act
use Rattle.mdb_log.specs.declared.step.Step.{Step}
use Rattle.mdb_log.specs.Answer.{Answer}
use Rattle.mdb_driver_rules.specs.Answer.{answer, answered, changed_reply}
use Rattle.mdb_driver_rules.specs.Description.{description_of, applied, step_rule, is_stopped}
use Rattle.mdb_driver_rules.specs.Facts.{step_facts}
use Rattle.mdb_driver_rules.specs.Homes.{is_here, begun}
use Rattle.mdb_driver_rules.specs.Monitors.{hello_reply}
use Rattle.mdb_driver_rules.specs.Refusal.{refusal}

-- facts change neither what is described nor whether the driver was stopped

pub facts-described : (o : Options) (m : ℕ) (facts : List Fact) (h : List Item) → description_of o (with_facts m facts h) ≡ description_of o h
facts-described o m [] h = refl
facts-described o m (x ∷ facts) h = facts-described o m facts (made m x ∷ h)

pub facts-stopped : (m : ℕ) (facts : List Fact) (h : List Item) → is_stopped (with_facts m facts h) ≡ is_stopped h
facts-stopped m [] h = refl
facts-stopped m (x ∷ facts) h = facts-stopped m facts (made m x ∷ h)

-- a pool that is open is the one of its own number
own-number : (x : Option ℕ) → is_some x ≡ true → is_number x (unwrap_or x 0) ≡ true
own-number None h = absurd (cc)
own-number (Some p) h = grind arith

module _ (o : Options) (h : List Item) (a : ServerAddress) (open' : is_some (open_pool h a) ≡ true) (running : is_stopped h ≡ false) (m : ℕ) (came : HelloResult) where
  abbrev pool : ℕ
  pool = unwrap_or (open_pool h a) 0

  abbrev step : Step
  step = record { moment = m; act = act.Hello a pool came }

  abbrev before : TopologyDescription
  before = description_of o h

  -- it is refused, or its reply says whether something changed
  pub data Comes : Answer → Type 0 where
    refused : (why : Refused) → Comes (record { reply = RefusedBy why; facts = [] })
    accepted : Comes (record { reply = changed_reply o h step; facts = step_facts o h step })

  by-refusal : (r : Option Refused) → Comes (answered o h step r (step_facts o h step))
  by-refusal None = accepted
  by-refusal (Some why) = refused why

  comes : Comes (answer o h step)
  comes = by-refusal (refusal o h step)

  after-answer : (x : Answer) → Comes x → description_of o (with_answer step x.reply x.facts h) ≡ (if not (is_refused x.reply) then applied (step_rule o h before step) before else before)
  after-answer _ (refused why) = refl
  after-answer _ accepted = facts-described o m (step_facts o h step) (did step (changed_reply o h step) ∷ h)

  running-after : (x : Answer) → Comes x → is_stopped (with_answer step x.reply x.facts h) ≡ false
  running-after _ (refused why) = running
  running-after _ accepted = facts-stopped m (step_facts o h step) (did step (changed_reply o h step) ∷ h) ∙ running

  -- the description after the step, where it is taken and where it is refused
  pub described-after : description_of o (with_answer step (answer o h step).reply (answer o h step).facts h) ≡ (if not (is_refused (answer o h step).reply) then applied (step_rule o h before step) before else before)
  described-after = after-answer (answer o h step) comes

  pub runs-on : is_stopped (with_answer step (answer o h step).reply (answer o h step).facts h) ≡ false
  runs-on = running-after (answer o h step) comes

  here : is_here (begun h step) a pool ≡ true
  here = own-number (open_pool h a) open'

-- a reply that is taken updates the description
pub reply-rule : (o : Options) (h : List Item) (a : ServerAddress) → is_some (open_pool h a) ≡ true → is_stopped h ≡ false → (m rtt : ℕ) (r : HelloCommandResponse) → let step : Step = record { moment = m; act = act.Hello a (unwrap_or (open_pool h a) 0) (hello.Ok rtt r) } in
    applied (step_rule o h (description_of o h) step) (description_of o h) ≡ updated (description_of o h) (from_reply a (hello_reply a r) rtt m)
reply-rule o h a open' running m rtt r = rw (running, own-number (open_pool h a) open') refl

-- so does an error
pub error-rule : (o : Options) (h : List Item) (a : ServerAddress) → is_some (open_pool h a) ≡ true → is_stopped h ≡ false → (m : ℕ) (e : Error) → let step : Step = record { moment = m; act = act.Hello a (unwrap_or (open_pool h a) 0) (hello.Err e) } in
    applied (step_rule o h (description_of o h) step) (description_of o h) ≡ updated (description_of o h) (failed a e)
error-rule o h a open' running m e = rw (running, own-number (open_pool h a) open') refl
