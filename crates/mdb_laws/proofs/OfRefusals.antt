-- A driver refuses exactly what the table of refusals says.
use Rattle.std.proofs.Common.{◌≡◌, true, false, is_some, List, Option, Some, None, refl, sym, ◌∙◌, ap}
use Rattle.mdb_base.specs.declared.options.Options.{Options}
use Rattle.mdb_log.specs.declared.step.Step.{Step}
use Rattle.mdb_log.specs.declared.reply.Refused.{Refused as Why}
use Rattle.mdb_log.specs.declared.reply.Reply.{Reply}
use Rattle.mdb_log.specs.declared.reply.Reply.TheVariants.{Refused}
use Rattle.mdb_log.specs.History.{Item, with_facts}
use Rattle.mdb_log.specs.Own.{IsAccepted}
use Rattle.mdb_driver_rules.specs.Answer.{answer, reply_to}
use Rattle.mdb_driver_rules.specs.Facts.{step_facts}
use Rattle.mdb_driver_rules.specs.Homes.{begun}
use Rattle.mdb_driver_rules.specs.Refusal.{refusal}
use Rattle.mdb_laws.specs.Refusals.{refusal_in, RefusesByTable}
use Rattle.mdb_laws.proofs.Causes.{accepts}

accepted-none : (reply : Reply) → IsAccepted reply → refusal_in reply ≡ None
accepted-none (Refused why) i = absurd i
accepted-none _ i = refl

pub refuses : (o : Options) (h : List Item) (step : Step) → RefusesByTable o h step (answer o h step)
refuses o h step = on (refusal o h step) refl
  where
    on : (why : Option Why) → refusal o h step ≡ why → RefusesByTable o h step (answer o h step)
    on (Some why) e = record { reason = rw e refl; silent = λ i. rw e refl }
    on None e =
        let says : Reply = reply_to o h step (with_facts step.moment (step_facts o h step) (begun h step)) step.act in
        let none : refusal_in says ≡ None = accepted-none says (accepts o h step (with_facts step.moment (step_facts o h step) (begun h step)) step.act) in
        let told : refusal_in (answer o h step).reply ≡ None = rw e none in
        record { reason = told ∙ sym e; silent = λ i. (let f : true ≡ false = sym i ∙ ap is_some told in cc) }
