-- A step that applies no rule and whose facts take no number is refused by the rows alone.
use Rattle.std.proofs.Common.{◌≡◌, ◌≤◌, false, if◌then◌else◌, List, length, Option, Some, None, nat_lt, refl, ◌∙◌, ap, arith}
use Rattle.std.proofs.lemmas.Bool.Decides.{nat_tests}
use Rattle.mdb_base.specs.declared.options.Options.{Options}
use Rattle.mdb_log.specs.declared.step.Step.{Step}
use Rattle.mdb_log.specs.declared.reply.What.TheVariants.{Servers}
use Rattle.mdb_log.specs.declared.reply.Refused.{Refused}
use Rattle.mdb_log.specs.History.{Item}
use Rattle.mdb_driver_rules.specs.Homes.{begun}
use Rattle.mdb_driver_rules.specs.Description.{description_of, rule_after, applied}
use Rattle.mdb_driver_rules.specs.Facts.{step_facts}
use Rattle.mdb_driver_rules.specs.Refusal.{first_refusal, first_past, exhausted, ran_out, refused_by, refusal}
use Rattle.mdb_driver_rules.proofs.NumbersWithinLimits.{take_numbers, first-free}

no-later : (why : Option Refused) → refused_by why None ≡ why
no-later None = refl
no-later (Some why) = refl

module _ (o : Options) (h : List Item) (step : Step) (rule : rule_after o h step ≡ None) where
  pub known-still : description_of o (begun h step) ≡ description_of o h
  known-still = ap (λ r. applied r (description_of o h)) rule

  pub plain-refusal : length (description_of o h).servers ≤ 128 → take_numbers (step_facts o h step) ≡ false → refusal o h step ≡ first_refusal o h step
  plain-refusal few free =
      let less : nat_lt 128 (length (description_of o h).servers) ≡ false = grind (arith, nat_tests) in
      let fits : nat_lt 128 (length (description_of o (begun h step)).servers) ≡ false = ap (λ t. nat_lt 128 (length t.servers)) known-still ∙ less in
      let spare : exhausted o h step (step_facts o h step) ≡ None = ap (λ b. if b then Some Servers else first_past o step.moment (begun h step) (step_facts o h step)) fits ∙ first-free o step.moment (begun h step) (step_facts o h step) free in
      ap (λ x. refused_by (first_refusal o h step) (ran_out x)) spare ∙ no-later (first_refusal o h step)
