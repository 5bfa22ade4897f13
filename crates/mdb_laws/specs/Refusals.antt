-- That steps are refused exactly as the table of refusals says.
use Rattle.std.specs.Prelude.{◌≡◌, true, is_some, List, [], Option, Some, None}
use Rattle.mdb_base.specs.declared.options.Options.{Options}
use Rattle.mdb_log.specs.declared.reply.Refused.{Refused}
use Rattle.mdb_log.specs.declared.reply.Reply.{Reply}
use Rattle.mdb_log.specs.declared.reply.Reply.TheVariants.{Refused as RefusedBy}
use Rattle.mdb_log.specs.declared.step.Step.{Step}
use Rattle.mdb_log.specs.Answer.{Answer}
use Rattle.mdb_log.specs.History.{Item}
use Rattle.mdb_driver_rules.specs.Refusal.{refusal}

-- the reason of a reply that is a refusal
abbrev pub refusal_in : Reply → Option Refused
refusal_in (RefusedBy why) = Some why
refusal_in _ = None

-- The step is refused exactly where a row of the table holds, with the reason of the first that does; and a refused step makes no fact.
pub record RefusesByTable (o : Options) (h : List Item) (step : Step) (a : Answer) : Type 0 where
  pub reason : refusal_in a.reply ≡ refusal o h step
  pub silent : is_some (refusal_in a.reply) ≡ true → a.facts ≡ []
