-- What an accepted step says of the history before it.
use Rattle.std.proofs.Common.{◌≡◌, Bool, true, false, List, [], ◌∷◌, Option, Some, None, refl}
use Rattle.mdb_base.specs.declared.options.Options.{Options}
use Rattle.mdb_log.specs.declared.log.Entry.{Entry}
use Rattle.mdb_log.specs.declared.reply.Refused.{Refused}
use Rattle.mdb_log.specs.declared.step.Step.{Step}
use Rattle.mdb_log.specs.History.{Item, history_of}
use Rattle.mdb_pool_rules.specs.Refusal.{first_row}
use Rattle.mdb_driver_rules.specs.Answer.{answer}
use Rattle.mdb_driver_rules.specs.Lines.{answer_after, options_in}
use Rattle.mdb_driver_rules.specs.Refusal.{refusal, refused_by, first_refusal, rows_of}

-- the answer after a log is that of a driver with some options
pub answered-by : (log : List Entry) (step : Step) → (o : Options) × (answer_after log step ≡ answer o (history_of log) step)
answered-by [] step = (options_in step.act, refl)
answered-by (first ∷ log) step = (options_in first.step.act, refl)

sooner-none : (why later : Option Refused) → refused_by why later ≡ None → why ≡ None
sooner-none (Some why) later e = cc
sooner-none None later e = refl

-- no row holds
pub row-fails : (b : Bool) (why : Refused) (rows : List (Bool × Refused)) → first_row ((b, why) ∷ rows) ≡ None → (b ≡ false) × (first_row rows ≡ None)
row-fails true why rows e = cc
row-fails false why rows e = (refl, e)

pub second-fails : (b c : Bool) (why also : Refused) → first_row ((b, why) ∷ (c, also) ∷ []) ≡ None → c ≡ false
second-fails b c why also e = (row-fails c also [] (row-fails b why ((c, also) ∷ []) e).1).0

-- an accepted step passes the rows of its act
pub passes-rows : (o : Options) (h : List Item) (step : Step) → refusal o h step ≡ None → first_row (rows_of o h step.act) ≡ None
passes-rows o h step e = (row-fails _ _ (rows_of o h step.act) (sooner-none (first_refusal o h step) _ e)).1
