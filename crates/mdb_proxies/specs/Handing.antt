-- What a step of the core does to the log and to the asks that stand.
use Rattle.std.specs.Prelude.{◌≡◌, ℕ, List, [], ◌∷◌, ◌++◌, slice_index_or}
use Rattle.mdb_log.specs.declared.log.Entry.{Entry}
use Rattle.mdb_log.specs.declared.reply.Reply.{Reply}
use Rattle.mdb_log.specs.declared.step.Step.{Step}
use Rattle.mdb_log.specs.declared.step.Act.TheVariants.{Request}
use Rattle.mdb_log.specs.Driver.{IsEntry}
use Rattle.mdb_proxies.specs.declared.asked.Standing.{Standing}
use Rattle.mdb_proxies.specs.Tables.{after_entry}

-- The log has one more entry, of the step with this reply, and the standing asks are those after it.
pub record Entered (step : Step) (reply : Reply) (log more : List Entry) (os ps : List Standing) : Type 0 where
  pub entry : Entry
  pub is : IsEntry 0 step reply entry
  pub grown : more ≡ log ++ entry ∷ []
  pub after : ps ≡ after_entry entry os

-- the step is the request of the ask that stands at this place
abbrev pub IsRequestAt : ℕ → List Standing → ℕ → Step → Type 0
IsRequestAt moment os i step = (o : Standing) × (o ≡ slice_index_or os i o) × (step ≡ record { moment = moment; act = Request o.request o.address })
