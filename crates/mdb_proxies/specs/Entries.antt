-- Which entries a step of a proxy adds to the log.
use Rattle.std.specs.Prelude.{◌≡◌, ℕ, true, List, [], ◌∷◌, ◌++◌, Option, Some, option_map, ⊤}
use Rattle.mdb_log.specs.declared.reply.Reply.{Reply}
use Rattle.mdb_log.specs.declared.step.Step.{Step}
use Rattle.mdb_log.specs.declared.step.Act.TheVariants.{Request}
use Rattle.mdb_log.specs.declared.log.Entry.{Entry}
use Rattle.mdb_log.specs.Driver.{IsEntry, is_refusal}
use Rattle.mdb_proxies.specs.declared.asked.Asked.{Asked}
use Rattle.mdb_proxies.specs.Charge.{next_ask}

-- the request of the ask, at the moment
abbrev pub request_at : ℕ → Asked → Step
request_at moment x = record { moment = moment; act = Request x.request x.address }

-- the request of the ask that is handed on next
abbrev pub next_request : ℕ → List ℕ → List Asked → List Entry → Option Step
next_request moment shares asks log = option_map (request_at moment) (next_ask shares asks log)

-- Handed on: each of the entries behind the log is the request of the ask that was next then, at the moment.
abbrev pub AreHandedOn : ℕ → List ℕ → List Asked → List Entry → List Entry → Type 0
AreHandedOn moment shares asks log [] = ⊤
AreHandedOn moment shares asks log (e ∷ es) = (e.seat ≡ 0) × (next_request moment shares asks log ≡ Some e.step) × AreHandedOn moment shares asks (log ++ e ∷ []) es

-- The log grew by asks that were handed on.
abbrev pub GoesOn : ℕ → List ℕ → List Asked → List Entry → List Entry → Type 0
GoesOn moment shares asks log more = (es : List Entry) × (more ≡ log ++ es) × AreHandedOn moment shares asks log es

-- The log grew by the entry of a step of its own with this reply, and, where it was not refused, by asks that were handed on.
pub record Enters (moment : ℕ) (shares : List ℕ) (asks : List Asked) (step : Step) (reply : Reply) (log more : List Entry) : Type 0 where
  pub entry : Entry
  pub is : IsEntry 0 step reply entry
  pub refused : is_refusal reply ≡ true → more ≡ log ++ entry ∷ []
  pub goes_on : GoesOn moment shares asks (log ++ entry ∷ []) more
