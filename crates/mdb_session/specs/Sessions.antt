-- What a session keeps: a driver that stands for a whole log, and the last entry of it.
use Rattle.std.specs.Prelude.{◌≡◌, ◌≤◌, ℕ, List, Option, Some, [], ◌∷◌, ◌++◌, length, slice_get}
use Rattle.mdb_events.specs.declared.fact.Fact.{Fact}
use Rattle.mdb_log.specs.declared.log.Entry.{Entry}
use Rattle.mdb_log.specs.declared.step.Act.{Act}
use Rattle.mdb_log.specs.declared.step.Step.{Step}
use Rattle.mdb_lines.specs.Spelling.{HasSpelling}
use Rattle.mdb_lines.specs.LogText.{text_of_entry}
use Rattle.mdb_topology.specs.declared.topology.TopologyCore.{TopologyCore}
use Rattle.mdb_driver_rules.specs.Lines.{entry_after, answer_after}
use Rattle.mdb_topology.specs.Logging.{IsDriverOf}
use Rattle.mdb_session.specs.Numbers.{reply_numbers}
use Rattle.mdb_session.specs.declared.at.At.{At}
use Rattle.mdb_session.specs.declared.numbers.ReplyNumbers.{ReplyNumbers}

-- The driver is that of the log, whose last entry alone is kept, and a line spells that entry's step.
pub record Keeps (core : TopologyCore) (past last : List Entry) : Type 0 where
  pub driver : IsDriverOf core (past ++ last)
  pub entry : Entry
  pub one : last ≡ entry ∷ []
  pub spelled : HasSpelling entry.step

-- The log that a slot held got the entry of the step, made by the seat, and this is the reply to it.
abbrev pub IsStepped : Option (List Entry) → Option (List Entry) → ℕ → Step → ReplyNumbers → Type 0
IsStepped old new seat step told = (log : List Entry) × (old ≡ Some log) × (new ≡ Some (log ++ entry_after seat log step ∷ [])) × (told ≡ reply_numbers (answer_after log step).reply)

-- the step that does this at the moment
abbrev pub step_at : At → Act → Step
step_at at act = record { moment = at.moment; act = act }

-- The entry is the last one of the log.
abbrev pub IsLast : List Entry → Entry → Type 0
IsLast log e = (before : List Entry) × (log ≡ before ++ e ∷ [])

-- The fact is the one of this number, counted from 0, of the last entry of the log.
abbrev pub IsLastFact : List Entry → ℕ → Fact → Type 0
IsLastFact log i f = (e : Entry) × IsLast log e × (slice_get e.facts i ≡ Some f)

-- The last entry of the log has no fact of this number.
abbrev pub LacksFact : List Entry → ℕ → Type 0
LacksFact log i = (e : Entry) × IsLast log e × (length e.facts ≤ i)

-- The text is that of the last entry of the log.
abbrev pub IsLastText : List Entry → List ℕ → Type 0
IsLastText log text = (e : Entry) × IsLast log e × (text ≡ text_of_entry e)
