-- The facts that an entry shows, and their texts.
use Rattle.std.specs.Prelude.{◌≡◌, ◌<◌, ◌^◌, ℕ, List, ◌++◌, codes, decimal, IfSome, Bool, true}
use Rattle.std.specs.List.{flat_map}
use Rattle.mdb_base.specs.AddressRule.{is_address}
use Rattle.mdb_base.specs.ErrorText.{error_text}
use Rattle.mdb_base.specs.Spelling.{address}
use Rattle.mdb_events.specs.EventText.{event_text}
use Rattle.mdb_events.specs.FactText.{end_text}
use Rattle.mdb_events.specs.Words.{service_or_dash}
use Rattle.mdb_event_reading.specs.EndForms.{is_end, IsEndOfTypes}
use Rattle.mdb_event_reading.specs.EventTypes.{is_event, IsEventOfTypes}
use Rattle.mdb_lines.specs.LogText.{connection_text}
use Rattle.mdb_parts.specs.ErrorParts.{is_error, IsErrorOfTypes}
use Rattle.mdb_parts.specs.Types.{IsIdOfTypes}
use Rattle.mdb_event_reading.specs.SdamTexts.{IsSdamText}
use Rattle.mdb_entries.specs.declared.shown.ShownFact.{ShownFact}
use Rattle.mdb_entries.specs.declared.shown.ShownFact.TheVariants as fact

abbrev pub shown_fact : ShownFact → List ℕ
shown_fact (fact.Opened p a) = codes "Opened " ++ (decimal p ++ (codes " " ++ address a))
shown_fact (fact.Pool p e) = codes "Pool " ++ (decimal p ++ (codes " " ++ event_text e))
shown_fact (fact.Granted r p c) = codes "Granted " ++ (decimal r ++ (codes " " ++ connection_text p c))
shown_fact (fact.Ended r e) = codes "Ended " ++ (decimal r ++ (codes " " ++ end_text e))
shown_fact (fact.Raised p service e) = codes "Raised " ++ (decimal p ++ (codes " " ++ (service_or_dash service ++ (codes " " ++ error_text e))))
shown_fact (fact.Sdam text) = codes "Sdam " ++ text
shown_fact (fact.CheckNow a) = codes "CheckNow " ++ address a
shown_fact (fact.Cancel a) = codes "Cancel " ++ address a

-- facts, each behind a bar
abbrev pub shown_facts : List ShownFact → List ℕ
shown_facts facts = flat_map (λ f. codes " | " ++ shown_fact f) facts

-- addresses and errors keep their rules
abbrev pub is_fact : ShownFact → Bool
is_fact (fact.Opened p a) = is_address a
is_fact (fact.Pool p e) = is_event e
is_fact (fact.Granted r p c) = true
is_fact (fact.Ended r e) = is_end e
is_fact (fact.Raised p service e) = is_error e
is_fact (fact.Sdam text) = true
is_fact (fact.CheckNow a) = is_address a
is_fact (fact.Cancel a) = is_address a

abbrev pub IsFactOfTypes : ShownFact → Type 0
IsFactOfTypes (fact.Opened p a) = p < 2 ^ 32
IsFactOfTypes (fact.Pool p e) = (p < 2 ^ 32) × IsEventOfTypes e
IsFactOfTypes (fact.Granted r p c) = (r < 2 ^ 32) × (p < 2 ^ 32) × (c < 2 ^ 32)
IsFactOfTypes (fact.Ended r e) = (r < 2 ^ 32) × IsEndOfTypes e
IsFactOfTypes (fact.Raised p service e) = (p < 2 ^ 32) × IfSome service IsIdOfTypes × IsErrorOfTypes e
IsFactOfTypes (fact.Sdam text) = Unit {0}
IsFactOfTypes (fact.CheckNow a) = Unit {0}
IsFactOfTypes (fact.Cancel a) = Unit {0}

-- the text of an event of a server or of the topology is one of an event
abbrev pub TellsEvent : ShownFact → Type 0
TellsEvent (fact.Sdam text) = IsSdamText text
TellsEvent _ = Unit {0}

-- A fact that an entry shows.
pub record IsFact (f : ShownFact) : Type 0 where
  pub types : IsFactOfTypes f
  pub rules : is_fact f ≡ true
  pub event : TellsEvent f
