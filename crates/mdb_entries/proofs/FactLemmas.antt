-- The text of a fact is read as that fact, and has no bar.
use Rattle.std.proofs.Common.{◌≡◌, ℕ, ◌<◌, ◌^◌, true, List, ◌++◌, Result, refl, decimal, codes}
use Rattle.mdb_base.specs.AddressReading.{until, beyond}
use Rattle.mdb_base.specs.ErrorText.{error_text}
use Rattle.mdb_base.specs.Spelling.{address}
use Rattle.mdb_events.specs.EventText.{event_text}
use Rattle.mdb_events.specs.FactText.{end_text}
use Rattle.mdb_events.specs.Words.{service_or_dash}
use Rattle.mdb_lines.specs.LogText.{connection_text}
use Rattle.mdb_event_reading.proofs.BarLemmas.{narrow_no_bar, address_no_bar, service_no_bar, error_no_bar, end_no_bar, event_no_bar}
use Rattle.mdb_event_reading.proofs.OfSdam.SdamLemmas.{sdam_no_bar}
use Rattle.mdb_parts.specs.declared.line_error.LineError.{LineError}
use Rattle.mdb_parts.specs.Reading.{lacks, Gives}
use Rattle.mdb_parts.proofs.CommaLemmas.{lacks_append}
use Rattle.mdb_entries.specs.declared.shown.ShownFact.{ShownFact}
use Rattle.mdb_entries.specs.declared.shown.ShownFact.TheVariants as fact
use Rattle.mdb_entries.specs.Facts.{shown_fact, IsFact}
use Rattle.mdb_entries.specs.FactForms.{fact_kind, pool_kind, other_kind, ReadsNamed}
use Rattle.mdb_entries.proofs.ReplyLemmas.{place_no_bar}

pub fact_read : (f : ShownFact) (r : Result ShownFact LineError) → IsFact f → ReadsNamed (shown_fact f) r → Gives f r
unfolding until beyond fact_kind pool_kind other_kind
fact_read (fact.Opened p a) r h reads = reads p a h.types h.rules refl
fact_read (fact.Pool p e) r h reads = reads p e h.types.0 h.types.1 h.rules refl
fact_read (fact.Granted party p c) r h reads = reads party p c h.types.0 h.types.1 h.types.2 refl
fact_read (fact.Ended request e) r h reads = reads request e h.types.0 h.types.1 h.rules refl
fact_read (fact.Raised p service e) r h reads = reads p service e h.types.0 h.types.1 h.types.2 h.rules refl
fact_read (fact.Sdam event) r h reads = reads event refl
fact_read (fact.CheckNow a) r h reads = reads a h.rules refl
fact_read (fact.Cancel a) r h reads = reads a h.rules refl

-- a number and what follows it
numbered : (n : ℕ) (rest : List ℕ) → n < 2 ^ 32 → lacks 124 rest ≡ true → lacks 124 (decimal n ++ rest) ≡ true
numbered n rest lt l = lacks_append 124 (decimal n) rest (narrow_no_bar n lt) l

pub fact_no_bar : (f : ShownFact) → IsFact f → lacks 124 (shown_fact f) ≡ true
fact_no_bar (fact.Opened p a) h = numbered p (codes " " ++ address a) h.types (address_no_bar a h.rules)
fact_no_bar (fact.Pool p e) h = numbered p (codes " " ++ event_text e) h.types.0 (event_no_bar e h.types.1 h.rules)
fact_no_bar (fact.Granted party p c) h = numbered party (codes " " ++ connection_text p c) h.types.0 (place_no_bar p c h.types.1 h.types.2)
fact_no_bar (fact.Ended request e) h = numbered request (codes " " ++ end_text e) h.types.0 (end_no_bar e h.types.1 h.rules)
fact_no_bar (fact.Raised p service e) h =
    let error = codes " " ++ error_text e in
    numbered p (codes " " ++ (service_or_dash service ++ error)) h.types.0
    (lacks_append 124 (service_or_dash service) error (service_no_bar service) (error_no_bar e h.types.2 h.rules))
fact_no_bar (fact.Sdam event) h = sdam_no_bar event h.event
fact_no_bar (fact.CheckNow a) h = address_no_bar a h.rules
fact_no_bar (fact.Cancel a) h = address_no_bar a h.rules
