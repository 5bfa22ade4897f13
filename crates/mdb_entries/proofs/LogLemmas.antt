-- The text of an entry of a log is the line of what it shows.
use Rattle.std.proofs.Common.{◌≡◌, ℕ, List, [], ◌∷◌, ◌++◌, map, refl, sym, ap, ◌∙◌, append_assoc, codes}
use Rattle.mdb_events.specs.FactText.{fact_text}
use Rattle.mdb_events.specs.declared.fact.Fact.{Fact}
use Rattle.mdb_events.specs.declared.fact.Fact.TheVariants.{Opened, Pool, Granted, Ended, Raised, Sdam, CheckNow, Cancel}
use Rattle.mdb_log.specs.declared.log.Entry.{Entry}
use Rattle.mdb_lines.specs.LogText.{reply_text, facts_text, text_of_entry}
use Rattle.mdb_lines.specs.Spelling.{spelling}
use Rattle.mdb_entries.specs.Facts.{shown_fact, shown_facts}
use Rattle.mdb_entries.specs.OfLog.{shown_of_fact, shown_of}
use Rattle.mdb_entries.specs.Shows.{shown_text}

fact_same : (f : Fact) → fact_text f ≡ shown_fact (shown_of_fact f)
fact_same (Opened p a) = refl
fact_same (Pool p e) = refl
fact_same (Granted r p c) = refl
fact_same (Ended r e) = refl
fact_same (Raised p service e) = refl
fact_same (Sdam e) = refl
fact_same (CheckNow a) = refl
fact_same (Cancel a) = refl

facts_same : (fs : List Fact) → facts_text fs ≡ shown_facts (map shown_of_fact fs)
facts_same [] = refl
facts_same (f ∷ fs) = rw (fact_same f, facts_same fs) refl

pub entry_same : (e : Entry) → text_of_entry e ≡ shown_text (shown_of e) ++ codes "\n"
entry_same e =
    let facts = shown_facts (map shown_of_fact e.facts) in
    let behind = codes " | " ++ (reply_text e.reply ++ facts) in
    ap (λ (fs : List ℕ). spelling e.step ++ (codes " | " ++ (reply_text e.reply ++ (fs ++ codes "\n")))) (facts_same e.facts)
    ∙ ap (λ (t : List ℕ). spelling e.step ++ (codes " | " ++ t)) (sym (append_assoc (reply_text e.reply) facts (codes "\n")))
    ∙ sym (append_assoc (spelling e.step) behind (codes "\n"))
