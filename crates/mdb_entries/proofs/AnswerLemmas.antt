-- The text of a log with plain answers shows its entries.
use Rattle.std.proofs.Common.{◌≡◌, ℕ, ◌+◌, true, false, eqb, leb, List, [], ◌∷◌, ◌++◌, map, refl, ap, ◌∙◌, arith, append_assoc, codes, ◌&&◌}
use Rattle.std.specs.List.{AllByRecursion, list_all}
use Rattle.std.proofs.lemmas.Bool.{and_parts, ne_eqb, leb-true}
use Rattle.mdb_event_reading.proofs.PrintLemmas.{prints, both_print}
use Rattle.mdb_log.specs.declared.log.Entry.{Entry}
use Rattle.mdb_lines.specs.LogText.{reply_text, text_of}
use Rattle.mdb_lines.specs.Script.{Spells, AreAllowed, lines_of}
use Rattle.mdb_lines.specs.Spelling.{spelling}
use Rattle.mdb_entries.specs.Facts.{shown_facts}
use Rattle.mdb_entries.specs.OfLog.{shown_of_fact, shown_of}
use Rattle.mdb_entries.specs.Shows.{shown_text, Shows}
use Rattle.mdb_entries.specs.Answers.{is_plain_reply, is_plain_fact, has_plain_answer, IsTyped, IsPlainLog, shown_line, ShowAll, TextShows}
use Rattle.mdb_entries.proofs.LogLemmas.{entry_same}
use Rattle.mdb_entries.proofs.PlainLemmas.{reply_rules, facts_show}
use Rattle.mdb_entries.proofs.PlainPrints.{reply_prints, facts_print}

-- an entry's line shows it
pub entry_shows : (n : ℕ) (e : Entry) → Spells n (spelling e.step) e.step → IsTyped e → has_plain_answer e ≡ true → Shows n (shown_text (shown_of e)) (shown_of e)
entry_shows n e step types h =
    let facts = shown_facts (map shown_of_fact e.facts) in
    let p = and_parts (is_plain_reply e.reply) (list_all is_plain_fact e.facts) h in
    record {
      parts = record { step = step; reply = record { types = types.reply; rules = reply_rules e.reply p.0 }; facts = facts_show e.facts types.facts p.1 };
      printable = both_print (spelling e.step) (codes " | " ++ (reply_text e.reply ++ facts)) step.printable
          (both_print (reply_text e.reply) facts (reply_prints e.reply types.reply p.0) (facts_print e.facts types.facts p.1));
      text = refl;
    }

-- lines

line_first : (line rest : List ℕ) → prints line ≡ true → lines_of (line ++ 10 ∷ rest) ≡ (line ++ 10 ∷ []) ∷ lines_of rest
unfolding lines_of
line_first [] rest h = refl
line_first (b ∷ bs) rest h =
    let p = and_parts (leb 32 b && leb b 126) (prints bs) h in
    let low = leb-true 32 b (and_parts (leb 32 b) (leb b 126) p.0).0 in
    let other : eqb b 10 ≡ false = ne_eqb b 10 (λ e. omega (arith, low)) in
    rw (other, line_first bs rest p.1) refl

text_first : (e : Entry) (es : List Entry) → text_of (e ∷ es) ≡ shown_text (shown_of e) ++ 10 ∷ text_of es
text_first e es = ap (λ (t : List ℕ). t ++ text_of es) (entry_same e) ∙ append_assoc (shown_text (shown_of e)) (codes "\n") (text_of es)

entries_show : (n : ℕ) (log : List Entry) → AreAllowed n (map (λ e. e.step) log) → AllByRecursion IsTyped log → list_all has_plain_answer log ≡ true → ShowAll n log
entries_show n [] steps types h = tt
entries_show n (e ∷ es) steps types h =
    let p = and_parts (has_plain_answer e) (list_all has_plain_answer es) h in
    (entry_shows n e steps.0 types.0 p.0, entries_show (n + 1) es steps.1 types.1 p.1)

entries_lines : (n : ℕ) (log : List Entry) → ShowAll n log → lines_of (text_of log) ≡ map shown_line log
unfolding lines_of
entries_lines n [] h = refl
entries_lines n (e ∷ es) h =
    ap lines_of (text_first e es) ∙ line_first (shown_text (shown_of e)) (text_of es) h.0.printable ∙ ap (λ (ls : List (List ℕ)). shown_line e ∷ ls) (entries_lines (n + 1) es h.1)

pub log_shows : (log : List Entry) → IsPlainLog log → TextShows log
log_shows log h =
    let shows = entries_show 1 log h.steps h.types h.rules in
    record { lines = entries_lines 1 log shows; shows = shows }
