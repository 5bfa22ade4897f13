-- A line shows one entry.
use Rattle.std.proofs.Common.{◌≡◌, ℕ, List, [], ◌∷◌, ◌++◌, map, refl, sym, ap, ◌∙◌, subst, true, codes}
use Rattle.std.specs.List.{AllByRecursion}
use Rattle.std.proofs.lemmas.List.{append_cancel_left}
use Rattle.mdb_base.specs.AddressReading.{until, beyond}
use Rattle.mdb_lines.specs.LogText.{reply_text}
use Rattle.mdb_lines.specs.Script.{Spells}
use Rattle.mdb_lines.specs.Spelling.{spelling}
use Rattle.mdb_lines.proofs.Lines.{spells_one}
use Rattle.mdb_parts.specs.Reading.{lacks}
use Rattle.mdb_entries.specs.declared.shown.Shown.{Shown}
use Rattle.mdb_entries.specs.declared.shown.ShownFact.{ShownFact}
use Rattle.mdb_entries.specs.Facts.{shown_fact, IsFact}
use Rattle.mdb_entries.specs.Pieces.{barred}
use Rattle.mdb_entries.specs.Shows.{Shows}
use Rattle.mdb_entries.proofs.FactLemmas.{fact_no_bar}
use Rattle.mdb_entries.proofs.PieceLemmas.{piece_alone, piece_first, word_before}
use Rattle.mdb_entries.proofs.ReplyLemmas.{reply_no_bar}
use Rattle.mdb_entries.proofs.SameFacts.{fact_same}
use Rattle.mdb_entries.proofs.SameReplies.{reply_same}
use Rattle.mdb_entries.proofs.ShowLemmas.{line_barred}
use Rattle.mdb_entries.proofs.SpellingLemmas.{step_no_bar}

-- a text has one first part before its first bar
word_one : (text w v rest : List ℕ) (ws vs : List (List ℕ)) → rest ≡ beyond 124 text → lacks 124 w ≡ true → lacks 124 v ≡ true → text ≡ w ++ barred ws → text ≡ v ++ barred vs → w ≡ v
word_one text w v [] ws vs b lw lv ew ev = sym (piece_alone text w [] ws b refl lw ew).0 ∙ (piece_alone text v [] vs b refl lv ev).0
word_one text w v (c ∷ cs) ws vs b lw lv ew ev =
    let p = piece_first text w (c ∷ cs) (until 124 text) ws refl b (λ e. cc) lw ew in
    let q = piece_first text v (c ∷ cs) (until 124 text) vs refl b (λ e. cc) lv ev in
    word_before (until 124 text) w v p.0 q.0

parts_one : (w v : List ℕ) (ws vs : List (List ℕ)) → lacks 124 w ≡ true → lacks 124 v ≡ true → w ++ barred ws ≡ v ++ barred vs → (w ≡ v) × (barred ws ≡ barred vs)
parts_one w v ws vs lw lv e =
    let first : w ≡ v = word_one (w ++ barred ws) w v (beyond 124 (w ++ barred ws)) ws vs refl lw lv refl e in
    (first, append_cancel_left w (barred ws) (barred vs) (e ∙ ap (λ (x : List ℕ). x ++ barred vs) (sym first)))

facts_one : (fs gs : List ShownFact) → AllByRecursion IsFact fs → AllByRecursion IsFact gs → barred (map shown_fact fs) ≡ barred (map shown_fact gs) → fs ≡ gs
facts_one [] [] hf hg e = refl
facts_one [] (g ∷ gs) hf hg e = absurd (cc)
facts_one (f ∷ fs) [] hf hg e = absurd (cc)
facts_one (f ∷ fs) (g ∷ gs) hf hg e =
    let p = parts_one (shown_fact f) (shown_fact g) (map shown_fact fs) (map shown_fact gs) (fact_no_bar f hf.0) (fact_no_bar g hg.0) (append_cancel_left (codes " | ") _ _ e) in
    let first = fact_same f g hf.0 hg.0 p.0 in
    let more = facts_one fs gs hf.1 hg.1 p.1 in
    rw (first, more) refl

pub shows_one : (n : ℕ) (line : List ℕ) (d e : Shown) → Shows n line d → Shows n line e → d ≡ e
shows_one n line d e hd he =
    let df = map shown_fact d.facts in
    let ef = map shown_fact e.facts in
    let whole : spelling d.step ++ barred (reply_text d.reply ∷ df) ≡ spelling e.step ++ barred (reply_text e.reply ∷ ef) = sym (line_barred d) ∙ sym hd.text ∙ he.text ∙ line_barred e in
    let p = parts_one (spelling d.step) (spelling e.step) (reply_text d.reply ∷ df) (reply_text e.reply ∷ ef)
    (step_no_bar n (spelling d.step) d.step hd.parts.step) (step_no_bar n (spelling e.step) e.step he.parts.step) whole in
    let step = spells_one n (spelling e.step) d.step e.step (subst (λ (l : List ℕ). Spells n l d.step) p.0 hd.parts.step) he.parts.step in
    let q = parts_one (reply_text d.reply) (reply_text e.reply) df ef (reply_no_bar d.reply hd.parts.reply) (reply_no_bar e.reply he.parts.reply) (append_cancel_left (codes " | ") _ _ p.1) in
    let reply = reply_same d.reply e.reply hd.parts.reply he.parts.reply q.0 in
    let facts = facts_one d.facts e.facts hd.parts.facts he.parts.facts q.1 in
    let all : ◌≡◌ {A = Shown} (record { step = d.step; reply = d.reply; facts = d.facts }) e = rw (step, reply, facts) refl in
    all
