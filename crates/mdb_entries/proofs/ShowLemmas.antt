-- The parts of an entry's line are read one behind the other.
use Rattle.std.proofs.Common.{◌≡◌, ℕ, List, [], ◌∷◌, ◌++◌, map, drop, refl, sym, ap, ◌∙◌, append_assoc, append-nil, codes}
use Rattle.std.specs.List.{AllByRecursion}
use Rattle.mdb_entries.specs.declared.shown.ShownFact.{ShownFact}
use Rattle.mdb_lines.specs.Spelling.{spelling}
use Rattle.mdb_lines.specs.LogText.{reply_text}
use Rattle.mdb_entries.specs.declared.shown.Shown.{Shown}
use Rattle.mdb_entries.specs.Shows.{shown_text}
use Rattle.mdb_entries.specs.Facts.{shown_fact, shown_facts, IsFact}
use Rattle.mdb_entries.specs.Pieces.{barred}

-- the line of these facts, behind what was read
abbrev pub facts_line : List ShownFact → List ℕ
facts_line fs = drop 1 (barred (map shown_fact fs))

-- What is read of these facts: those that were found, and the text of the others.
pub record Leaves (facts found : List ShownFact) (rest : List ℕ) : Type 0 where
  pub others : List ShownFact
  pub all : facts ≡ found ++ others
  pub text : rest ≡ facts_line others
  pub own : AllByRecursion IsFact others

pub leaves_all : (facts : List ShownFact) (text : List ℕ) → AllByRecursion IsFact facts → text ≡ facts_line facts → Leaves facts [] text
leaves_all facts text own e = record { others = facts; all = refl; text = e; own = own }

pub record Takes (facts found : List ShownFact) (rest : List ℕ) : Type 0 where
  pub taken : ShownFact
  pub later : List ShownFact
  pub all : facts ≡ found ++ taken ∷ later
  pub fact : IsFact taken
  pub own : AllByRecursion IsFact later
  pub text : rest ≡ drop 1 (barred (shown_fact taken ∷ map shown_fact later))

pub leaves_one : (facts found : List ShownFact) (rest : List ℕ) → Leaves facts found rest → (rest ≡ [] → ⊥) → Takes facts found rest
leaves_one facts found rest l some = by l.others l.all l.text l.own
  where
    by : (others : List ShownFact) → facts ≡ found ++ others → rest ≡ facts_line others → AllByRecursion IsFact others → Takes facts found rest
    by [] all text own = absurd (some text)
    by (f ∷ later) all text own = record { taken = f; later = later; all = all; fact = own.0; own = own.1; text = text }

pub leaves_next : (facts found : List ShownFact) (rest more : List ℕ) (t : Takes facts found rest) → more ≡ facts_line t.later → Leaves facts (found ++ t.taken ∷ []) more
leaves_next facts found rest more t e = record {
  others = t.later;
  all = t.all ∙ sym (append_assoc found (t.taken ∷ []) t.later);
  text = e;
  own = t.own;
}

pub leaves_none : (facts found : List ShownFact) (rest : List ℕ) → Leaves facts found rest → rest ≡ [] → found ≡ facts
leaves_none facts found rest l none = by l.others l.all l.text
  where
    by : (others : List ShownFact) → facts ≡ found ++ others → rest ≡ facts_line others → found ≡ facts
    by [] all text = sym (append-nil found) ∙ sym all
    by (f ∷ later) all text = absurd (let e : facts_line (f ∷ later) ≡ [] = sym text ∙ none in cc)

pub all_more : (found : List ShownFact) (f : ShownFact) → AllByRecursion IsFact found → IsFact f → AllByRecursion IsFact (found ++ f ∷ [])
all_more [] f own h = (h, tt)
all_more (x ∷ xs) f own h = (own.0, all_more xs f own.1 h)

-- the line of an entry, as pieces with bars between

facts_barred : (fs : List ShownFact) → shown_facts fs ≡ barred (map shown_fact fs)
facts_barred [] = refl
facts_barred (f ∷ fs) = ap (λ (rest : List ℕ). codes " | " ++ (shown_fact f ++ rest)) (facts_barred fs)

pub line_barred : (e : Shown) → shown_text e ≡ spelling e.step ++ barred (reply_text e.reply ∷ map shown_fact e.facts)
line_barred e = ap (λ (rest : List ℕ). spelling e.step ++ (codes " | " ++ (reply_text e.reply ++ rest))) (facts_barred e.facts)
