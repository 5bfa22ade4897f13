-- A text is taken line by line.
use Rattle.std.proofs.Common.{◌≡◌, ℕ, ◌+◌, ◌==◌, eqb, inl, inr, false, Bool, suc, List, [], ◌∷◌, ◌++◌, length, map, codes, Option, Some, None, Result, Ok, Err, refl, sym, ap, ◌∙◌, subst, arith, append_assoc, length-append}
use Rattle.std.proofs.lemmas.Bool.{cases_Bool, eqb-true}
use Rattle.std.proofs.lemmas.List.{append-nil, append_cancel_right, map-append}
use Rattle.mdb_base.specs.AddressReading.{beyond}
use Rattle.mdb_base.specs.declared.out_of_memory.OutOfMemory.{OutOfMemory}
use Rattle.mdb_log.specs.declared.log.Entry.{Entry}
use Rattle.mdb_log.specs.declared.step.Act.{Act}
use Rattle.mdb_log.specs.declared.step.Act.TheVariants.{Open}
use Rattle.mdb_log.specs.Opening.{is_opening}
use Rattle.mdb_log.specs.PlainLegal.{LegalLog}
use Rattle.mdb_lines.specs.Grammar.{is_open}
use Rattle.mdb_lines.specs.Script.{lines_of}
use Rattle.mdb_lines.proofs.Loops.{line_not_last}
use Rattle.mdb_entries.specs.declared.shown.Shown.{Shown}
use Rattle.mdb_entries.specs.Shows.{shown_text, Shows}
use Rattle.mdb_judging.specs.Shown.{entry_of, entries_of}
use Rattle.mdb_judging.specs.Faults.{OpensOnce, IsEntryFault}
use Rattle.mdb_judging.specs.Audited.{Audits, TakenFor}
use Rattle.mdb_judging.specs.declared.auditor.Auditor.{Auditor}
use Rattle.mdb_judging.specs.declared.why.Why.{Why}
use Rattle.mdb_judging.specs.declared.why.Why.TheVariants.{Spelling, Opening, Grant, Place, Waiting}
use Rattle.mdb_audit.specs.LegalText.{IsLine, AreLines, ShowsFault, IsFault, IsVerdict}
use Rattle.mdb_audit.specs.LineTaking.{ShowsThis, LineTaken, Between}
use Rattle.mdb_audit.specs.declared.verdict.Verdict.TheVariants.{Legal, Bad}

-- a line that shows an entry, with its newline
is-line : (n : ℕ) (line : List ℕ) (e : Shown) → Shows n line e → IsLine n (line ++ codes "\n") e
is-line n line e s = record {
  text = ap (λ (t : List ℕ). t ++ codes "\n") s.text;
  shows = subst (λ (t : List ℕ). Shows n t e) s.text s;
}

-- a line that shows no entry
pub no-entry : (before : List Shown) (n : ℕ) (line : List ℕ) → ((e : Shown) → Shows n line e → ⊥) → IsFault Spelling n before (line ++ codes "\n")
no-entry before n line none e l = none e (subst (λ (t : List ℕ). Shows n t e) (sym (append_cancel_right line (shown_text e) (codes "\n") l.text)) l.shows)

-- a line without a newline
no-newline : (before : List Shown) (n : ℕ) (line : List ℕ) → beyond 10 line ≡ [] → IsFault Spelling n before line
no-newline before n line none e l = line_not_last (shown_text e) (subst (λ (t : List ℕ). beyond 10 t ≡ []) l.text none)

opens-same : (act : Act) → is_opening act ≡ is_open act
opens-same (Open o) = refl
opens-same _ = refl

-- only the first line opens
opens-once : (before : List Shown) (n : ℕ) (line : List ℕ) (e : Shown) → n ≡ length before + 1 → Shows n line e → OpensOnce (entries_of before) (entry_of e)
opens-once [] n line e at s = tt
opens-once (x ∷ xs) n line e at s = opens-same e.step.act ∙ s.parts.step.place ∙ later n (length xs) at
  where
    later : (n k : ℕ) → n ≡ suc k + 1 → eqb n 1 ≡ false
    later n k e = elim (cases_Bool (eqb n 1)) [
      | inl same ↦ absurd (omega (arith, e, eqb-true n 1 same))
      | inr other ↦ other
    ]

entries-push : (before : List Shown) (e : Shown) → entries_of (before ++ e ∷ []) ≡ entries_of before ++ entry_of e ∷ []
entries-push before e = map-append entry_of before (e ∷ [])

shows-fault : (why : Why) (before : List Shown) (n : ℕ) (line : List ℕ) (e : Shown) → Shows n line e → IsEntryFault why (entries_of before) (entry_of e) → IsFault why n before (line ++ codes "\n")
shows-fault Spelling before n line e s f = absurd f
shows-fault Opening before n line e s f = (e, is-line n line e s, f)
shows-fault Grant before n line e s f = (e, is-line n line e s, f)
shows-fault Place before n line e s f = (e, is-line n line e s, f)
shows-fault Waiting before n line e s f = (e, is-line n line e s, f)

taken-so : (before : List Shown) (n : ℕ) (line : List ℕ) (e : Shown) (a : Auditor) (r : Result (Option Why) OutOfMemory) → Shows n line e → TakenFor (entries_of before) (entry_of e) a r → LineTaken before n (line ++ codes "\n") a r
taken-so before n line e a (Ok None) s t = (e, is-line n line e s, subst LegalLog (sym (entries-push before e)) t.0, subst (λ (es : List Entry). Audits es a) (sym (entries-push before e)) t.1)
taken-so before n line e a (Ok (Some why)) s t = shows-fault why before n line e s t
taken-so before n line e a (Err x) s t = tt

-- What the auditor says of an entry is what is said of its line.
pub line-taken : (n : ℕ) (line : List ℕ) (x : Option Shown) (e : Shown) (old new : Auditor) (r : Result (Option Why) OutOfMemory) → ShowsThis n line x → x ≡ Some e
    → ((before : List Entry) → LegalLog before → OpensOnce before (entry_of e) → Audits before old → TakenFor before (entry_of e) new r)
    → (before : List Shown) → LegalLog (entries_of before) → Audits (entries_of before) old → n ≡ length before + 1 → LineTaken before n (line ++ codes "\n") new r
line-taken n line x e old new r found is take before legal audits at =
    let s : Shows n line e = subst (ShowsThis n line) is found in
    taken-so before n line e new r s (take (entries_of before) legal (opens-once before n line e at s) audits)

-- The loop over the lines.

pub between-start : (text : List ℕ) (a : Auditor) → Audits [] a → Between text text 0 a
between-start text a audits = record { front = []; entries = []; all = refl; before = tt; legal = tt; number = refl; audits = audits }

lines-more : (n : ℕ) (front : List (List ℕ)) (entries : List Shown) (line : List ℕ) (e : Shown) → AreLines n front entries → IsLine (length entries + n) line e → AreLines n (front ++ line ∷ []) (entries ++ e ∷ [])
lines-more n [] [] line e are is = (subst (λ (k : ℕ). IsLine k line e) (omega arith) is, tt)
lines-more n [] (x ∷ xs) line e are is = absurd are
lines-more n (l ∷ ls) [] line e are is = absurd are
lines-more n (l ∷ ls) (x ∷ xs) line e are is = (are.0, lines-more (n + 1) ls xs line e are.1 (subst (λ (k : ℕ). IsLine k line e) (omega arith) is))

-- one more line, and the log goes on
pub line-good : (text rest line more : List ℕ) (n k : ℕ) (x : Option Why) (old new : Auditor) → k ≡ n + 1 → lines_of rest ≡ (line ++ codes "\n") ∷ lines_of more → Between text rest n old → x ≡ None
    → ((before : List Shown) → LegalLog (entries_of before) → Audits (entries_of before) old → k ≡ length before + 1 → LineTaken before k (line ++ codes "\n") new (Ok x)) → Between text more k new
line-good text rest line more n k x old new at cut b is take =
    let t = subst (λ (y : Option Why). LineTaken b.entries k (line ++ codes "\n") new (Ok y)) is (take b.entries b.legal b.audits (at ∙ ap (λ m. m + 1) b.number)) in
    record {
      front = b.front ++ (line ++ codes "\n") ∷ [];
      entries = b.entries ++ t.0 ∷ [];
      all = b.all ∙ ap (λ (ls : List (List ℕ)). b.front ++ ls) cut ∙ sym (append_assoc b.front ((line ++ codes "\n") ∷ []) (lines_of more));
      before = lines-more 1 b.front b.entries (line ++ codes "\n") t.0 b.before (subst (λ (m : ℕ). IsLine m (line ++ codes "\n") t.0) (at ∙ ap (λ m. m + 1) b.number) t.1);
      legal = t.2;
      number = at ∙ ap (λ m. m + 1) b.number ∙ sym (length-append b.entries (t.0 ∷ []));
      audits = t.3;
    }

bad-here : (text rest line : List ℕ) (behind : List (List ℕ)) (n k : ℕ) (why : Why) (a : Auditor) → k ≡ n + 1 → lines_of rest ≡ line ∷ behind → (b : Between text rest n a) → IsFault why k b.entries line → IsVerdict text (Bad k why)
bad-here text rest line behind n k why a at cut b fault = record {
  front = b.front;
  line = line;
  behind = behind;
  all = b.all ∙ ap (λ (ls : List (List ℕ)). b.front ++ ls) cut;
  entries = b.entries;
  before = b.before;
  legal = b.legal;
  number = at ∙ ap (λ m. m + 1) b.number;
  fault = fault;
}

-- one more line, which is at fault
pub line-bad : (text rest line more : List ℕ) (n k : ℕ) (x : Option Why) (why : Why) (old new : Auditor) → k ≡ n + 1 → lines_of rest ≡ (line ++ codes "\n") ∷ lines_of more → Between text rest n old → x ≡ Some why
    → ((before : List Shown) → LegalLog (entries_of before) → Audits (entries_of before) old → k ≡ length before + 1 → LineTaken before k (line ++ codes "\n") new (Ok x)) → IsVerdict text (Bad k why)
line-bad text rest line more n k x why old new at cut b is take =
    bad-here text rest (line ++ codes "\n") (lines_of more) n k why old at cut b (subst (λ (y : Option Why). LineTaken b.entries k (line ++ codes "\n") new (Ok y)) is (take b.entries b.legal b.audits (at ∙ ap (λ m. m + 1) b.number)))

-- the last line, which has no newline
pub line-cut : (text rest : List ℕ) (n k : ℕ) (a : Auditor) → k ≡ n + 1 → lines_of rest ≡ rest ∷ [] → beyond 10 rest ≡ [] → Between text rest n a → IsVerdict text (Bad k Spelling)
line-cut text rest n k a at cut none b = bad-here text rest rest [] n k Spelling a at cut b (no-newline b.entries k rest none)

-- all lines were taken
pub between-end : (text rest : List ℕ) (n : ℕ) (a : Auditor) → length rest ≡ 0 → Between text rest n a → IsVerdict text (Legal n)
unfolding lines_of
between-end text [] n a none b = record { entries = b.entries; all = subst (λ (ls : List (List ℕ)). AreLines 1 ls b.entries) (sym (b.all ∙ append-nil b.front)) b.before; count = b.number; legal = b.legal }
between-end text (x ∷ xs) n a none b = absurd (omega arith)
