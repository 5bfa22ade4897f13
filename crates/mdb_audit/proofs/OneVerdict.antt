-- A text has one verdict.
use Rattle.std.proofs.Common.{◌≡◌, ℕ, ◌+◌, ◌⊎◌, inl, inr, List, [], ◌∷◌, ◌++◌, length, map, codes, refl, sym, ap, ◌∙◌, subst, arith}
use Rattle.std.proofs.lemmas.List.{append_cancel_right, map-append}
use Rattle.mdb_log.specs.declared.log.Entry.{Entry}
use Rattle.mdb_log.specs.declared.options.PoolOptions.{PoolOptions}
use Rattle.mdb_log.specs.declared.step.Act.{Act}
use Rattle.mdb_log.specs.declared.step.Act.TheVariants.{Open}
use Rattle.mdb_log.specs.History.{Item}
use Rattle.mdb_log.specs.Opening.{pool_options}
use Rattle.mdb_log.specs.PlainLegal.{with_entry, IsFairAnswer, OnePlace, NoneLeftWaiting, IsLegal, IsOpened, LegalLog}
use Rattle.mdb_lines.specs.Script.{lines_of}
use Rattle.mdb_entries.specs.declared.shown.Shown.{Shown}
use Rattle.mdb_entries.specs.Shows.{shown_text, Shows}
use Rattle.mdb_entries.proofs.OneEntry.{shows_one}
use Rattle.mdb_judging.specs.Shown.{entry_of, entries_of}
use Rattle.mdb_judging.specs.Faults.{after_entries, OpensWell, OpensRight, OpensWith, HasOptions, IsEntryFault}
use Rattle.mdb_judging.specs.declared.why.Why.{Why}
use Rattle.mdb_judging.specs.declared.why.Why.TheVariants.{Spelling, Opening, Grant, Place, Waiting}
use Rattle.mdb_audit.specs.LegalText.{IsLine, AreLines, ShowsFault, IsFault, IsVerdict}
use Rattle.mdb_audit.specs.declared.verdict.Verdict.{Verdict}
use Rattle.mdb_audit.specs.declared.verdict.Verdict.TheVariants.{Legal, Bad}

-- An entry of a legal log is at no fault.

record Faultless (before : List Entry) (e : Entry) : Type 0 where
  opens : OpensRight before e
  fair : IsFairAnswer (after_entries [] before) e.step e.reply e.facts
  placed : OnePlace (with_entry (after_entries [] before) e)
  none : (o : PoolOptions) → HasOptions (before ++ e ∷ []) o → NoneLeftWaiting o (with_entry (after_entries [] before) e)

legal-here : (o : PoolOptions) (h : List Item) (before : List Entry) (e : Entry) (more : List Entry) → IsLegal o h (before ++ e ∷ more)
    → IsFairAnswer (after_entries h before) e.step e.reply e.facts × OnePlace (with_entry (after_entries h before) e) × NoneLeftWaiting o (with_entry (after_entries h before) e)
legal-here o h [] e more l = (l.0, l.1, l.2)
legal-here o h (b ∷ before) e more l = legal-here o (with_entry h b) before e more l.3

opened-with : (act : Act) (first : Entry) (log : List Entry) → IsOpened act first log → (o : PoolOptions) × OpensWith act o × OpensWell act first × IsLegal o [] (first ∷ log)
opened-with (Open o) first log l = (pool_options o, refl, (l.0, l.1), l.3)
opened-with _ first log l = absurd l

one-options : (act : Act) (o p : PoolOptions) → OpensWith act o → OpensWith act p → o ≡ p
one-options (Open options) o p e f = e ∙ sym f
one-options _ o p e f = absurd e

faultless : (before : List Entry) (e : Entry) (more : List Entry) → LegalLog (before ++ e ∷ more) → Faultless before e
faultless [] e more l =
    let opened = opened-with e.step.act e more l in
    let here = legal-here opened.0 [] [] e more opened.3 in
    record {
      opens = opened.2;
      fair = here.0;
      placed = here.1;
      none = λ o own. subst (λ (p : PoolOptions). NoneLeftWaiting p (with_entry [] e)) (one-options e.step.act opened.0 o opened.1 own) here.2;
    }
faultless (b ∷ before) e more l =
    let opened = opened-with b.step.act b (before ++ e ∷ more) l in
    let here = legal-here opened.0 [] (b ∷ before) e more opened.3 in
    record {
      opens = tt;
      fair = here.0;
      placed = here.1;
      none = λ o own. subst (λ (p : PoolOptions). NoneLeftWaiting p (with_entry (after_entries [] (b ∷ before)) e)) (one-options b.step.act opened.0 o opened.1 own) here.2;
    }

no-fault : (why : Why) (before : List Entry) (e : Entry) → Faultless before e → IsEntryFault why before e → ⊥
no-fault Spelling before e l f = f
no-fault Opening before e l f = f l.opens
no-fault Grant before e l f = f.unfair l.fair
no-fault Place before e l f = f.misplaced l.placed
no-fault Waiting before e l f = f.left (l.none f.options f.own)

-- An entry is at fault for one cause.
one-cause : (v w : Why) (before : List Entry) (e : Entry) → IsEntryFault v before e → IsEntryFault w before e → v ≡ w
one-cause Spelling w before e f g = absurd f
one-cause v Spelling before e f g = absurd g
one-cause Opening Opening before e f g = refl
one-cause Opening Grant before e f g = absurd (f g.opens)
one-cause Opening Place before e f g = absurd (f g.opens)
one-cause Opening Waiting before e f g = absurd (f g.opens)
one-cause Grant Opening before e f g = absurd (g f.opens)
one-cause Grant Grant before e f g = refl
one-cause Grant Place before e f g = absurd (f.unfair g.fair)
one-cause Grant Waiting before e f g = absurd (f.unfair g.fair)
one-cause Place Opening before e f g = absurd (g f.opens)
one-cause Place Grant before e f g = absurd (g.unfair f.fair)
one-cause Place Place before e f g = refl
one-cause Place Waiting before e f g = absurd (f.misplaced g.placed)
one-cause Waiting Opening before e f g = absurd (g f.opens)
one-cause Waiting Grant before e f g = absurd (g.unfair f.fair)
one-cause Waiting Place before e f g = absurd (g.misplaced f.placed)
one-cause Waiting Waiting before e f g = refl

-- A line shows one entry.
line-one : (n : ℕ) (line : List ℕ) (d e : Shown) → IsLine n line d → IsLine n line e → d ≡ e
line-one n line d e p q = shows_one n (shown_text d) d e p.shows (subst (λ (t : List ℕ). Shows n t e) (append_cancel_right (shown_text e) (shown_text d) (codes "\n") (sym q.text ∙ p.text)) q.shows)

-- the fault of a line: it shows no entry, or the entry is at fault
fault-view : (why : Why) (n : ℕ) (before : List Shown) (line : List ℕ) → IsFault why n before line → (why ≡ Spelling) ⊎ ShowsFault why n before line
fault-view Spelling n before line f = inl refl
fault-view Opening n before line f = inr f
fault-view Grant n before line f = inr f
fault-view Place n before line f = inr f
fault-view Waiting n before line f = inr f

spelled-not : (why : Why) (n : ℕ) (before : List Shown) (line : List ℕ) (e : Shown) → IsLine n line e → IsFault why n before line → ShowsFault why n before line
spelled-not Spelling n before line e is f = absurd (f e is)
spelled-not Opening n before line e is f = f
spelled-not Grant n before line e is f = f
spelled-not Place n before line e is f = f
spelled-not Waiting n before line e is f = f

one-fault : (v w : Why) (n : ℕ) (before : List Shown) (line : List ℕ) → IsFault v n before line → IsFault w n before line → v ≡ w
one-fault v w n before line f g = by (fault-view v n before line f) (fault-view w n before line g)
  where
    both : ShowsFault v n before line → ShowsFault w n before line → v ≡ w
    both (d, p, x) (e, q, y) = one-cause v w (entries_of before) (entry_of d) x (subst (λ (s : Shown). IsEntryFault w (entries_of before) (entry_of s)) (sym (line-one n line d e p q)) y)

    by : (v ≡ Spelling) ⊎ ShowsFault v n before line → (w ≡ Spelling) ⊎ ShowsFault w n before line → v ≡ w
    by (inl a) (inl b) = a ∙ sym b
    by (inl a) (inr (e, q, y)) = both (spelled-not v n before line e q f) (e, q, y)
    by (inr (d, p, x)) other = both (d, p, x) (spelled-not w n before line d p g)

-- the entries go on behind these, with one that the line shows
record GoesOn (n : ℕ) (es : List Shown) (line : List ℕ) (ds : List Shown) : Type 0 where
  e : Shown
  more : List Shown
  all : ds ≡ es ++ e ∷ more
  is : IsLine (length es + n) line e

at-first : (n : ℕ) (line : List ℕ) (e : Shown) → IsLine n line e → IsLine (length {A = Shown} [] + n) line e
at-first n line e is = subst (λ (k : ℕ). IsLine k line e) (omega arith) is

goes-on : (n : ℕ) (d : Shown) (es : List Shown) (line : List ℕ) (ds : List Shown) → GoesOn (n + 1) es line ds → GoesOn n (d ∷ es) line (d ∷ ds)
goes-on n d es line ds g = record { e = g.e; more = g.more; all = ap (λ (xs : List Shown). d ∷ xs) g.all; is = subst (λ (k : ℕ). IsLine k line g.e) (omega arith) g.is }

-- a line behind which the entries go on, legal, is at no fault
no-line-fault : (es : List Shown) (line : List ℕ) (ds : List Shown) (n : ℕ) (why : Why) → n ≡ length es + 1 → GoesOn 1 es line ds → LegalLog (entries_of ds) → IsFault why n es line → ⊥
no-line-fault es line ds n why at g legal f =
    let is : IsLine n line g.e = subst (λ (k : ℕ). IsLine k line g.e) (sym at) g.is in
    let shows = spelled-not why n es line g.e is f in
    let fault = subst (λ (s : Shown). IsEntryFault why (entries_of es) (entry_of s)) (line-one n line shows.0 g.e shows.1 is) shows.2 in
    let whole = subst LegalLog (ap entries_of g.all ∙ map-append entry_of es (g.e ∷ g.more)) legal in
    no-fault why (entries_of es) (entry_of g.e) (faultless (entries_of es) (entry_of g.e) (entries_of g.more) whole) fault

same-head : (a b : List ℕ) (ks ls : List (List ℕ)) → a ∷ ks ≡ b ∷ ls → a ≡ b
same-head a b ks ls e = cc

same-tail : (a b : List ℕ) (ks ls : List (List ℕ)) → a ∷ ks ≡ b ∷ ls → ks ≡ ls
same-tail a b ks ls e = cc

-- lines that show entries, of which the first show these
all-go-on : (n : ℕ) (front : List (List ℕ)) (line : List ℕ) (behind : List (List ℕ)) (es ds : List Shown) → AreLines n (front ++ line ∷ behind) ds → AreLines n front es → GoesOn n es line ds
all-go-on n [] line behind [] [] all are = absurd all
all-go-on n [] line behind [] (d ∷ ds) all are = record { e = d; more = ds; all = refl; is = at-first n line d all.0 }
all-go-on n [] line behind (e ∷ es) ds all are = absurd are
all-go-on n (x ∷ front) line behind [] ds all are = absurd are
all-go-on n (x ∷ front) line behind (e ∷ es) [] all are = absurd all
all-go-on n (x ∷ front) line behind (e ∷ es) (d ∷ ds) all are = subst (λ (s : Shown). GoesOn n (e ∷ es) line (s ∷ ds)) (line-one n x e d are.0 all.0) (goes-on n e es line ds (all-go-on (n + 1) front line behind es ds all.1 are.1))

-- two fronts of the same lines
record SameFront (es ds : List Shown) (l k : List ℕ) : Type 0 where
  entries : es ≡ ds
  line : l ≡ k

abbrev Fronts : ℕ → List Shown → List Shown → List ℕ → List ℕ → Type 0
Fronts n es ds l k = SameFront es ds l k ⊎ (GoesOn n es l ds ⊎ GoesOn n ds k es)

fronts-on : (n : ℕ) (e d : Shown) (es ds : List Shown) (l k : List ℕ) → e ≡ d → Fronts (n + 1) es ds l k → Fronts n (e ∷ es) (d ∷ ds) l k
fronts-on n e d es ds l k same f = subst (λ (s : Shown). Fronts n (e ∷ es) (s ∷ ds) l k) same (by f)
  where
    by : Fronts (n + 1) es ds l k → Fronts n (e ∷ es) (e ∷ ds) l k
    by (inl s) = inl (record { entries = ap (λ (xs : List Shown). e ∷ xs) s.entries; line = s.line })
    by (inr (inl g)) = inr (inl (goes-on n e es l ds g))
    by (inr (inr g)) = inr (inr (goes-on n e ds k es g))

fronts : (n : ℕ) (front head : List (List ℕ)) (l k : List ℕ) (behind rest : List (List ℕ)) (es ds : List Shown) → front ++ l ∷ behind ≡ head ++ k ∷ rest → AreLines n front es → AreLines n head ds → Fronts n es ds l k
fronts n [] [] l k behind rest [] [] e a b = inl (record { entries = refl; line = same-head l k behind rest e })
fronts n [] [] l k behind rest (x ∷ es) ds e a b = absurd a
fronts n [] [] l k behind rest [] (y ∷ ds) e a b = absurd b
fronts n [] (y ∷ head) l k behind rest [] [] e a b = absurd b
fronts n [] (y ∷ head) l k behind rest (x ∷ es) ds e a b = absurd a
fronts n [] (y ∷ head) l k behind rest [] (d ∷ ds) e a b = inr (inl (record { e = d; more = ds; all = refl; is = at-first n l d (subst (λ (t : List ℕ). IsLine n t d) (sym (same-head l y behind (head ++ k ∷ rest) e)) b.0) }))
fronts n (x ∷ front) [] l k behind rest [] ds e a b = absurd a
fronts n (x ∷ front) [] l k behind rest (c ∷ es) (d ∷ ds) e a b = absurd b
fronts n (x ∷ front) [] l k behind rest (c ∷ es) [] e a b = inr (inr (record { e = c; more = es; all = refl; is = at-first n k c (subst (λ (t : List ℕ). IsLine n t c) (same-head x k (front ++ l ∷ behind) rest e) a.0) }))
fronts n (x ∷ front) (y ∷ head) l k behind rest [] ds e a b = absurd a
fronts n (x ∷ front) (y ∷ head) l k behind rest (c ∷ es) [] e a b = absurd b
fronts n (x ∷ front) (y ∷ head) l k behind rest (c ∷ es) (d ∷ ds) e a b =
    let here = subst (λ (t : List ℕ). IsLine n t c) (same-head x y (front ++ l ∷ behind) (head ++ k ∷ rest) e) a.0 in
    fronts-on n c d es ds l k (line-one n y c d here b.0) (fronts (n + 1) front head l k behind rest es ds (same-tail x y (front ++ l ∷ behind) (head ++ k ∷ rest) e) a.1 b.1)

lines-one : (n : ℕ) (lines : List (List ℕ)) (es ds : List Shown) → AreLines n lines es → AreLines n lines ds → es ≡ ds
lines-one n [] [] [] a b = refl
lines-one n [] (e ∷ es) ds a b = absurd a
lines-one n [] [] (d ∷ ds) a b = absurd b
lines-one n (l ∷ lines) [] ds a b = absurd a
lines-one n (l ∷ lines) (e ∷ es) [] a b = absurd b
lines-one n (l ∷ lines) (e ∷ es) (d ∷ ds) a b = (λ i. line-one n l e d a.0 b.0 i ∷ lines-one (n + 1) lines es ds a.1 b.1 i)

legal-not-bad : (text : List ℕ) (n m : ℕ) (why : Why) → IsVerdict text (Legal n) → IsVerdict text (Bad m why) → ⊥
legal-not-bad text n m why v w = no-line-fault w.entries w.line v.entries m why w.number (all-go-on 1 w.front w.line w.behind w.entries v.entries (subst (λ (ls : List (List ℕ)). AreLines 1 ls v.entries) w.all v.all) w.before) v.legal w.fault

one-bad : (text : List ℕ) (n m : ℕ) (v w : Why) → IsVerdict text (Bad n v) → IsVerdict text (Bad m w) → Bad n v ≡ Bad m w
one-bad text n m v w p q = by (fronts 1 p.front q.front p.line q.line p.behind q.behind p.entries q.entries (sym p.all ∙ q.all) p.before q.before)
  where
    same : (k : ℕ) → n ≡ k → m ≡ k → (es : List Shown) → p.entries ≡ es → q.entries ≡ es → (line : List ℕ) → p.line ≡ line → q.line ≡ line → Bad n v ≡ Bad m w
    same k a b es c d line f g =
        let first : IsFault v k es line = subst (λ (t : List ℕ). IsFault v k es t) f (subst (λ (xs : List Shown). IsFault v k xs p.line) c (subst (λ (j : ℕ). IsFault v j p.entries p.line) a p.fault)) in
        let other : IsFault w k es line = subst (λ (t : List ℕ). IsFault w k es t) g (subst (λ (xs : List Shown). IsFault w k xs q.line) d (subst (λ (j : ℕ). IsFault w j q.entries q.line) b q.fault)) in
        ap (λ (j : ℕ). Bad j v) (a ∙ sym b) ∙ ap (λ (x : Why). Bad m x) (one-fault v w k es line first other)

    by : Fronts 1 p.entries q.entries p.line q.line → Bad n v ≡ Bad m w
    by (inl s) = same m (p.number ∙ ap (λ (xs : List Shown). length xs + 1) s.entries ∙ sym q.number) refl q.entries s.entries refl q.line s.line refl
    by (inr (inl g)) = absurd (no-line-fault p.entries p.line q.entries n v p.number g q.legal p.fault)
    by (inr (inr g)) = absurd (no-line-fault q.entries q.line p.entries m w q.number g p.legal q.fault)

pub one-verdict : (text : List ℕ) (v w : Verdict) → IsVerdict text v → IsVerdict text w → v ≡ w
one-verdict text (Legal n) (Legal m) p q = ap Legal (p.count ∙ ap (λ (xs : List Shown). length xs) (lines-one 1 (lines_of text) p.entries q.entries p.all q.all) ∙ sym q.count)
one-verdict text (Legal n) (Bad m w) p q = absurd (legal-not-bad text n m w p q)
one-verdict text (Bad n v) (Legal m) p q = absurd (legal-not-bad text m n v q p)
one-verdict text (Bad n v) (Bad m w) p q = one-bad text n m v w p q
