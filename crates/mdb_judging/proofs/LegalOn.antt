-- A legal log with one more entry, and what is wrong with one that is not legal.
use Rattle.std.proofs.Common.{◌≡◌, Bool, true, false, List, [], ◌∷◌, ◌++◌, Option, Some, None, Result, Ok, inl, true≢false, refl, sym, ◌∙◌, subst}
use Rattle.std.proofs.lemmas.List.Elements.{All-append, All-cons, All-nil}
use Rattle.mdb_base.specs.declared.out_of_memory.OutOfMemory.{OutOfMemory}
use Rattle.mdb_base.specs.declared.options.Options.{Options}
use Rattle.mdb_log.specs.declared.log.Entry.{Entry}
use Rattle.mdb_log.specs.declared.options.PoolOptions.{PoolOptions}
use Rattle.mdb_log.specs.declared.reply.Reply.{Reply}
use Rattle.mdb_log.specs.declared.reply.Reply.TheVariants.{Refused}
use Rattle.mdb_log.specs.declared.step.Act.{Act}
use Rattle.mdb_log.specs.declared.step.Act.TheVariants.{Open}
use Rattle.mdb_log.specs.History.{Item, with_answer}
use Rattle.mdb_log.specs.Opening.{is_opening, pool_options}
use Rattle.mdb_log.specs.PlainLegal.{with_entry, is_refused, opens_seeds, IsFairAnswer, OnePlace, NoneLeftWaiting, IsLegal, IsOpened, LegalLog}
use Rattle.mdb_judging.specs.declared.auditor.Auditor.{Auditor}
use Rattle.mdb_judging.specs.declared.why.Why.{Why}
use Rattle.mdb_judging.specs.declared.why.Why.TheVariants.{Spelling, Opening, Grant, Place, Waiting}
use Rattle.mdb_judging.specs.Audited.{Keeps, HasOpened, MayHave, Audits, TakenFor}
use Rattle.mdb_judging.specs.Faults.{after_entries, OpensWell, OpensRight, OpensOnce, OpensWith, HasOptions}
use Rattle.mdb_judging.specs.Judging.{FaultAs, FaultFor, first_why}
use Rattle.mdb_tallies.specs.Kept.{Stands}
use Rattle.mdb_judging.specs.Opens.{HomesStand}

pub after-push : (h : List Item) (before : List Entry) (e : Entry) → after_entries h (before ++ e ∷ []) ≡ with_entry (after_entries h before) e
after-push h [] e = refl
after-push h (f ∷ before) e = after-push (with_entry h f) before e

one-place-none : OnePlace []
one-place-none = λ p c. refl

none-left-none : (o : PoolOptions) → NoneLeftWaiting o []
none-left-none o = λ p. inl refl

-- nothing is wrong after legal entries
legal-after : (o : PoolOptions) (h : List Item) (entries : List Entry) → OnePlace h → NoneLeftWaiting o h → IsLegal o h entries → OnePlace (after_entries h entries) × NoneLeftWaiting o (after_entries h entries)
legal-after o h [] one none legal = (one, none)
legal-after o h (e ∷ entries) one none legal = legal-after o (with_entry h e) entries legal.1 legal.2 legal.3

legal-push : (o : PoolOptions) (h : List Item) (before : List Entry) (e : Entry) → IsLegal o h before → IsFairAnswer (after_entries h before) e.step e.reply e.facts → OnePlace (with_entry (after_entries h before) e) → NoneLeftWaiting o (with_entry (after_entries h before) e) → IsLegal o h (before ++ e ∷ [])
legal-push o h [] e legal fair one none = (fair, one, none, tt)
legal-push o h (f ∷ before) e legal fair one none = (legal.0, legal.1, legal.2, legal-push o (with_entry h f) before e legal.3 fair one none)

-- the log is legal with the options that its first entry opens with
opened-legal : (act : Act) (f : Entry) (log : List Entry) (o : PoolOptions) → IsOpened act f log → OpensWith act o → IsLegal o [] (f ∷ log)
opened-legal (Open options) f log o opened is = subst (λ z. IsLegal z [] (f ∷ log)) (sym is) opened.3
opened-legal act f log o opened is = absurd opened

opened-push : (act : Act) (f : Entry) (log : List Entry) (e : Entry) (o : PoolOptions) → IsOpened act f log → OpensWith act o → is_opening e.step.act ≡ false → IsLegal o [] (f ∷ (log ++ e ∷ [])) → IsOpened act f (log ++ e ∷ [])
opened-push (Open options) f log e o opened is opens legal = (opened.0, opened.1, All-append (λ x. is_opening x.step.act ≡ false) log (e ∷ []) opened.2 (All-cons (λ x. is_opening x.step.act ≡ false) e [] opens (All-nil (λ x. is_opening x.step.act ≡ false))), subst (λ z. IsLegal z [] (f ∷ (log ++ e ∷ []))) is legal)
opened-push act f log e o opened is opens legal = opened

-- the entries before are legal, and nothing is wrong after them
legal-now : (o : PoolOptions) (before : List Entry) → LegalLog before → HasOptions before o → OnePlace (after_entries [] before) × NoneLeftWaiting o (after_entries [] before)
legal-now o [] legal has = (one-place-none, none-left-none o)
legal-now o (f ∷ log) legal has = legal-after o [] (f ∷ log) one-place-none (none-left-none o) (opened-legal f.step.act f log o legal has)

-- one more entry is legal
legal-next : (o : PoolOptions) (before : List Entry) (e : Entry) → LegalLog before → OpensOnce before e → HasOptions before o → IsFairAnswer (after_entries [] before) e.step e.reply e.facts → OnePlace (with_entry (after_entries [] before) e) → NoneLeftWaiting o (with_entry (after_entries [] before) e) → LegalLog (before ++ e ∷ [])
legal-next o [] e legal once has fair one none = absurd has
legal-next o (f ∷ log) e legal once has fair one none = opened-push f.step.act f log e o legal has once (legal-push o [] (f ∷ log) e (opened-legal f.step.act f log o legal has) fair one none)

has-push : (before : List Entry) (e : Entry) (o : PoolOptions) → HasOptions before o → HasOptions (before ++ e ∷ []) o
has-push [] e o has = absurd has
has-push (f ∷ log) e o has = has

opened-same : (before : List Entry) (e : Entry) (x : Option PoolOptions) (o : PoolOptions) → HasOptions before o → HasOpened before x → HasOpened (before ++ e ∷ []) x
opened-same [] e x o has opened = absurd has
opened-same (f ∷ log) e x o has opened = opened

-- the options of the entries are those of their first, also with one more
may-before : (before : List Entry) (e : Entry) (p o : PoolOptions) → HasOptions before p → MayHave (before ++ e ∷ []) o → MayHave before o
may-before [] e p o has may = tt
may-before (f ∷ log) e p o has may = may

opens-later : (before : List Entry) (e : Entry) (o : PoolOptions) → HasOptions before o → OpensRight before e
opens-later [] e o has = absurd has
opens-later (f ∷ log) e o has = tt

-- there is one set of options
with-one : (act : Act) (o p : PoolOptions) → OpensWith act o → OpensWith act p → o ≡ p
with-one (Open options) o p a b = a ∙ sym b
with-one act o p a b = absurd a

has-one : (before : List Entry) (o p : PoolOptions) → HasOptions before o → MayHave before p → o ≡ p
has-one [] o p a b = absurd a
has-one (f ∷ log) o p a b = with-one f.step.act o p a b

-- The auditor took the entry after others.
pub next-taken : (o : PoolOptions) (before : List Entry) (e : Entry) (why : Option Why) (old new : Auditor) → LegalLog before → OpensOnce before e → Audits before old → HasOptions before o → is_refused e.reply ≡ false → FaultFor o e why old new → TakenFor before e new (Ok why)
next-taken o before e why old new legal once audits has accepted fault = by why refl
  where
    may : (b : List Entry) → HasOptions b o → MayHave b o
    may [] h = tt
    may (f ∷ log) h = h

    now : OnePlace (after_entries [] before) × NoneLeftWaiting o (after_entries [] before)
    now = legal-now o before legal has

    kept : Keeps o (after_entries [] before) old
    kept = audits.kept o (may before has)

    judged : FaultAs o (after_entries [] before) e why
    judged = fault.judged (after_entries [] before) accepted kept now.0 now.1

    keeps : (p : PoolOptions) → MayHave (before ++ e ∷ []) p → Keeps p (after_entries [] (before ++ e ∷ [])) new
    keeps p m = subst (λ q. Keeps q (after_entries [] (before ++ e ∷ [])) new) (has-one before o p has (may-before before e o p has m)) (subst (λ h. Keeps o h new) (sym (after-push [] before e)) (fault.kept (after_entries [] before) accepted kept now.0))

    by : (w : Option Why) → why ≡ w → TakenFor before e new (Ok w)
    by None u =
        let j : FaultAs o (after_entries [] before) e None = subst (FaultAs o (after_entries [] before) e) u judged in
        (legal-next o before e legal once has j.0 j.1 j.2, record { options = opened-same before e new.options o has (subst (HasOpened before) (sym fault.options) audits.options); kept = keeps; places = fault.places; pools = fault.pools })
    by (Some Spelling) u = subst (FaultAs o (after_entries [] before) e) u judged
    by (Some Opening) u = λ y. subst (FaultAs o (after_entries [] before) e) u judged
    by (Some Grant) u = record { opens = opens-later before e o has; unfair = subst (FaultAs o (after_entries [] before) e) u judged }
    by (Some Place) u =
        let j : FaultAs o (after_entries [] before) e (Some Place) = subst (FaultAs o (after_entries [] before) e) u judged in
        record { opens = opens-later before e o has; fair = j.0; misplaced = j.1 }
    by (Some Waiting) u =
        let j : FaultAs o (after_entries [] before) e (Some Waiting) = subst (FaultAs o (after_entries [] before) e) u judged in
        record { opens = opens-later before e o has; fair = j.0; placed = j.1; options = o; own = has-push before e o has; left = j.2 }

-- The auditor took the refused entry after others.
pub next-refused : (before : List Entry) (e : Entry) (o : PoolOptions) (a : Auditor) → LegalLog before → OpensOnce before e → Audits before a → HasOptions before o → is_refused e.reply ≡ true → TakenFor before e a (Ok None)
next-refused before e o a legal once audits has refused = (
  legal-next o before e legal once has fair (subst OnePlace (sym same) now.0) (subst (NoneLeftWaiting o) (sym same) now.1),
  record { options = opened-same before e a.options o has audits.options; kept = λ p m. subst (λ h. Keeps p h a) (sym (after-push [] before e ∙ same)) (audits.kept p (may-before before e o p has m)); places = audits.places; pools = audits.pools },
)
  where
    now : OnePlace (after_entries [] before) × NoneLeftWaiting o (after_entries [] before)
    now = legal-now o before legal has

    same : with_entry (after_entries [] before) e ≡ after_entries [] before
    same = by e.reply refused
      where
        by : (r : Reply) → is_refused r ≡ true → with_answer e.step r e.facts (after_entries [] before) ≡ after_entries [] before
        by (Refused why) u = refl
        by r u = cc

    fair : IsFairAnswer (after_entries [] before) e.step e.reply e.facts
    fair = by e.reply refused
      where
        by : (r : Reply) → is_refused r ≡ true → IsFairAnswer (after_entries [] before) e.step r e.facts
        by (Refused why) u = tt
        by r u = cc

-- The first entry.

opens-well : (act : Act) (o : Options) (e : Entry) → act ≡ Open o → (is_refused e.reply ≡ false) → (opens_seeds o (with_entry [] e) ≡ true) → OpensWell act e
opens-well act o e is accepted opens = subst (λ a. OpensWell a e) (sym is) (accepted, opens)

opens-badly : (act : Act) (o : Options) (e : Entry) → act ≡ Open o → (opens_seeds o (with_entry [] e) ≡ false) → OpensWell act e → ⊥
opens-badly act o e is opens well = let w = subst (λ a. OpensWell a e) is well in absurd (true≢false (sym w.1 ∙ opens))

-- an entry that is refused does not open well
pub opens-refused : (act : Act) (e : Entry) → is_refused e.reply ≡ true → OpensWell act e → ⊥
opens-refused (Open o) e refused well = absurd (true≢false (sym refused ∙ well.0))
opens-refused act e refused well = well

first-legal : (act : Act) (o : Options) (e : Entry) → act ≡ Open o → is_refused e.reply ≡ false → opens_seeds o (with_entry [] e) ≡ true → IsFairAnswer [] e.step e.reply e.facts → OnePlace (with_entry [] e) → NoneLeftWaiting (pool_options o) (with_entry [] e) → IsOpened act e []
first-legal act o e is accepted opens fair one none = subst (λ a. IsOpened a e []) (sym is) (accepted, opens, All-nil (λ x. is_opening x.step.act ≡ false), (fair, one, none, tt))

opens-with : (act : Act) (o : Options) → act ≡ Open o → OpensWith act (pool_options o)
opens-with act o is = subst (λ a. OpensWith a (pool_options o)) (sym is) refl

-- The auditor took the first entry.
pub first-taken : (o : Options) (e : Entry) (opens : Bool) (why : Option Why) (old new : Auditor) → e.step.act ≡ Open o → is_refused e.reply ≡ false → Audits [] old → FaultFor (pool_options o) e why (record old { options = Some (pool_options o) }) new → ((h : List Item) → HomesStand h new.homes → Stands (pool_options o) h new.tables → opens ≡ opens_seeds o h) → TakenFor [] e new (Ok (first_why opens why))
first-taken o e opens why old new is accepted audits fault says = by opens why refl refl
  where
    kept : Keeps (pool_options o) [] (record old { options = Some (pool_options o) })
    kept = let k = audits.kept (pool_options o) tt in record { tables = k.tables; pins = k.pins; keepings = k.keepings; queues = k.queues; homes = k.homes }

    after : Keeps (pool_options o) (with_entry [] e) new
    after = fault.kept [] accepted kept one-place-none

    seeds : opens ≡ opens_seeds o (with_entry [] e)
    seeds = says (with_entry [] e) after.homes after.tables

    judged : FaultAs (pool_options o) [] e why
    judged = fault.judged [] accepted kept one-place-none (none-left-none (pool_options o))

    keeps : (p : PoolOptions) → OpensWith e.step.act p → Keeps p (with_entry [] e) new
    keeps p m = subst (λ q. Keeps q (with_entry [] e) new) (with-one e.step.act (pool_options o) p (opens-with e.step.act o is) m) after

    has : (x : Option PoolOptions) → x ≡ Some (pool_options o) → HasOpened (e ∷ []) x
    has x u = subst (HasOpened (e ∷ [])) (sym u) (opens-with e.step.act o is)

    by : (b : Bool) (w : Option Why) → opens ≡ b → why ≡ w → TakenFor [] e new (Ok (first_why b w))
    by false w u v = opens-badly e.step.act o e is (sym seeds ∙ u)
    by true None u v =
        let j : FaultAs (pool_options o) [] e None = subst (FaultAs (pool_options o) [] e) v judged in
        (first-legal e.step.act o e is accepted (sym seeds ∙ u) j.0 j.1 j.2, record { options = has new.options fault.options; kept = keeps; places = fault.places; pools = fault.pools })
    by true (Some Spelling) u v = subst (FaultAs (pool_options o) [] e) v judged
    by true (Some Opening) u v = λ y. subst (FaultAs (pool_options o) [] e) v judged
    by true (Some Grant) u v = record { opens = opens-well e.step.act o e is accepted (sym seeds ∙ u); unfair = subst (FaultAs (pool_options o) [] e) v judged }
    by true (Some Place) u v =
        let j : FaultAs (pool_options o) [] e (Some Place) = subst (FaultAs (pool_options o) [] e) v judged in
        record { opens = opens-well e.step.act o e is accepted (sym seeds ∙ u); fair = j.0; misplaced = j.1 }
    by true (Some Waiting) u v =
        let j : FaultAs (pool_options o) [] e (Some Waiting) = subst (FaultAs (pool_options o) [] e) v judged in
        record { opens = opens-well e.step.act o e is accepted (sym seeds ∙ u); fair = j.0; placed = j.1; options = pool_options o; own = opens-with e.step.act o is; left = j.2 }

-- an auditor without options took no entry
pub first-of : (before : List Entry) (x : Option PoolOptions) (e : Entry) (old new : Auditor) (r : Result (Option Why) OutOfMemory) → HasOpened before x → x ≡ None → Audits before old → (Audits [] old → TakenFor [] e new r) → TakenFor before e new r
first-of [] x e old new r has is audits f = f audits
first-of (g ∷ log) x e old new r has is audits f = absurd (subst (HasOpened (g ∷ log)) is has)

pub options-of : (before : List Entry) (x : Option PoolOptions) (o : PoolOptions) → HasOpened before x → x ≡ Some o → HasOptions before o
options-of [] x o has is = subst (HasOpened []) is has
options-of (g ∷ log) x o has is = subst (HasOpened (g ∷ log)) is has
