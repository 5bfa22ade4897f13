-- What all entries tell, once one more has come.
use Rattle.std.proofs.Common.{◌≡◌, ℕ, suc, zero, ◌+◌, ◌-◌, ◌<◌, ◌≤◌, ◌&&◌, ◌||◌, Bool, true, false, IsTrue, if◌then◌else◌, Option, Some, List, [], ◌∷◌, ◌++◌, length, take, refl, sym, ◌∙◌, ap, subst, append_assoc, append-nil, length-append, arith}
use Rattle.std.proofs.lemmas.List.{take_more, length-take-le}
use Rattle.std.proofs.lemmas.List.Folds.{list_any-append}
use Rattle.std.proofs.Math.Seq.{get_or-append_seam}
use Rattle.std.specs.Prelude.{slice_get, get_or}
use Rattle.std.specs.List.{list_any}
use Rattle.mdb_log.specs.declared.reply.Reply.{Reply}
use Rattle.mdb_log.specs.declared.reply.Reply.TheVariants.{Done}
use Rattle.mdb_log.specs.declared.step.Act.{Act}
use Rattle.mdb_log.specs.declared.step.Act.TheVariants.{Stop}
use Rattle.mdb_log.specs.Driver.{is_done}
use Rattle.mdb_log.specs.declared.log.Entry.{Entry}
use Rattle.mdb_journal.specs.News.{is_news}
use Rattle.mdb_journal.specs.Entries.{news_with, news_end, news_then, stops_by, stops, HasNews, HasStopped}

behind : (b is : Bool) (n : ℕ) (m : ℕ) → news_with b (if is then suc n else m) ≡ (if is then suc (suc n) else news_with b m)
behind b true n m = refl
behind b false n m = refl

-- the last news is the new entry, or what it was
pub news-more : (es : List Entry) (e : Entry) → news_end (es ++ e ∷ []) ≡ (if is_news e then suc (length es) else news_end es)
news-more [] e = refl
news-more (x ∷ es) e = ap (news_with (is_news x)) (news-more es e) ∙ behind (is_news x) (is_news e) (length es) (news_end es)

within : (b : Bool) (n m : ℕ) → n ≤ m → news_with b n ≤ suc m
within true zero m l = omega arith
within false zero m l = omega arith
within b (suc n) m l = omega (arith, l)

-- it is one of them
pub news-within : (es : List Entry) → news_end es ≤ length es
news-within [] = omega arith
news-within (e ∷ es) = within (is_news e) (news_end es) (length es) (news-within es)

last-news : (n : ℕ) (es : List Entry) → news_end es ≡ suc n → (e : Entry) × (slice_get es n ≡ Some e) × IsTrue (is_news e)
last-news n [] h = cc
last-news n (e ∷ es) h = on (λ k. last-news k es) (news_end es) (is_news e) refl refl n h
  where
    on : ((k : ℕ) → news_end es ≡ suc k → (x : Entry) × (slice_get es k ≡ Some x) × IsTrue (is_news x)) → (m : ℕ) (b : Bool) → news_end es ≡ m → is_news e ≡ b → (k : ℕ) → news_with b m ≡ suc k → (x : Entry) × (slice_get (e ∷ es) k ≡ Some x) × IsTrue (is_news x)
    on later zero true q is zero g = (e, refl, is)
    on later zero true q is (suc k) g = cc
    on later zero false q is k g = cc
    on later (suc m) b q is zero g = cc
    on later (suc m) b q is (suc k) g = later k (q ∙ omega (arith, g))

-- where the last news comes after a place, there is news from it on
pub news-from : (from : ℕ) (es : List Entry) → from < news_end es → HasNews from es
news-from from es l = on (news_end es) refl l
  where
    on : (m : ℕ) → news_end es ≡ m → from < m → HasNews from es
    on zero q g = absurd (omega (arith, g))
    on (suc n) q g = let h = last-news n es q in (n, h.0, omega (arith, g), h.1, h.2)

stop-act : (a : Act) → stops_by a ≡ true → a ≡ Stop
stop-act Stop h = refl
stop-act _ h = cc

done-reply : (r : Reply) → is_done r ≡ true → r ≡ Done
done-reply Done h = refl
done-reply _ h = cc

both : (a b : Bool) → (a && b) ≡ true → (a ≡ true) × (b ≡ true)
both true b h = (refl, h)
both false b h = cc

-- where any entry stops the driver, there is one that does
pub stopped-at : (es : List Entry) → IsTrue (list_any stops es) → HasStopped es
stopped-at [] h = cc
stopped-at (e ∷ es) h = on (stopped-at es) (stops e) refl h
  where
    on : (IsTrue (list_any stops es) → HasStopped es) → (b : Bool) → stops e ≡ b → IsTrue (b || list_any stops es) → HasStopped (e ∷ es)
    on later true q g = let p = both (stops_by e.step.act) (is_done e.reply) q in (0, e, refl, stop-act e.step.act p.0, done-reply e.reply p.1)
    on later false q g = let r = later g in (suc r.0, r.1, r.2, r.3, r.4)

-- ---- what a loop over them has found so far

upto-within : (b : Bool) (i end : ℕ) → end ≤ i → (if b then i + 1 else end) ≤ i + 1
upto-within true i end l = omega arith
upto-within false i end l = omega (arith, l)

-- the last news up to the next place
pub news-upto : (es : List Entry) (i end : ℕ) (e : Entry) → i < length es → e ≡ get_or es i e → end ≡ news_end (take i es) → end ≤ i
    → (news_then e (i + 1) end ≡ news_end (take (i + 1) es)) × (news_then e (i + 1) end ≤ i + 1)
news-upto es i end e l is so within =
    let long : length (take i es) ≡ i = length-take-le i es (omega (arith, l)) in
    let more : take (i + 1) es ≡ take i es ++ e ∷ [] = take_more es i e l ∙ ap (λ (x : Entry). take i es ++ x ∷ []) (sym is) in
    let end-is : news_end (take (i + 1) es) ≡ (if is_news e then i + 1 else end) =
    ap news_end more ∙ (news-more (take i es) e ∙ (ap (λ (n : ℕ). if is_news e then suc n else news_end (take i es)) long ∙ ap (λ (n : ℕ). if is_news e then suc i else n) (sym so) ∙ ap (λ (n : ℕ). if is_news e then n else end) (omega arith))) in
    (sym end-is, upto-within (is_news e) i end within)

-- ---- one entry more, where the first ones were handed out

or-false : (b : Bool) → (b || false) ≡ b
or-false true = refl
or-false false = refl

one-more : (past old new : List Entry) (e : Entry) → new ≡ old ++ e ∷ [] → past ++ new ≡ (past ++ old) ++ e ∷ []
one-more past old new e is = ap (λ (es : List Entry). past ++ es) is ∙ sym (append_assoc past old (e ∷ []))

-- how many there are up to the last news
pub news-on : (past old new : List Entry) (e : Entry) → new ≡ old ++ e ∷ [] → news_end (past ++ new) ≡ (if is_news e then length past + length new else news_end (past ++ old))
news-on past old new e is =
    let count : suc (length (past ++ old)) ≡ length past + length new = omega (arith, length-append past old, ap length is ∙ length-append old (e ∷ [])) in
    ap news_end (one-more past old new e is) ∙ (news-more (past ++ old) e ∙ ap (λ (n : ℕ). if is_news e then n else news_end (past ++ old)) count)

-- whether one of them stops the driver
pub stops-on : (past old new : List Entry) (e : Entry) → new ≡ old ++ e ∷ [] → list_any stops (past ++ new) ≡ (list_any stops (past ++ old) || stops e)
stops-on past old new e is =
    ap (list_any stops) (one-more past old new e is) ∙ (list_any-append stops (past ++ old) (e ∷ []) ∙ ap (λ (b : Bool). list_any stops (past ++ old) || b) (or-false (stops e)))

-- the last one is the new one
newest-is : (old new : List Entry) (e n : Entry) → new ≡ old ++ e ∷ [] → n ≡ get_or new (length new - 1) n → n ≡ e
newest-is old new e n is last =
    let at : length (old ++ e ∷ []) - 1 ≡ length old = omega (arith, length-append old (e ∷ [])) in
    last ∙ (ap (λ (l : List Entry). get_or l (length l - 1) n) is ∙ (ap (λ (k : ℕ). get_or (old ++ e ∷ []) k n) at ∙ get_or-append_seam old e [] n))

-- what is kept of all entries
pub kept-on : (past old new : List Entry) (e n : Entry) (gone news : ℕ) (stopped : Bool) → new ≡ old ++ e ∷ [] → n ≡ get_or new (length new - 1) n → gone ≡ length past → news ≡ news_end (past ++ old)
    → stopped ≡ list_any stops (past ++ old) → (news_then n (gone + length new) news ≡ news_end (past ++ new)) × ((stopped || stops n) ≡ list_any stops (past ++ new))
kept-on past old new e n gone news stopped is last count up any =
    let same : n ≡ e = newest-is old new e n is last in (
      ap (λ (x : Entry). news_then x (gone + length new) news) same
          ∙ (ap (λ (m : ℕ). news_then e (m + length new) news) count ∙ (ap (λ (m : ℕ). news_then e (length past + length new) m) up ∙ sym (news-on past old new e is))),
      ap (λ (x : Entry). stopped || stops x) same ∙ (ap (λ (b : Bool). b || stops e) any ∙ sym (stops-on past old new e is)),
    )

-- what holds of all entries where none or one more came

pub all-same : (P : List Entry → Type 0) (past old new : List Entry) → new ≡ old → P ((past ++ old) ++ []) → P (past ++ new)
all-same P past old new is h = subst P (append-nil (past ++ old) ∙ ap (λ (es : List Entry). past ++ es) (sym is)) h

pub all-more : (P : List Entry → Type 0) (past old new : List Entry) (e : Entry) → new ≡ old ++ e ∷ [] → P ((past ++ old) ++ e ∷ []) → P (past ++ new)
all-more P past old new e is h = subst P (sym (one-more past old new e is)) h
