-- Steps one after another.
use Rattle.std.proofs.Common.{ℕ, ◌≡◌, List, [], ◌∷◌, ◌++◌, refl, sym, ◌∙◌, ap, subst, append_assoc, append-nil}
use Rattle.mdb_base.specs.declared.address.ServerAddress.{ServerAddress}
use Rattle.mdb_log.specs.declared.options.PoolOptions.{PoolOptions}
use Rattle.mdb_log.specs.declared.step.Step.{Step}
use Rattle.mdb_log.specs.declared.log.Entry.{Entry}
use Rattle.mdb_pool.specs.Core.{PoolCore}
use Rattle.mdb_log.specs.History.{Item, of_pool, with_answer, with_entries, with_act}
use Rattle.mdb_pool_rules.specs.Answer.{answer, entry_for, entries_for}
use Rattle.mdb_log.specs.Legal.{OnePlace, NoneLeftWaiting, IsFairAnswer, IsLegal}
use Rattle.mdb_pool.specs.Standing.{StandsFor, SameHome, Logs, Runs}
use Rattle.mdb_log.specs.Limits.{WithinLimits}
use Rattle.mdb_log.specs.Fresh.{AllGrantFresh, EntriesGrantFresh}
use Rattle.mdb_log.proofs.Later.{with_entries-append}
use Rattle.mdb_pool_rules.proofs.LimitsAreKept.{answer-within}
use Rattle.mdb_pool.proofs.Histories.GrantsAreFresh.{answer-fresh}
use Rattle.mdb_pool.proofs.Histories.OnePlaceEach.{one-place}

-- one more legal entry
legal-append : (p : ℕ) (o : PoolOptions) (es : List Entry) (e : Entry) (h : List Item) → IsLegal p o h es
    → IsFairAnswer p (with_entries es h) e.step e.reply e.facts
    → OnePlace (of_pool p (with_answer e.step e.reply e.facts (with_entries es h)))
    → NoneLeftWaiting o (of_pool p (with_answer e.step e.reply e.facts (with_entries es h)))
    → IsLegal p o h (es ++ e ∷ [])
legal-append p o [] e h l fair place none_left = (fair, place, none_left, tt)
legal-append p o (d ∷ es) e h l fair place none_left = (l.0, l.1, l.2, legal-append p o es e (with_answer d.step d.reply d.facts h) l.3 fair place none_left)

-- one more entry that grants fresh connections
fresh-append : (p : ℕ) (o : PoolOptions) (es : List Entry) (e : Entry) (h : List Item) → EntriesGrantFresh p o h es → AllGrantFresh p o e.step.moment (with_act p (with_entries es h) e.step) e.facts → EntriesGrantFresh p o h (es ++ e ∷ [])
fresh-append p o [] e h l more = (more, tt)
fresh-append p o (d ∷ es) e h l more = (l.0, fresh-append p o es e (with_answer d.step d.reply d.facts h) l.1 more)

-- the entries of one step more
entries-more : (p : ℕ) (a : ServerAddress) (o : PoolOptions) (seat : ℕ) (h : List Item) (steps : List Step) (step : Step)
    → entries_for p a o seat h (steps ++ step ∷ []) ≡ entries_for p a o seat h steps ++ entry_for p a o seat (with_entries (entries_for p a o seat h steps) h) step ∷ []
entries-more p a o seat h [] step = refl
entries-more p a o seat h (s ∷ steps) step = ap (λ es. entry_for p a o seat h s ∷ es) (entries-more p a o seat (with_answer s (answer p a o h s).reply (answer p a o h s).facts h) steps step)

-- a pool that moved on answers alike
same-entry : (s t : PoolCore) (seat : ℕ) (k : List Item) (step : Step) → SameHome s t → entry_for t.pool t.address t.options seat k step ≡ entry_for s.pool s.address s.options seat k step
same-entry s t seat k step home =
    ap (λ p. entry_for p t.address t.options seat k step) home.pool ∙ (ap (λ a. entry_for s.pool a t.options seat k step) home.address ∙ ap (λ o. entry_for s.pool s.address o seat k step) home.options)

pub run-starts : (s : PoolCore) (log : List Entry) (seat : ℕ) (h : List Item) → StandsFor s h → NoneLeftWaiting s.options (of_pool s.pool h) → Runs s s log log seat [] h
run-starts s log seat h z i = record {
  entries = [];
  logged = sym (append-nil log);
  answers = refl;
  legal = tt;
  fresh = tt;
  stands = z;
  none_left = i;
  within = λ w. w;
}

-- a pool that moved on is the same pool, of the same limits
within-home : (s t : PoolCore) (k j : List Item) → SameHome s t → (WithinLimits t.options (of_pool t.pool k) → WithinLimits t.options (of_pool t.pool j)) → WithinLimits s.options (of_pool s.pool k) → WithinLimits s.options (of_pool s.pool j)
within-home s t k j home kept w =
    let there : WithinLimits t.options (of_pool t.pool k) = subst (λ o. WithinLimits o (of_pool t.pool k)) (sym home.options) (subst (λ p. WithinLimits s.options (of_pool p k)) (sym home.pool) w) in
    subst (λ p. WithinLimits s.options (of_pool p j)) home.pool (subst (λ o. WithinLimits o (of_pool t.pool j)) home.options (kept there))

pub run-more : (s t u : PoolCore) (before middle after : List Entry) (steps : List Step) (seat : ℕ) (step : Step) (h : List Item) → SameHome s t → SameHome t u → Runs s t before middle seat steps h → ((k : List Item) → StandsFor t k → Logs t u middle after seat step k) → Runs s u before after seat (steps ++ step ∷ []) h
run-more s t u before middle after steps seat step h home next r logs =
    let k : List Item = with_entries r.entries h in
    let v : Logs t u middle after seat step k = logs k r.stands in
    let e : Entry = record { seat = seat; step = step; reply = (answer t.pool t.address t.options k step).reply; facts = (answer t.pool t.address t.options k step).facts } in
    let same : with_entries (r.entries ++ e ∷ []) h ≡ with_answer e.step e.reply e.facts k = with_entries-append r.entries e h in
    let none_left_t : NoneLeftWaiting t.options (of_pool t.pool (with_answer e.step e.reply e.facts k)) = v.none_left r.none_left in
    let place : OnePlace (of_pool u.pool (with_answer e.step e.reply e.facts k)) = one-place u (of_pool u.pool (with_answer e.step e.reply e.facts k)) v.stands.fits in
    record {
      entries = r.entries ++ e ∷ [];
      logged = v.entry ∙ (ap (λ es. es ++ e ∷ []) r.logged ∙ append_assoc before r.entries (e ∷ []));
      answers = ap (λ d. r.entries ++ d ∷ []) (same-entry s t seat k step home) ∙ (ap (λ es. es ++ entry_for s.pool s.address s.options seat (with_entries es h) step ∷ []) r.answers ∙ sym (entries-more s.pool s.address s.options seat h steps step));
      legal = legal-append s.pool s.options r.entries e h r.legal
          (subst (λ p. IsFairAnswer p k e.step e.reply e.facts) home.pool v.fair)
          (subst (λ p. OnePlace (of_pool p (with_answer e.step e.reply e.facts k))) (next.pool ∙ home.pool) place)
          (subst (λ p. NoneLeftWaiting s.options (of_pool p (with_answer e.step e.reply e.facts k))) home.pool (subst (λ o. NoneLeftWaiting o (of_pool t.pool (with_answer e.step e.reply e.facts k))) home.options none_left_t));
      fresh = fresh-append s.pool s.options r.entries e h r.fresh
          (subst (λ p. AllGrantFresh p s.options step.moment (with_act p k step) e.facts) home.pool (subst (λ o. AllGrantFresh t.pool o step.moment (with_act t.pool k step) e.facts) home.options (answer-fresh t k step r.stands)));
      stands = subst (StandsFor u) (sym same) v.stands;
      none_left = subst (λ j. NoneLeftWaiting u.options (of_pool u.pool j)) (sym same) (subst (λ p. NoneLeftWaiting u.options (of_pool p (with_answer e.step e.reply e.facts k))) (sym next.pool) (subst (λ o. NoneLeftWaiting o (of_pool t.pool (with_answer e.step e.reply e.facts k))) (sym next.options) none_left_t));
      within = λ w. subst (λ j. WithinLimits s.options (of_pool s.pool j)) (sym same) (within-home s t k (with_answer e.step e.reply e.facts k) home (answer-within t.pool t.address t.options k step) (r.within w));
    }
