-- The entries of a log of answers, one after the other.
use Rattle.std.proofs.Common.{ℕ, ◌≡◌, ◌≤◌, List, [], ◌∷◌, ◌++◌, refl, sym, subst, append_assoc, append-nil}
use Rattle.mdb_base.specs.declared.options.Options.{Options}
use Rattle.mdb_log.specs.declared.log.Entry.{Entry}
use Rattle.mdb_log.specs.declared.step.Step.{Step}
use Rattle.mdb_log.specs.Answer.{Answer}
use Rattle.mdb_log.specs.History.{Item, with_answer, history_of}
use Rattle.mdb_log.specs.Requests.{told}
use Rattle.mdb_topology.specs.declared.topology.TopologyCore.{TopologyCore}
use Rattle.mdb_driver_rules.specs.Answer.{answer}
use Rattle.mdb_driver_rules.specs.Growing.{with-entries}
use Rattle.mdb_driver_rules.specs.Lines.{answer_after, entry_after, log_after}
use Rattle.mdb_topology.specs.Logging.{opening_step, AreDriven, IsDriverOf}
use Rattle.mdb_laws.specs.Answers.{IsAnswer, AreAnswers}
use Rattle.mdb_laws.proofs.OfTelling.Accepted.{answered-by}
use Rattle.mdb_laws.proofs.OfTelling.Once.{Once, none-yet, once-answer}

-- one entry more
pub one-more : (log : List Entry) (e : Entry) → history_of (log ++ e ∷ []) ≡ with_answer e.step e.reply e.facts (history_of log)
one-more log e = with-entries log (e ∷ []) []

once-entry : (log : List Entry) (e : Entry) (r : ℕ) → IsAnswer log e → Once (history_of log) r → Once (history_of (log ++ e ∷ [])) r
once-entry log e r is i =
    let by = answered-by log e.step in
    let h : List Item = history_of log in
    let so : Once (with_answer e.step (answer by.0 h e.step).reply (answer by.0 h e.step).facts h) r = once-answer by.0 h r i e.step in
    let said : Once (with_answer e.step (answer_after log e.step).reply (answer_after log e.step).facts h) r = subst (λ (a : Answer). Once (with_answer e.step a.reply a.facts h) r) (sym by.1) so in
    subst (λ (k : List Item). Once k r) (sym (one-more log e)) (subst (λ (x : Entry). Once (with_answer e.step x.reply x.facts h) r) (sym is) said)

once-log : (log es : List Entry) (r : ℕ) → AreAnswers log es → Once (history_of log) r → Once (history_of (log ++ es)) r
once-log log [] r are i = subst (λ (l : List Entry). Once (history_of l) r) (sym (append-nil log)) i
once-log log (e ∷ es) r are i = subst (λ (l : List Entry). Once (history_of l) r) (append_assoc log (e ∷ []) es) (once-log (log ++ e ∷ []) es r are.1 (once-entry log e r are.0 i))

pub told-once : (log : List Entry) (r : ℕ) → AreAnswers [] log → told (history_of log) r ≤ 1
told-once log r are = (once-log [] log r are (none-yet r)).once

-- ---- answers one after the other

pub answers-more : (log es : List Entry) (e : Entry) → AreAnswers log es → IsAnswer (log ++ es) e → AreAnswers log (es ++ e ∷ [])
answers-more log [] e are is = (subst (λ (l : List Entry). IsAnswer l e) (append-nil log) is, tt)
answers-more log (x ∷ es) e are is = (are.0, answers-more (log ++ x ∷ []) es e are.1 (subst (λ (l : List Entry). IsAnswer l e) (sym (append_assoc log (x ∷ []) es)) is))

answers-after : (log : List Entry) (steps : List Step) → AreAnswers [] log → AreAnswers [] (log_after log steps)
answers-after log [] are = are
answers-after log (s ∷ ss) are = answers-after (log ++ entry_after 0 log s ∷ []) ss (answers-more [] log (entry_after 0 log s) are refl)

pub steps-answered : (steps : List Step) → AreAnswers [] (log_after [] steps)
steps-answered steps = answers-after [] steps tt

-- ---- the log of a driver

driven-answered : (o : Options) (log es : List Entry) → AreDriven o log es → AreAnswers log es
driven-answered o log [] d = tt
driven-answered o log (e ∷ es) d = (d.0.answers, driven-answered o (log ++ e ∷ []) es d.1)

-- each entry of a driver's log is the answer to its step
pub driver-answered : (w : TopologyCore) (log : List Entry) → IsDriverOf w log → AreAnswers [] log
driver-answered w log z = subst (AreAnswers []) (sym z.logged) (refl, driven-answered w.options (entry_after z.seat [] (opening_step w.options) ∷ []) z.entries z.driven)

pub driver-tells-once : (w : TopologyCore) (log : List Entry) (r : ℕ) → IsDriverOf w log → told (history_of log) r ≤ 1
driver-tells-once w log r z = told-once log r (driver-answered w log z)
