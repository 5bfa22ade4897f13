-- Every log of a driver is sound, entry by entry.
use Rattle.std.proofs.Common.{◌≡◌, List, [], ◌∷◌, ◌++◌, Option, Some, None, refl, sym, ◌∙◌, ap, subst, append_assoc}
use Rattle.std.proofs.lemmas.List.{append-nil}
use Rattle.mdb_base.specs.declared.options.Options.{Options}
use Rattle.mdb_log.specs.declared.log.Entry.{Entry}
use Rattle.mdb_log.specs.Answer.{Answer}
use Rattle.mdb_log.specs.History.{Item, with_answer, history_of}
use Rattle.mdb_log.proofs.Later.{with_entries-append}
use Rattle.mdb_topology.specs.declared.topology.TopologyCore.{TopologyCore}
use Rattle.mdb_driver_rules.specs.Answer.{answer}
use Rattle.mdb_driver_rules.specs.Lines.{options_in, answer_after, entry_after}
use Rattle.mdb_topology.specs.Driving.{Holds}
use Rattle.mdb_topology.specs.Logging.{opening_step, Stood, AreDriven, IsDriverOf}
use Rattle.mdb_histories.specs.SoundHistory.{SoundHistory}
use Rattle.mdb_histories.proofs.Answers.{keeps-sound, opening-sound}

-- the entries that a driver made after a log keep it sound
driven-sound : (o : Options) (first : Entry) (log es : List Entry) → options_in first.step.act ≡ o → Stood o (first ∷ log) → AreDriven o (first ∷ log) es → SoundHistory (history_of (first ∷ log))
    → SoundHistory (history_of (first ∷ (log ++ es)))
driven-sound o first log [] own stood driven sound = subst (λ (l : List Entry). SoundHistory (history_of (first ∷ l))) (sym (append-nil log)) sound
driven-sound o first log (e ∷ es) own stood driven sound =
    let h : List Item = history_of (first ∷ log) in
    let w : TopologyCore = stood.driver in
    let same : answer_after (first ∷ log) e.step ≡ answer w.options h e.step = ap (λ (q : Options). answer q h e.step) (own ∙ sym stood.own) in
    let told : SoundHistory (with_answer e.step (answer w.options h e.step).reply (answer w.options h e.step).facts h) = keeps-sound w h stood.stands sound e.step driven.0.taken in
    let made : SoundHistory (with_answer e.step (answer_after (first ∷ log) e.step).reply (answer_after (first ∷ log) e.step).facts h) =
    subst (λ (a : Answer). SoundHistory (with_answer e.step a.reply a.facts h)) (sym same) told in
    let mine : SoundHistory (with_answer e.step e.reply e.facts h) = subst (λ (x : Entry). SoundHistory (with_answer e.step x.reply x.facts h)) (sym driven.0.answers) made in
    let now : SoundHistory (history_of (first ∷ (log ++ e ∷ []))) = subst SoundHistory (sym (with_entries-append (first ∷ log) e [])) mine in
    subst (λ (l : List Entry). SoundHistory (history_of (first ∷ l))) (append_assoc log (e ∷ []) es) (driven-sound o first (log ++ e ∷ []) es own driven.0.stood driven.1 now)

pub driver-sound : (w : TopologyCore) (log : List Entry) → IsDriverOf w log → SoundHistory (history_of log)
driver-sound w log z =
    let first : Entry = entry_after z.seat [] (opening_step w.options) in
    subst (λ (l : List Entry). SoundHistory (history_of l)) (sym z.logged) (driven-sound w.options first [] z.entries refl z.began z.driven (opening-sound w.options))

pub sound-log : (core : Option TopologyCore) (log : List Entry) → Holds core log → SoundHistory (history_of log)
sound-log None log h = subst (λ (l : List Entry). SoundHistory (history_of l)) (sym h) tt
sound-log (Some w) log h = driver-sound w log h
