-- What holds of each answer that leaves the history sound holds of each entry of a sound log of answers.
use Rattle.std.proofs.Common.{ℕ, ◌≡◌, List, [], ◌∷◌, ◌++◌, sym, ap, subst}
use Rattle.mdb_base.specs.declared.options.Options.{Options}
use Rattle.mdb_events.specs.declared.fact.Fact.{Fact}
use Rattle.mdb_log.specs.declared.log.Entry.{Entry}
use Rattle.mdb_log.specs.declared.reply.Reply.{Reply}
use Rattle.mdb_log.specs.declared.reply.Reply.TheVariants.{Refused}
use Rattle.mdb_log.specs.declared.step.Step.{Step}
use Rattle.mdb_log.specs.Answer.{Answer}
use Rattle.mdb_log.specs.History.{Item, did, made, with_facts, with_answer, with_entries, history_of}
use Rattle.mdb_log.proofs.Later.{with_entries-append}
use Rattle.mdb_driver_rules.specs.Answer.{answer}
use Rattle.mdb_driver_rules.specs.Lines.{options_in}
use Rattle.mdb_histories.specs.SoundHistory.{SoundHistory}
use Rattle.mdb_laws.specs.Answers.{AreAnswers}
use Rattle.mdb_laws.specs.Logs.{answer_in, EachEntry, EachAnswer}

before-facts : (m : ℕ) (fs : List Fact) (k : List Item) → SoundHistory (with_facts m fs k) → SoundHistory k
before-facts m [] k s = s
before-facts m (f ∷ fs) k s = (before-facts m fs (made m f ∷ k) s).1

before-answer : (step : Step) (reply : Reply) (facts : List Fact) (h : List Item) → SoundHistory (with_answer step reply facts h) → SoundHistory h
before-answer step (Refused why) facts h s = s
before-answer step reply facts h s = (before-facts step.moment facts (did step reply ∷ h) s).1

before : (es : List Entry) (h : List Item) → SoundHistory (with_entries es h) → SoundHistory h
before [] h s = s
before (e ∷ es) h s = before-answer e.step e.reply e.facts h (before es (with_answer e.step e.reply e.facts h) s)

module _ (P : Options → List Item → Step → Answer → Type 0) (each : (o : Options) (h : List Item) (step : Step) → SoundHistory (with_answer step (answer o h step).reply (answer o h step).facts h) → P o h step (answer o h step)) where
  one : (o : Options) (h : List Item) (e : Entry) → answer_in e ≡ answer o h e.step → SoundHistory (with_answer e.step e.reply e.facts h) → P o h e.step (answer_in e)
  one o h e is sound = subst (P o h e.step) (sym is) (each o h e.step (subst (λ (a : Answer). SoundHistory (with_answer e.step a.reply a.facts h)) is sound))

  later : (first : Entry) (log es : List Entry) → AreAnswers (first ∷ log) es → SoundHistory (with_entries es (history_of (first ∷ log))) → EachEntry P (options_in first.step.act) (history_of (first ∷ log)) es
  later first log [] are sound = tt
  later first log (e ∷ es) are sound =
      let o : Options = options_in first.step.act in
      let h : List Item = history_of (first ∷ log) in
      let k : List Item = with_answer e.step e.reply e.facts h in
      let longer : history_of (first ∷ (log ++ e ∷ [])) ≡ k = with_entries-append (first ∷ log) e [] in
      (one o h e (ap answer_in are.0) (before es k sound), subst (λ j. EachEntry P o j es) longer (later first (log ++ e ∷ []) es are.1 (subst (λ j. SoundHistory (with_entries es j)) (sym longer) sound)))

  pub each-entry : (log : List Entry) → AreAnswers [] log → SoundHistory (history_of log) → EachAnswer P log
  each-entry [] are sound = tt
  each-entry (e ∷ es) are sound = (one (options_in e.step.act) [] e (ap answer_in are.0) (before es (with_answer e.step e.reply e.facts []) sound), later e [] es are.1 sound)

-- what follows from what is said of each entry
module _ (P Q : Options → List Item → Step → Answer → Type 0) (weaker : (o : Options) (h : List Item) (step : Step) (a : Answer) → P o h step a → Q o h step a) where
  pub each-of : (o : Options) (h : List Item) (es : List Entry) → EachEntry P o h es → EachEntry Q o h es
  each-of o h [] all = tt
  each-of o h (e ∷ es) all = (weaker o h e.step (answer_in e) all.0, each-of o (with_answer e.step e.reply e.facts h) es all.1)
