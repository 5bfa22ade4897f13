-- Each answer to plain steps is plain.
use Rattle.std.proofs.Common.{◌≡◌, true, List, [], ◌∷◌, ◌++◌, refl, sym, subst}
use Rattle.std.specs.List.{AllByRecursion, list_all}
use Rattle.std.proofs.lemmas.Bool.{and_from}
use Rattle.mdb_events.specs.declared.fact.Fact.{Fact}
use Rattle.mdb_log.specs.declared.log.Entry.{Entry}
use Rattle.mdb_log.specs.declared.reply.Reply.{Reply}
use Rattle.mdb_log.specs.declared.reply.Reply.TheVariants as reply
use Rattle.mdb_log.specs.declared.step.Step.{Step}
use Rattle.mdb_log.specs.History.{Item, did, with_answer, with_entries, history_of}
use Rattle.mdb_lines.specs.Script.{AreAllowed}
use Rattle.mdb_driver_rules.specs.Lines.{options_in, answer_after, steps_of}
use Rattle.mdb_laws.specs.Answers.{IsAnswer, AreAnswers}
use Rattle.mdb_entries.specs.Answers.{is_plain_reply, is_plain_fact, has_plain_answer, IsTyped, TextShows}
use Rattle.mdb_entries.proofs.AnswerLemmas.{log_shows}
use Rattle.mdb_verdicts.proofs.Plain.{IsPlainReply, ArePlainFacts, IsPlainHistory}
use Rattle.mdb_verdicts.proofs.Lists.{all-both, all-told}
use Rattle.mdb_verdicts.proofs.PoolParts.{with-plain}
use Rattle.mdb_verdicts.proofs.Spelled.{IsPlainStep, allowed-plain}
use Rattle.mdb_verdicts.proofs.Steps.{IsPlainAnswer, answer-plain}

record IsPlainEntry (e : Entry) : Type 0 where
  step : IsPlainStep e.step
  reply : IsPlainReply e.reply
  facts : ArePlainFacts e.facts

-- the history of plain entries is plain

added-plain : (s : Step) (x : Reply) (facts : List Fact) (h : List Item) → IsPlainStep s → ArePlainFacts facts → IsPlainHistory h → IsPlainHistory (with_answer s x facts h)
added-plain s (reply.Refused why) facts h i j k = k
added-plain s x facts h i j k = with-plain s.moment facts (did s x ∷ h) j (i, k)

entries-plain : (log : List Entry) (h : List Item) → AllByRecursion IsPlainEntry log → IsPlainHistory h → IsPlainHistory (with_entries log h)
entries-plain [] h i k = k
entries-plain (e ∷ es) h i k = entries-plain es (with_answer e.step e.reply e.facts h) i.1 (added-plain e.step e.reply e.facts h (i.0).step (i.0).facts k)

-- the next entry is plain

after-plain : (log : List Entry) (s : Step) → AllByRecursion IsPlainEntry log → IsPlainStep s → IsPlainAnswer (answer_after log s)
after-plain [] s i j = answer-plain (options_in s.act) [] s tt j
after-plain (first ∷ log) s i j = answer-plain (options_in first.step.act) (history_of (first ∷ log)) s (entries-plain (first ∷ log) [] i tt) j

next-plain : (log : List Entry) (e : Entry) → AllByRecursion IsPlainEntry log → IsAnswer log e → IsPlainStep e.step → IsPlainEntry e
next-plain log e i is j =
    let got = after-plain log e.step i j in
    subst IsPlainEntry (sym is) (record { step = j; reply = got.reply; facts = got.facts })

-- the entries that answer plain steps after a log of plain entries are plain
answered-plain : (log es : List Entry) → AllByRecursion IsPlainEntry log → AreAnswers log es → AllByRecursion IsPlainStep (steps_of es) → AllByRecursion IsPlainEntry es
answered-plain log [] i are j = tt
answered-plain log (e ∷ es) i are j =
    let one : IsPlainEntry e = next-plain log e i are.0 j.0 in
    (one, answered-plain (log ++ e ∷ []) es (all-both IsPlainEntry log (e ∷ []) i (one, tt)) are.1 j.1)

answers-told : (log : List Entry) → AllByRecursion IsPlainEntry log → list_all has_plain_answer log ≡ true
answers-told [] i = refl
answers-told (e ∷ es) i =
    and_from (has_plain_answer e) (list_all has_plain_answer es)
    (and_from (is_plain_reply e.reply) (list_all is_plain_fact e.facts) (i.0).reply (all-told is_plain_fact e.facts (i.0).facts)) (answers-told es i.1)

pub answers-plain : (log : List Entry) → AreAnswers [] log → AreAllowed 1 (steps_of log) → list_all has_plain_answer log ≡ true
answers-plain log are h = answers-told log (answered-plain [] log tt are (allowed-plain 1 (steps_of log) h))

-- The text of a log of answers shows its entries, where its numbers are of their types.
pub text-shows : (log : List Entry) → AllByRecursion IsTyped log → AreAnswers [] log → AreAllowed 1 (steps_of log) → TextShows log
text-shows log types are steps = log_shows log (record { steps = steps; types = types; rules = answers-plain log are steps })
