-- What a whole log tells of the pools of its driver: each entry has its causes and each cause its facts, and no late error has an effect.
use Rattle.std.specs.Prelude.{◌≡◌, true, List, [], ◌∷◌, ⊤}
use Rattle.mdb_base.specs.declared.options.Options.{Options}
use Rattle.mdb_log.specs.declared.log.Entry.{Entry}
use Rattle.mdb_log.specs.declared.reply.Reply.{Reply}
use Rattle.mdb_log.specs.declared.reply.Reply.TheVariants.{Refused}
use Rattle.mdb_log.specs.declared.step.Step.{Step}
use Rattle.mdb_log.specs.Answer.{Answer}
use Rattle.mdb_log.specs.History.{Item, with_answer}
use Rattle.mdb_log.specs.Own.{IsAccepted}
use Rattle.mdb_driver_rules.specs.Lines.{options_of}
use Rattle.mdb_laws.specs.Alike.{IsWithoutEffectBy}
use Rattle.mdb_laws.specs.Causes.{TellsCauses}
use Rattle.mdb_laws.specs.Stale.{is_stale_error, is_stale_failure, SparesServerBy}

-- a refused step makes no fact, and what any other tells of whole pools is what it causes
abbrev pub TellsByReply : Options → List Item → Step → Answer → Reply → Type 0
TellsByReply o h step a (Refused why) = a.facts ≡ []
TellsByReply o h step a _ = TellsCauses o h step a

-- What is said of the answer to each step after a history.
pub record AnswerTells (o : Options) (h : List Item) (step : Step) (a : Answer) : Type 0 where
  pub causes : TellsByReply o h step a a.reply
  -- an accepted error of an operation that concerns its server no more changes nothing
  pub errors : IsAccepted a.reply → is_stale_error o h step ≡ true → IsWithoutEffectBy o h step a
  -- and a connection that could not be established, with such an error, says nothing of the server
  pub failures : IsAccepted a.reply → is_stale_failure o h step ≡ true → SparesServerBy o h step a

-- what an entry has for an answer
abbrev pub answer_in : Entry → Answer
answer_in e = record { reply = e.reply; facts = e.facts }

-- Each of the entries is so, one after another: P says it of the answer to a step after a history, under the options of the opening.
abbrev pub EachEntry : (Options → List Item → Step → Answer → Type 0) → Options → List Item → List Entry → Type 0
EachEntry P o h [] = ⊤
EachEntry P o h (e ∷ es) = P o h e.step (answer_in e) × EachEntry P o (with_answer e.step e.reply e.facts h) es

-- Each entry of the log, the opening too, under the options of the opening.
abbrev pub EachAnswer : (Options → List Item → Step → Answer → Type 0) → List Entry → Type 0
EachAnswer P log = EachEntry P (options_of log) [] log

-- The log tells its causes, and no late error has an effect in it.
abbrev pub TellsAllCauses : List Entry → Type 0
TellsAllCauses log = EachAnswer AnswerTells log
