-- Logs that are legal by the core's definitions, and whose history is sound, are legal by the plain sentences.
use Rattle.std.proofs.Common.{ℕ, ◌≡◌, false, List, [], ◌∷◌, refl}
use Rattle.mdb_events.specs.declared.fact.Fact.{Fact}
use Rattle.mdb_log.specs.declared.options.PoolOptions.{PoolOptions}
use Rattle.mdb_log.specs.declared.step.Step.{Step}
use Rattle.mdb_log.specs.declared.step.Act.{Act}
use Rattle.mdb_log.specs.declared.step.Act.TheVariants.{Open}
use Rattle.mdb_log.specs.declared.log.Entry.{Entry}
use Rattle.mdb_log.specs.declared.reply.Reply.{Reply}
use Rattle.mdb_log.specs.declared.reply.Reply.TheVariants.{Refused}
use Rattle.mdb_log.specs.History.{Item, did, made, with_facts, with_answer, with_entries, history_of}
use Rattle.mdb_log.specs.Opening.{pool_options}
use Rattle.mdb_log.specs.Own.{IsAccepted}
use Rattle.mdb_log.specs.LegalLog.{IsLegal, BeginsLegal, BeginsWith, IsLegalLog}
use Rattle.mdb_log.specs.PlainLegal.{AllFirstCome, IsFairAnswer, is_refused, IsOpened, LegalLog, IsLegal as IsLegalOn, OnePlace, NoneLeftWaiting}
use Rattle.mdb_histories.specs.SoundHistory.{SoundHistory}
use Rattle.mdb_histories.specs.Opened.{BeginsAccepted}
use Rattle.mdb_histories.proofs.OfPlain.Waiting.{grant-fair}
use Rattle.mdb_histories.proofs.OfPlain.Orderly.{orderly}
use Rattle.mdb_histories.proofs.OfPlain.Opening.{seeds-opened}

-- a history was sound before its last facts, its last answer and its last entries
facts-before : (m : ℕ) (facts : List Fact) (h : List Item) → SoundHistory (with_facts m facts h) → SoundHistory h
facts-before m [] h s = s
facts-before m (f ∷ facts) h s = let t : SoundHistory (made m f ∷ h) = facts-before m facts (made m f ∷ h) s in t.1

answer-before : (step : Step) (reply : Reply) (facts : List Fact) (h : List Item) → SoundHistory (with_answer step reply facts h) → SoundHistory h
answer-before step (Refused why) facts h s = s
answer-before step reply facts h s = let t : SoundHistory (did step reply ∷ h) = facts-before step.moment facts (did step reply ∷ h) s in t.1

entries-before : (log : List Entry) (h : List Item) → SoundHistory (with_entries log h) → SoundHistory h
entries-before [] h s = s
entries-before (e ∷ log) h s = answer-before e.step e.reply e.facts h (entries-before log (with_answer e.step e.reply e.facts h) s)

all-fair : (m : ℕ) (facts : List Fact) (h : List Item) → SoundHistory (with_facts m facts h) → AllFirstCome m h facts
all-fair m [] h s = tt
all-fair m (f ∷ facts) h s = (grant-fair h m f (facts-before m facts (made m f ∷ h) s), all-fair m facts (made m f ∷ h) s)

fair : (step : Step) (reply : Reply) (facts : List Fact) (h : List Item) → SoundHistory (with_answer step reply facts h) → IsFairAnswer h step reply facts
fair step (Refused why) facts h s = tt
fair step reply facts h s = all-fair step.moment facts (did step reply ∷ h) s

legal : (o : PoolOptions) (log : List Entry) (h : List Item) → SoundHistory (with_entries log h) → IsLegal o h log → IsLegalOn o h log
legal o [] h s l = tt
legal o (e ∷ log) h s l =
    let k : List Item = with_answer e.step e.reply e.facts h in
    let sound : SoundHistory k = entries-before log k s in
    let both : OnePlace k × NoneLeftWaiting o k = orderly o k sound l.1 in
    (fair e.step e.reply e.facts h sound, both.0, both.1, legal o log k s l.2)

unrefused : (reply : Reply) → IsAccepted reply → is_refused reply ≡ false
unrefused (Refused why) a = absurd a
unrefused _ a = refl

begins : (act : Act) (e : Entry) (log : List Entry) → IsAccepted e.reply → SoundHistory (history_of (e ∷ log)) → BeginsWith act e log → IsOpened act e log
begins (Open o) e log a s b =
    let begun : BeginsLegal o e log = b in
    let k : List Item = history_of (e ∷ []) in
    let sound : SoundHistory k = entries-before log k s in
    let both : OnePlace k × NoneLeftWaiting (pool_options o) k = orderly (pool_options o) k sound begun.orderly in
    (unrefused e.reply a, seeds-opened o k begun.opens, begun.alone, (fair e.step e.reply e.facts [] sound, both.0, both.1, legal (pool_options o) log k s begun.legal))
begins _ e log a s b = absurd b

pub plain-legal : (log : List Entry) → IsLegalLog log → SoundHistory (history_of log) → BeginsAccepted log → LegalLog log
plain-legal [] l s a = tt
plain-legal (e ∷ log) l s a = begins e.step.act e log a s l
