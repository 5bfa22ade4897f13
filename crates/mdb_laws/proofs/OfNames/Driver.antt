-- The two events in the answers and the log of a driver name living connections.
use Rattle.std.proofs.Common.{ℕ, ◌≡◌, ◌==◌, Bool, true, false, List, [], ◌∷◌, ◌++◌, Option, Some, None, refl, sym, ◌∙◌, ap, subst}
use Rattle.mdb_base.specs.declared.options.Options.{Options}
use Rattle.mdb_events.specs.declared.cmap.CmapEvent.TheVariants.{PoolCreated, PoolReady, PoolClosed, ConnectionCreated, ConnectionReady, ConnectionClosed, ConnectionCheckedOut, ConnectionCheckedIn}
use Rattle.mdb_events.specs.declared.fact.Fact.{Fact}
use Rattle.mdb_events.specs.declared.fact.Fact.TheVariants.{Pool, Granted, Ended, Raised}
use Rattle.mdb_log.specs.declared.log.Entry.{Entry}
use Rattle.mdb_log.specs.declared.step.Step.{Step}
use Rattle.mdb_log.specs.declared.step.Act.{Act}
use Rattle.mdb_log.specs.declared.reply.Refused.{Refused as RefusedBy}
use Rattle.mdb_log.specs.declared.reply.Reply.{Reply}
use Rattle.mdb_log.specs.Acts.{IsDriverAct}
use Rattle.mdb_log.specs.Answer.{Answer}
use Rattle.mdb_log.specs.History.{Item, did, PoolItem, established, granted, if_so, has_asked, after_fact, after_facts, with_act, with_facts, with_answer, history_of}
use Rattle.mdb_log.specs.Connections.{is_live}
use Rattle.mdb_log.proofs.Later.{of_pool-with_facts, with_answer-accepted, with_entries-append}
use Rattle.mdb_sound.specs.Sound.{Sound}
use Rattle.mdb_sound.proofs.Calm.{one-lives}
use Rattle.mdb_sound.proofs.Connections.{named-lives}
use Rattle.mdb_topology.specs.declared.topology.TopologyCore.{TopologyCore}
use Rattle.mdb_driver_rules.specs.Answer.{answer, reply_to}
use Rattle.mdb_driver_rules.specs.Facts.{step_facts}
use Rattle.mdb_driver_rules.specs.Homes.{begun}
use Rattle.mdb_driver_rules.specs.Lines.{options_in, answer_after, entry_after}
use Rattle.mdb_topology.specs.Logging.{opening_step, Stood, AreDriven, IsDriverOf}
use Rattle.mdb_driver_rules.specs.Refusal.{refusal}
use Rattle.mdb_topology.specs.Standing.{StandsFor}
use Rattle.mdb_histories.specs.SoundHistory.{SoundHistory}
use Rattle.mdb_histories.proofs.Answers.{keeps-sound, opening-sound}
use Rattle.mdb_histories.proofs.Parties.{each-sound}
use Rattle.mdb_histories.proofs.Replies.{accepted-reply}
use Rattle.mdb_laws.specs.Names.{just_given, NamesSo, AllNameSo, AnswerNames, EntriesName}
use Rattle.mdb_laws.proofs.OfNames.Placed.{IsPlaced, AllPlaced}
use Rattle.mdb_laws.proofs.OfNames.Steps.{step-placed}

-- what is sound with facts more was sound without them
if-sound : (b : Bool) (x : PoolItem) (xs : List PoolItem) → Sound (if_so b x xs) → Sound xs
if-sound true x xs s = s.1
if-sound false x xs s = s

before-fact : (p m : ℕ) (f : Fact) (xs : List PoolItem) → Sound (after_fact p m f xs) → Sound xs
before-fact p m (Pool q (PoolCreated e)) xs s = if-sound (q == p) _ xs s
before-fact p m (Pool q (PoolReady e)) xs s = if-sound (q == p) _ xs s
before-fact p m (Pool q (PoolClosed e)) xs s = if-sound (q == p) _ xs s
before-fact p m (Pool q (ConnectionCreated e)) xs s = if-sound (q == p) _ xs s
before-fact p m (Pool q (ConnectionClosed e)) xs s = if-sound (q == p) _ xs s
before-fact p m (Pool q (ConnectionCheckedIn e)) xs s = if-sound (q == p) _ xs s
before-fact p m (Granted r q c) xs s = if-sound (q == p) _ xs s
before-fact p m (Ended r end) xs s = if-sound (has_asked xs r) _ xs s
before-fact p m (Raised q service error) xs s = if-sound (q == p) _ xs s
before-fact p m _ xs s = s

before-facts : (p m : ℕ) (fs : List Fact) (xs : List PoolItem) → Sound (after_facts p m fs xs) → Sound xs
before-facts p m [] xs s = s
before-facts p m (f ∷ fs) xs s = before-fact p m f xs (before-facts p m fs (after_fact p m f xs) s)

-- a connection that was just granted or established lives
given-lives : (xs : List PoolItem) → Sound xs → (c : ℕ) → just_given xs c ≡ true → is_live xs c ≡ true
given-lives (granted r d ∷ xs) s c e = one-lives xs c (named-lives xs (granted r d) s c e refl)
given-lives (established d how m ∷ xs) s c e = one-lives xs c (named-lives xs (established d how m) s c e refl)
given-lives _ s c e = cc

module _ (p m : ℕ) (act : Act) where
  name-one : (first : Bool) (xs : List PoolItem) (f : Fact) → Sound xs → IsPlaced p m act first xs f → NamesSo p m act first xs f
  name-one first xs (Pool q (ConnectionReady e)) s w = w
  name-one first xs (Pool q (ConnectionCheckedOut e)) s w = λ i. record { given = w i; lives = given-lives xs s e.connection_id (w i) }
  name-one first xs _ s w = tt

  -- where the items are sound with the facts, what stands at its place names a living connection
  name-all : (first : Bool) (fs : List Fact) (xs : List PoolItem) → Sound (after_facts p m fs xs) → AllPlaced p m act first xs fs → AllNameSo p m act first xs fs
  name-all first [] xs s w = tt
  name-all first (f ∷ fs) xs s w = (name-one first xs f (before-facts p m (f ∷ fs) xs s) w.0, name-all false fs (after_fact p m f xs) s w.1)

-- an answer that keeps the history sound
answer-names : (o : Options) (h : List Item) (step : Step) → SoundHistory (with_answer step (answer o h step).reply (answer o h step).facts h) → AnswerNames h step (answer o h step).facts
answer-names o h step sound p = on (refusal o h step) refl sound
  where
    by : (reply : Reply) → SoundHistory (with_facts step.moment (step_facts o h step) (did step reply ∷ h)) → AllNameSo p step.moment step.act true (with_act p h step) (step_facts o h step)
    by reply s = name-all p step.moment step.act true (step_facts o h step) (with_act p h step) (subst Sound (of_pool-with_facts p step.moment (step_facts o h step) (did step reply ∷ h)) (each-sound (with_facts step.moment (step_facts o h step) (did step reply ∷ h)) s p)) (step-placed o h step p)

    on : (why : Option RefusedBy) → refusal o h step ≡ why → SoundHistory (with_answer step (answer o h step).reply (answer o h step).facts h) → AllNameSo p step.moment step.act true (with_act p h step) (answer o h step).facts
    on (Some why) e s = rw e tt
    on None e s =
        let told : Reply = reply_to o h step (with_facts step.moment (step_facts o h step) (begun h step)) step.act in
        let same : answer o h step ≡ record { reply = told; facts = step_facts o h step } = rw e refl in
        let z : SoundHistory (with_answer step told (step_facts o h step) h) = subst (λ (a : Answer). SoundHistory (with_answer step a.reply a.facts h)) same s in
        rw e (by told (subst SoundHistory (with_answer-accepted step told (step_facts o h step) h (accepted-reply o h step (with_facts step.moment (step_facts o h step) (begun h step)) step.act)) z))

pub driver-names : (w : TopologyCore) (h : List Item) (step : Step) → StandsFor w h → IsDriverAct step.act → SoundHistory h → AnswerNames h step (answer w.options h step).facts
driver-names w h step z d s = answer-names w.options h step (keeps-sound w h z s step d)

-- the entries that a driver made after a log
driven-names : (o : Options) (first : Entry) (log es : List Entry) → options_in first.step.act ≡ o → Stood o (first ∷ log) → AreDriven o (first ∷ log) es → SoundHistory (history_of (first ∷ log)) → EntriesName (history_of (first ∷ log)) es
driven-names o first log [] own stood driven sound = tt
driven-names o first log (e ∷ es) own stood driven sound =
    let h : List Item = history_of (first ∷ log) in
    let w : TopologyCore = stood.driver in
    let same : answer_after (first ∷ log) e.step ≡ answer w.options h e.step = ap (λ (q : Options). answer q h e.step) (own ∙ sym stood.own) in
    let told : SoundHistory (with_answer e.step (answer w.options h e.step).reply (answer w.options h e.step).facts h) = keeps-sound w h stood.stands sound e.step driven.0.taken in
    let made : SoundHistory (with_answer e.step (answer_after (first ∷ log) e.step).reply (answer_after (first ∷ log) e.step).facts h) =
    subst (λ (a : Answer). SoundHistory (with_answer e.step a.reply a.facts h)) (sym same) told in
    let mine : SoundHistory (with_answer e.step e.reply e.facts h) = subst (λ (x : Entry). SoundHistory (with_answer e.step x.reply x.facts h)) (sym driven.0.answers) made in
    let longer : history_of (first ∷ (log ++ e ∷ [])) ≡ with_answer e.step e.reply e.facts h = with_entries-append (first ∷ log) e [] in
    let now : SoundHistory (history_of (first ∷ (log ++ e ∷ []))) = subst SoundHistory (sym longer) mine in
    let right : AnswerNames h e.step (answer w.options h e.step).facts = answer-names w.options h e.step told in
    let here : AnswerNames h e.step (answer_after (first ∷ log) e.step).facts = subst (λ (a : Answer). AnswerNames h e.step a.facts) (sym same) right in
    let one : AnswerNames h e.step e.facts = subst (λ (x : Entry). AnswerNames h e.step x.facts) (sym driven.0.answers) here in
    (one, subst (λ k. EntriesName k es) longer (driven-names o first (log ++ e ∷ []) es own driven.0.stood driven.1 now))

pub log-names : (w : TopologyCore) (log : List Entry) → IsDriverOf w log → EntriesName [] log
log-names w log z =
    let first : Entry = entry_after z.seat [] (opening_step w.options) in
    let more : EntriesName (history_of (first ∷ [])) z.entries = driven-names w.options first [] z.entries refl z.began z.driven (opening-sound w.options) in
    subst (EntriesName []) (sym z.logged) (answer-names w.options [] (opening_step w.options) (opening-sound w.options), more)
