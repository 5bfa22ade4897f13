-- Every close in the answers and the log of a driver has a cause.
use Rattle.std.proofs.Common.{ℕ, ◌≡◌, true, List, [], ◌∷◌, ◌++◌, Option, Some, None, is_some, nat_lt, refl, sym, ◌∙◌, ap, subst}
use Rattle.mdb_base.specs.declared.address.ServerAddress.{ServerAddress}
use Rattle.mdb_base.specs.declared.options.Options.{Options}
use Rattle.mdb_describe.specs.Servers.{in_order, is_known}
use Rattle.mdb_log.specs.declared.log.Entry.{Entry}
use Rattle.mdb_log.specs.declared.step.Step.{Step}
use Rattle.mdb_log.specs.declared.step.Act.{Act}
use Rattle.mdb_log.specs.declared.step.Act.TheVariants as Do
use Rattle.mdb_log.specs.declared.reply.Refused.{Refused as RefusedBy}
use Rattle.mdb_log.specs.declared.reply.Refused.TheVariants.{TimeBack}
use Rattle.mdb_log.specs.declared.reply.Reply.{Reply}
use Rattle.mdb_log.specs.declared.reply.Reply.TheVariants.{Refused}
use Rattle.mdb_log.specs.Acts.{IsDriverAct}
use Rattle.mdb_log.specs.Answer.{Answer}
use Rattle.mdb_log.specs.History.{Item, of_pool, open_pool, last_moment, with_act, with_facts, with_answer, history_of}
use Rattle.mdb_log.specs.Opening.{pool_options}
use Rattle.mdb_log.proofs.Later.{with_entries-append}
use Rattle.mdb_pool_rules.specs.Refusal.{first_row}
use Rattle.mdb_pool_rules.proofs.FirstRow.{first-passes}
use Rattle.mdb_pool_rules.specs.Rested.{Rested}
use Rattle.mdb_topology.specs.declared.topology.TopologyCore.{TopologyCore}
use Rattle.mdb_driver_rules.specs.Answer.{answer, reply_to}
use Rattle.mdb_driver_rules.specs.Description.{description_of}
use Rattle.mdb_driver_rules.specs.Facts.{step_facts}
use Rattle.mdb_driver_rules.specs.Homes.{begun}
use Rattle.mdb_driver_rules.specs.Lines.{options_in, answer_after, entry_after}
use Rattle.mdb_topology.specs.Logging.{opening_step, Stood, AreDriven, IsDriverOf}
use Rattle.mdb_driver_rules.specs.Refusal.{rows_of, first_refusal, exhausted, ran_out, refused_by, refusal}
use Rattle.mdb_topology.specs.Standing.{StandsFor}
use Rattle.mdb_histories.specs.SoundHistory.{SoundHistory}
use Rattle.mdb_histories.proofs.Answers.{keeps-sound, opening-sound}
use Rattle.mdb_histories.proofs.Rest.{rested-none, each-rested}
use Rattle.mdb_pool_laws.specs.CloseCauses.{AllCaused, AnswerCaused, EntriesCaused}
use Rattle.mdb_pool_laws.specs.Dues.{AnswerDue, EntriesDue}
use Rattle.mdb_laws.proofs.OfCloses.Duties.{act-due}
use Rattle.mdb_laws.proofs.OfCloses.Failed.{driver-failed}
use Rattle.mdb_laws.proofs.OfCloses.Steps.{pool-caused, outside-caused}

first-none : (a b : Option RefusedBy) → refused_by a b ≡ None → a ≡ None
first-none None b e = refl
first-none (Some why) b e = cc

-- an accepted step is refused by no row
rows-pass : (o : Options) (h : List Item) (step : Step) → refusal o h step ≡ None → first_row (rows_of o h step.act) ≡ None
rows-pass o h step e =
    let first : first_refusal o h step ≡ None = first-none (first_refusal o h step) (ran_out (exhausted o h step (step_facts o h step))) e in
    (first-passes (nat_lt step.moment (last_moment h)) (TimeBack (last_moment h)) (rows_of o h step.act) first).1

-- a refused step has no facts
module _ (o : Options) (h : List Item) (step : Step) (p : ℕ) (caused : first_row (rows_of o h step.act) ≡ None → AllCaused p (pool_options o) (open_pool h) step.moment step.act (of_pool p (begun h step)) (step_facts o h step)) where
  answer-caused : AllCaused p (pool_options o) (open_pool h) step.moment step.act (with_act p h step) (answer o h step).facts
  answer-caused = on (refusal o h step) refl
    where
      on : (why : Option RefusedBy) → refusal o h step ≡ why → AllCaused p (pool_options o) (open_pool h) step.moment step.act (with_act p h step) (answer o h step).facts
      on (Some why) e = rw e tt
      on None e = rw e (caused (rows-pass o h step e))

module _ (w : TopologyCore) (h : List Item) (z : StandsFor w h) (s : SoundHistory h) where
  abbrev o : Options
  o = w.options

  rest : (p : ℕ) → Rested (of_pool p h)
  rest = each-rested (pool_options o) w.pools.cores.items h z.pools.fit

  ordered : in_order (description_of o h).servers ≡ true
  ordered = rw z.described.known z.described.ordered

  open-for : (a : ServerAddress) → is_some (open_pool h a) ≡ is_known a (description_of o h).servers
  open-for a = rw z.described.known (z.described.open_for a)

  caused-by : (p m : ℕ) (act : Act) → IsDriverAct act → first_row (rows_of o h act) ≡ None → AllCaused p (pool_options o) (open_pool h) m act (of_pool p (begun h (record { moment = m; act = act }))) (step_facts o h (record { moment = m; act = act }))
  caused-by p m (Do.Failed q c at error) d rows = driver-failed o h s rest m q c at error rows ordered open-for p
  caused-by p m (Do.Error r e) d rows = outside-caused o h s rest (record { moment = m; act = Do.Error r e }) rows p tt
  caused-by p m (Do.Hello a q came) d rows = outside-caused o h s rest (record { moment = m; act = Do.Hello a q came }) rows p tt
  caused-by p m (Do.Beat a q) d rows = outside-caused o h s rest (record { moment = m; act = Do.Beat a q }) rows p tt
  caused-by p m (Do.Beaten a q n came) d rows = outside-caused o h s rest (record { moment = m; act = Do.Beaten a q n came }) rows p tt
  caused-by p m (Do.Rtt a q n) d rows = outside-caused o h s rest (record { moment = m; act = Do.Rtt a q n }) rows p tt
  caused-by p m (Do.Hosts hosts) d rows = outside-caused o h s rest (record { moment = m; act = Do.Hosts hosts }) rows p tt
  caused-by p m (Do.ClusterTime t) d rows = outside-caused o h s rest (record { moment = m; act = Do.ClusterTime t }) rows p tt
  caused-by p m (Do.Want r) d rows = outside-caused o h s rest (record { moment = m; act = Do.Want r }) rows p tt
  caused-by p m (Do.Unwant r) d rows = outside-caused o h s rest (record { moment = m; act = Do.Unwant r }) rows p tt
  caused-by p m Do.Stop d rows = outside-caused o h s rest (record { moment = m; act = Do.Stop }) rows p tt
  caused-by p m (Do.Open q) d rows = absurd d
  caused-by p m (Do.Ready q) d rows = absurd d
  caused-by p m (Do.Clear q service error) d rows = absurd d
  caused-by p m (Do.Close q) d rows = absurd d
  caused-by p m (Do.Request r a) d rows = pool-caused o h s rest (record { moment = m; act = Do.Request r a }) rows p refl
  caused-by p m (Do.Warm r a) d rows = pool-caused o h s rest (record { moment = m; act = Do.Warm r a }) rows p refl
  caused-by p m (Do.Maintain a) d rows = pool-caused o h s rest (record { moment = m; act = Do.Maintain a }) rows p refl
  caused-by p m (Do.Expire a) d rows = pool-caused o h s rest (record { moment = m; act = Do.Expire a }) rows p refl
  caused-by p m (Do.Collect r) d rows = pool-caused o h s rest (record { moment = m; act = Do.Collect r }) rows p refl
  caused-by p m Do.Claim d rows = pool-caused o h s rest (record { moment = m; act = Do.Claim }) rows p refl
  caused-by p m (Do.GiveUp r) d rows = pool-caused o h s rest (record { moment = m; act = Do.GiveUp r }) rows p refl
  caused-by p m (Do.Established q c how) d rows = pool-caused o h s rest (record { moment = m; act = Do.Established q c how }) rows p refl
  caused-by p m (Do.Return r used) d rows = pool-caused o h s rest (record { moment = m; act = Do.Return r used }) rows p refl
  caused-by p m (Do.Pin r) d rows = pool-caused o h s rest (record { moment = m; act = Do.Pin r }) rows p refl
  caused-by p m (Do.Replicate q c) d rows = pool-caused o h s rest (record { moment = m; act = Do.Replicate q c }) rows p refl
  caused-by p m (Do.Take r q c) d rows = pool-caused o h s rest (record { moment = m; act = Do.Take r q c }) rows p refl
  caused-by p m (Do.Unpin q c) d rows = pool-caused o h s rest (record { moment = m; act = Do.Unpin q c }) rows p refl

  -- what an accepted step has to close
  pub driver-due : (step : Step) → AnswerDue (pool_options o) h step (answer o h step).reply (answer o h step).facts
  driver-due step = on (refusal o h step) refl
    where
      by : (reply : Reply) → refusal o h step ≡ None → AnswerDue (pool_options o) h step reply (step_facts o h step)
      by (Refused why) e = tt
      by _ e = λ p. act-due o h s rest p step.moment step.act (rows-pass o h step e)

      on : (why : Option RefusedBy) → refusal o h step ≡ why → AnswerDue (pool_options o) h step (answer o h step).reply (answer o h step).facts
      on (Some why) e = rw e tt
      on None e = rw e (by (reply_to o h step (with_facts step.moment (step_facts o h step) (begun h step)) step.act) e)

  pub driver-caused : (step : Step) → IsDriverAct step.act → AnswerCaused (pool_options o) h step (answer o h step).facts
  driver-caused step d p = answer-caused o h step p (caused-by p step.moment step.act d)

-- the answer to the opening of a driver
opening-caused : (o : Options) → AnswerCaused (pool_options o) [] (opening_step o) (answer o [] (opening_step o)).facts
opening-caused o p = answer-caused o [] (opening_step o) p (λ rows. outside-caused o [] tt (λ q. rested-none) (opening_step o) rows p tt)

-- the answer to the opening names nothing to close
opening-due : (o : Options) → AnswerDue (pool_options o) [] (opening_step o) (answer o [] (opening_step o)).reply (answer o [] (opening_step o)).facts
opening-due o = by (answer o [] (opening_step o)).reply
  where
    by : (reply : Reply) → AnswerDue (pool_options o) [] (opening_step o) reply (answer o [] (opening_step o)).facts
    by (Refused why) = tt
    by _ = λ p. tt

-- an answer as it should be, and all entries
abbrev Right : Options → List Item → Step → Answer → Type 0
Right o h step a = AnswerCaused (pool_options o) h step a.facts × AnswerDue (pool_options o) h step a.reply a.facts

abbrev AllRight : Options → List Item → List Entry → Type 0
AllRight o h es = EntriesCaused (pool_options o) h es × EntriesDue (pool_options o) h es

-- the entries that a driver made after a log
driven-right : (o : Options) (first : Entry) (log es : List Entry) → options_in first.step.act ≡ o → Stood o (first ∷ log) → AreDriven o (first ∷ log) es → SoundHistory (history_of (first ∷ log)) → AllRight o (history_of (first ∷ log)) es
driven-right o first log [] own stood driven sound = (tt, tt)
driven-right o first log (e ∷ es) own stood driven sound =
    let h : List Item = history_of (first ∷ log) in
    let w : TopologyCore = stood.driver in
    let same : answer_after (first ∷ log) e.step ≡ answer w.options h e.step = ap (λ (q : Options). answer q h e.step) (own ∙ sym stood.own) in
    let told : SoundHistory (with_answer e.step (answer w.options h e.step).reply (answer w.options h e.step).facts h) = keeps-sound w h stood.stands sound e.step driven.0.taken in
    let made : SoundHistory (with_answer e.step (answer_after (first ∷ log) e.step).reply (answer_after (first ∷ log) e.step).facts h) =
    subst (λ (a : Answer). SoundHistory (with_answer e.step a.reply a.facts h)) (sym same) told in
    let mine : SoundHistory (with_answer e.step e.reply e.facts h) = subst (λ (x : Entry). SoundHistory (with_answer e.step x.reply x.facts h)) (sym driven.0.answers) made in
    let longer : history_of (first ∷ (log ++ e ∷ [])) ≡ with_answer e.step e.reply e.facts h = with_entries-append (first ∷ log) e [] in
    let now : SoundHistory (history_of (first ∷ (log ++ e ∷ []))) = subst SoundHistory (sym longer) mine in
    let right : Right o h e.step (answer w.options h e.step) = subst (λ (q : Options). Right q h e.step (answer w.options h e.step)) stood.own (driver-caused w h stood.stands sound e.step driven.0.taken, driver-due w h stood.stands sound e.step) in
    let here : Right o h e.step (answer_after (first ∷ log) e.step) = subst (Right o h e.step) (sym same) right in
    let one : Right o h e.step (record { reply = e.reply; facts = e.facts }) = subst (λ (x : Entry). Right o h e.step (record { reply = x.reply; facts = x.facts })) (sym driven.0.answers) here in
    let more : AllRight o (with_answer e.step e.reply e.facts h) es = subst (λ k. AllRight o k es) longer (driven-right o first (log ++ e ∷ []) es own driven.0.stood driven.1 now) in
    ((one.0, more.0), (one.1, more.1))

log-right : (w : TopologyCore) (log : List Entry) → IsDriverOf w log → AllRight w.options [] log
log-right w log z =
    let first : Entry = entry_after z.seat [] (opening_step w.options) in
    let more : AllRight w.options (history_of (first ∷ [])) z.entries = driven-right w.options first [] z.entries refl z.began z.driven (opening-sound w.options) in
    subst (AllRight w.options []) (sym z.logged) ((opening-caused w.options, more.0), (opening-due w.options, more.1))

pub log-caused : (w : TopologyCore) (log : List Entry) → IsDriverOf w log → EntriesCaused (pool_options w.options) [] log
log-caused w log z = (log-right w log z).0

pub log-due : (w : TopologyCore) (log : List Entry) → IsDriverOf w log → EntriesDue (pool_options w.options) [] log
log-due w log z = (log-right w log z).1
