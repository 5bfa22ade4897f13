-- Every entry in the log of a driver has its causes, and no late error an effect.
use Rattle.std.proofs.Common.{◌≡◌, List, [], ◌∷◌, ◌++◌, Option, Some, None, refl, sym, ap, subst}
use Rattle.mdb_base.specs.OptionRules.{broken_rule}
use Rattle.mdb_base.specs.declared.options.Options.{Options}
use Rattle.mdb_log.specs.declared.log.Entry.{Entry}
use Rattle.mdb_log.specs.declared.step.Step.{Step}
use Rattle.mdb_log.specs.declared.reply.Refused.{Refused as Why}
use Rattle.mdb_log.specs.declared.reply.Reply.{Reply}
use Rattle.mdb_log.specs.declared.reply.Reply.TheVariants.{Refused}
use Rattle.mdb_log.specs.Acts.{IsDriverAct}
use Rattle.mdb_log.specs.Answer.{Answer}
use Rattle.mdb_log.specs.History.{Item, with_facts, with_answer, history_of}
use Rattle.mdb_log.specs.Own.{IsAccepted}
use Rattle.mdb_log.proofs.Later.{with_entries-append}
use Rattle.mdb_topology.specs.declared.topology.TopologyCore.{TopologyCore}
use Rattle.mdb_driver_rules.specs.Answer.{answer, answered}
use Rattle.mdb_driver_rules.specs.Facts.{step_facts}
use Rattle.mdb_driver_rules.specs.Homes.{begun}
use Rattle.mdb_driver_rules.specs.Lines.{options_of, options_in, answer_after, entry_after}
use Rattle.mdb_topology.specs.Logging.{opening_step, Stood, AreDriven, IsDriverOf}
use Rattle.mdb_driver_rules.specs.Refusal.{refusal}
use Rattle.mdb_topology.specs.Standing.{StandsFor}
use Rattle.mdb_laws.specs.Causes.{TellsCauses, HasCauses}
use Rattle.mdb_laws.specs.Logs.{TellsByReply, AnswerTells, EachEntry, TellsAllCauses}
use Rattle.mdb_laws.proofs.Causes.{accepts, causes, has-causes}
use Rattle.mdb_laws.proofs.Opening.{nothing-sound, opening-marks}
use Rattle.mdb_laws.proofs.Spared.{stale-spares}
use Rattle.mdb_laws.proofs.Stale.{stale-without-effect}

-- an accepted answer is one of a step that no row refuses
module _ (o : Options) (h : List Item) (step : Step) where
  not-refused : IsAccepted (answer o h step).reply → refusal o h step ≡ None
  not-refused a = on (refusal o h step) refl
    where
      on : (x : Option Why) → refusal o h step ≡ x → refusal o h step ≡ None
      on None e = e
      on (Some why) e = absurd (subst (λ x. IsAccepted (answered o h step x (step_facts o h step)).reply) e a)

  by-reply : (a : Answer) → TellsCauses o h step a → IsAccepted a.reply → TellsByReply o h step a a.reply
  by-reply a t i = on a.reply i
    where
      on : (r : Reply) → IsAccepted r → TellsByReply o h step a r
      on (Refused why) j = absurd j
      on _ j = t

  told-causes : (refusal o h step ≡ None → HasCauses o h step) → TellsByReply o h step (answer o h step) (answer o h step).reply
  told-causes causes = on (refusal o h step) refl
    where
      reply-is : refusal o h step ≡ None → IsAccepted (answer o h step).reply
      reply-is e = rw e (accepts o h step (with_facts step.moment (step_facts o h step) (begun h step)) step.act)

      on : (x : Option Why) → refusal o h step ≡ x → TellsByReply o h step (answer o h step) (answer o h step).reply
      on (Some why) e = rw e refl
      on None e = by-reply (answer o h step) (causes e) (reply-is e)

answer-tells : (w : TopologyCore) (h : List Item) (step : Step) → StandsFor w h → IsDriverAct step.act → AnswerTells w.options h step (answer w.options h step)
answer-tells w h step z driver = record {
  causes = told-causes w.options h step (has-causes w h step z driver);
  errors = λ a s. stale-without-effect w h step z (not-refused w.options h step a) s;
  failures = λ a s. stale-spares w h step z (not-refused w.options h step a) s;
}

opening-tells : (o : Options) → broken_rule o ≡ None → AnswerTells o [] (opening_step o) (answer o [] (opening_step o))
opening-tells o kept = record {
  causes = told-causes o [] (opening_step o) (causes o [] 0 (opening_step o).act (nothing-sound o) (opening-marks o kept));
  errors = λ a s. cc;
  failures = λ a s. cc;
}

-- the entries that a driver made after a log
driven-tells : (o : Options) (first : Entry) (log es : List Entry) → options_in first.step.act ≡ o → Stood o (first ∷ log) → AreDriven o (first ∷ log) es → EachEntry AnswerTells o (history_of (first ∷ log)) es
driven-tells o first log [] own stood driven = tt
driven-tells o first log (e ∷ es) own stood driven =
    let h : List Item = history_of (first ∷ log) in
    let w : TopologyCore = stood.driver in
    let same : answer_after (first ∷ log) e.step ≡ answer o h e.step = ap (λ (q : Options). answer q h e.step) own in
    let right : AnswerTells o h e.step (answer o h e.step) = subst (λ (q : Options). AnswerTells q h e.step (answer q h e.step)) stood.own (answer-tells w h e.step stood.stands driven.0.taken) in
    let here : AnswerTells o h e.step (answer_after (first ∷ log) e.step) = subst (AnswerTells o h e.step) (sym same) right in
    let one : AnswerTells o h e.step (record { reply = e.reply; facts = e.facts }) = subst (λ (x : Entry). AnswerTells o h e.step (record { reply = x.reply; facts = x.facts })) (sym driven.0.answers) here in
    let longer : history_of (first ∷ (log ++ e ∷ [])) ≡ with_answer e.step e.reply e.facts h = with_entries-append (first ∷ log) e [] in
    (one, subst (λ k. EachEntry AnswerTells o k es) longer (driven-tells o first (log ++ e ∷ []) es own driven.0.stood driven.1))

-- the options of a driver are those of its opening
pub options-are : (w : TopologyCore) (log : List Entry) → IsDriverOf w log → options_of log ≡ w.options
options-are w log z = ap options_of z.logged

pub log-tells : (w : TopologyCore) (log : List Entry) → IsDriverOf w log → TellsAllCauses log
log-tells w log z =
    let first : Entry = entry_after z.seat [] (opening_step w.options) in
    let more : EachEntry AnswerTells w.options (history_of (first ∷ [])) z.entries = driven-tells w.options first [] z.entries refl z.began z.driven in
    let all : EachEntry AnswerTells w.options [] log = subst (EachEntry AnswerTells w.options []) (sym z.logged) (opening-tells w.options z.fits, more) in
    subst (λ (q : Options). EachEntry AnswerTells q [] log) (sym (options-are w log z)) all
