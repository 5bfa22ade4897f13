-- Grants in the answer to a step of a driver, where the history is sound with the answer.
use Rattle.std.proofs.Common.{ℕ, ◌≡◌, List, [], ◌∷◌, ◌++◌, Option, Some, None, refl, subst}
use Rattle.std.specs.Prelude.{⊤}
use Rattle.mdb_base.specs.declared.options.Options.{Options}
use Rattle.mdb_events.specs.declared.fact.Fact.{Fact}
use Rattle.mdb_log.specs.declared.step.Step.{Step}
use Rattle.mdb_log.specs.declared.reply.Refused.{Refused}
use Rattle.mdb_log.specs.declared.reply.Reply.{Reply}
use Rattle.mdb_log.specs.declared.reply.Reply.TheVariants.{Done}
use Rattle.mdb_log.specs.History.{Item, did, made, of_pool, with_facts, with_answer}
use Rattle.mdb_log.specs.Homes.{Home}
use Rattle.mdb_log.specs.Opening.{pool_options}
use Rattle.mdb_log.proofs.Later.{with_answer-accepted}
use Rattle.mdb_driver_rules.specs.Answer.{answer, reply_to}
use Rattle.mdb_driver_rules.specs.Description.{description_of, rule_after}
use Rattle.mdb_driver_rules.specs.Facts.{trouble, clear_of, clearing, asking, own_facts, serve_all, parts, step_facts}
use Rattle.mdb_driver_rules.specs.Homes.{home_of, begun}
use Rattle.mdb_driver_rules.specs.Monitors.{heartbeat}
use Rattle.mdb_driver_rules.specs.Publishing.{told_by}
use Rattle.mdb_driver_rules.specs.Refusal.{refusal}
use Rattle.mdb_driver_rules.specs.Turns.{in_turn}
use Rattle.mdb_topology.proofs.OfMonitors.FactsOfCheck.{heartbeat-calm}
use Rattle.mdb_histories.specs.SoundHistory.{SoundHistory, MayCome}
use Rattle.mdb_histories.proofs.Comes.{AllMayCome, come-sound}
use Rattle.mdb_histories.proofs.Replies.{accepted-reply, like-reply, like-come}
use Rattle.mdb_histories.proofs.Troubles.{asking-calm}
use Rattle.mdb_pool_laws.proofs.OfSearches.Alone.{bound, act-grants-nothing}
use Rattle.mdb_laws.specs.Searches.{AllLastGrants, AnswerGrantsLast}
use Rattle.mdb_laws.proofs.OfCloses.Pools.{come-split}
use Rattle.mdb_laws.proofs.OfNames.Plain.{calm-plain}
use Rattle.mdb_laws.proofs.OfNames.Published.{PartsPlain, told-plain, clearing-plain}
use Rattle.mdb_laws.proofs.OfSearches.Facts.{last-both, plain-last, calm-last, same-last, serve-all-last}

-- what is sound with facts was sound without them, and each may come
comes : (m : ℕ) (fs : List Fact) (k : List Item) → SoundHistory (with_facts m fs k) → AllMayCome m k fs × SoundHistory k
comes m [] k s = (tt, s)
comes m (f ∷ fs) k s = let w : AllMayCome m (made m f ∷ k) fs × SoundHistory (made m f ∷ k) = comes m fs (made m f ∷ k) s in ((w.1.0, w.0), w.1.1)

module _ (m : ℕ) where
  -- after each sound history in which its facts may come
  abbrev PartLast : (List Item → List Fact) → Type 0
  PartLast part = (k : List Item) → SoundHistory k → AllMayCome m k (part k) → AllLastGrants m k (part k)

  abbrev PartsLast : List (List Item → List Fact) → Type 0
  PartsLast [] = ⊤
  PartsLast (part ∷ more) = PartLast part × PartsLast more

  plain-then : (says more : List (List Item → List Fact)) → PartsPlain says → PartsLast more → PartsLast (says ++ more)
  plain-then [] more a b = b
  plain-then (part ∷ says) more a b = (λ k s c. plain-last m (part k) k (a.0 k), plain-then says more a.1 b)

  turns-last : (says : List (List Item → List Fact)) → PartsLast says → (k : List Item) → SoundHistory k → AllMayCome m k (in_turn m says k) → AllLastGrants m k (in_turn m says k)
  turns-last [] w k s c = tt
  turns-last (part ∷ says) w k s c =
      let j : List Item = with_facts m (part k) k in
      let d : AllMayCome m k (part k) × AllMayCome m j (in_turn m says j) = come-split m (part k) (in_turn m says j) k c in
      last-both m (part k) (in_turn m says j) k (w.0 k s d.0) (turns-last says w.1 j (come-sound m (part k) k s d.0) d.1)

module _ (o : Options) (h : List Item) (step : Step) where
  abbrev m : ℕ
  m = step.moment

  own-last : (x : Option Home) (k : List Item) → AllLastGrants m k (own_facts o h step x k)
  own-last None k = tt
  own-last (Some x) k =
      calm-last m (bound (of_pool x.number h) step.act) (own_facts o h step (Some x) k) k
      (act-grants-nothing x.number x.address (pool_options o) m (of_pool x.number h) (of_pool x.number k) step.act)

  step-last : SoundHistory (begun h step) → AllMayCome m (begun h step) (step_facts o h step) → AllLastGrants m (begun h step) (step_facts o h step)
  step-last s c = turns-last m (parts o h step) (
    λ k t d. plain-last m (heartbeat o h step.act) k (calm-plain (heartbeat o h step.act) (heartbeat-calm o h step.act)),
    plain-then m (told_by o m (rule_after o h step) (description_of o h)) (clearing o m (trouble o h step) (clear_of o h step) ∷ asking o (trouble o h step) (clear_of o h step) ∷ own_facts o h step (home_of h step.act) ∷ serve_all o m ∷ []) (told-plain o m (rule_after o h step) (description_of o h)) (
      λ k t d. plain-last m (clearing o m (trouble o h step) (clear_of o h step) k) k (clearing-plain o m (trouble o h step) (clear_of o h step) k),
      (
        λ k t d. plain-last m (asking o (trouble o h step) (clear_of o h step) k) k (calm-plain (asking o (trouble o h step) (clear_of o h step) k) (asking-calm o (trouble o h step) (clear_of o h step) k)),
        (λ k t d. own-last (home_of h step.act) k, (λ k t d. serve-all-last o m k t d, tt)),
      ),
    ),
  ) (begun h step) s c

  -- an accepted step with its reply
  accepted-last : (reply : Reply) → SoundHistory (with_facts m (step_facts o h step) (did step reply ∷ h)) → AllLastGrants m (did step reply ∷ h) (step_facts o h step)
  accepted-last reply s =
      let w : AllMayCome m (did step reply ∷ h) (step_facts o h step) × SoundHistory (did step reply ∷ h) = comes m (step_facts o h step) (did step reply ∷ h) s in
      let first : MayCome h (did step Done) = record { in_each = w.1.0.in_each; names = w.1.0.names } in
      let come : AllMayCome m (begun h step) (step_facts o h step) = like-come m (step_facts o h step) (did step reply ∷ h) (begun h step) (like-reply step reply Done h) w.0 in
      same-last m (step_facts o h step) (begun h step) (did step reply ∷ h) (λ p. refl) (step-last (first, w.1.1) come)

  pub answer-last : SoundHistory (with_answer step (answer o h step).reply (answer o h step).facts h) → AnswerGrantsLast o h step (answer o h step)
  answer-last sound = on (refusal o h step) refl sound
    where
      on : (why : Option Refused) → refusal o h step ≡ why → SoundHistory (with_answer step (answer o h step).reply (answer o h step).facts h) → AnswerGrantsLast o h step (answer o h step)
      on (Some why) e s = rw e tt
      on None e s =
          let told : Reply = reply_to o h step (with_facts m (step_facts o h step) (begun h step)) step.act in
          let same : answer o h step ≡ record { reply = told; facts = step_facts o h step } = rw e refl in
          let z : SoundHistory (with_answer step told (step_facts o h step) h) = subst (λ a. SoundHistory (with_answer step a.reply a.facts h)) same s in
          rw e (accepted-last told (subst SoundHistory (with_answer-accepted step told (step_facts o h step) h (accepted-reply o h step (with_facts m (step_facts o h step) (begun h step)) step.act)) z))
