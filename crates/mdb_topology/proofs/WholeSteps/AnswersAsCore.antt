-- What a step of a driver answers is what every core of many pools answers.
use Rattle.std.proofs.Common.{ℕ, ◌≡◌, ◌≤◌, Bool, true, false, List, ◌∷◌, Option, Some, None, nat_lt, refl, sym, ◌∙◌, ap, subst, arith}
use Rattle.std.proofs.lemmas.Bool.Decides.{nat_tests}
use Rattle.std.proofs.lemmas.Bool.{or_right}
use Rattle.mdb_base.specs.declared.options.Options.{Options}
use Rattle.mdb_events.specs.declared.fact.Fact.{Fact}
use Rattle.mdb_log.specs.declared.job.Job.{Job as JobRecord}
use Rattle.mdb_log.specs.declared.step.Step.{Step}
use Rattle.mdb_log.specs.declared.step.Act.{Act}
use Rattle.mdb_log.specs.declared.step.Act.TheVariants as Do
use Rattle.mdb_log.specs.declared.reply.Refused.{Refused as Why}
use Rattle.mdb_log.specs.declared.reply.Refused.TheVariants.{TimeBack}
use Rattle.mdb_log.specs.declared.reply.Reply.{Reply}
use Rattle.mdb_log.specs.declared.reply.Reply.TheVariants.{Job}
use Rattle.mdb_log.specs.Acts.{IsDriverAct}
use Rattle.mdb_log.specs.Answer.{Answer}
use Rattle.mdb_log.specs.Driver.{tells_outcome, answers, is_reply_to, is_in_time, is_refusal, IsThere}
use Rattle.mdb_log.specs.History.{Item, of_pool, with_facts, with_answer, last_moment}
use Rattle.mdb_log.specs.Opening.{pool_options}
use Rattle.mdb_pool.specs.Core.{PoolCore}
use Rattle.mdb_pool_rules.specs.Refusal.{first_row}
use Rattle.mdb_topology.specs.declared.topology.TopologyCore.{TopologyCore}
use Rattle.mdb_driver_rules.specs.Homes.{home_of, home_at, begun}
use Rattle.mdb_driver_rules.specs.Answer.{pool_reply, reply_to, answer, answered}
use Rattle.mdb_driver_rules.specs.Facts.{step_facts}
use Rattle.mdb_driver_rules.specs.Jobs.{job_at}
use Rattle.mdb_driver_rules.specs.Refusal.{rows_of, first_refusal, ran_out, exhausted, refusal}
use Rattle.mdb_topology.specs.Standing.{StandsFor}
use Rattle.mdb_topology.proofs.OnePool.JobsAreThere.{told-there}
use Rattle.mdb_driver_pools.proofs.ReplyOfAct.{WarmPends, accepted-kind, tells-how, not-refused}
use Rattle.mdb_topology.proofs.WholeSteps.InTime.{answer-in-time, refused-in-time, claim-facts}
use Rattle.mdb_driver_pools.proofs.OnePool.WarmGetsPending.{warm-step}

abbrev is_claim : Act → Bool
is_claim Do.Claim = true
is_claim _ = false

claim-is : (act : Act) → is_claim act ≡ true → act ≡ Do.Claim
claim-is Do.Claim e = refl
claim-is _ e = cc

-- only a claim is told a job
jobless : (act : Act) (reply : Reply) → is_claim act ≡ false → answers act reply ≡ true → (job : ℕ → ℕ → Option JobRecord) → IsThere job reply
jobless (Do.Request r a) (Job p c) k e job = cc
jobless (Do.Warm r a) (Job p c) k e job = cc
jobless (Do.Collect r) (Job p c) k e job = cc
jobless Do.Claim (Job p c) k e job = cc
jobless (Do.GiveUp r) (Job p c) k e job = cc
jobless (Do.Take r q d) (Job p c) k e job = cc
jobless (Do.Error r error) (Job p c) k e job = cc
jobless (Do.Hello a q came) (Job p c) k e job = cc
jobless (Do.Beaten a q duration came) (Job p c) k e job = cc
jobless (Do.Rtt a q sample) (Job p c) k e job = cc
jobless (Do.Hosts hosts) (Job p c) k e job = cc
jobless (Do.Want x) (Job p c) k e job = cc
jobless (Do.Unwant x) (Job p c) k e job = cc
jobless _ (Job p c) k e job = cc
jobless act _ k e job = tt

not-back : (m n : ℕ) (rows : List (Bool × Why)) → first_row ((nat_lt m n, TimeBack n) ∷ rows) ≡ None → n ≤ m
not-back m n rows e = on (nat_lt m n) refl
  where
    on : (b : Bool) → nat_lt m n ≡ b → n ≤ m
    on true f = let k : ◌≡◌ {A = Option Why} (Some (TimeBack n)) None = sym (rw f refl) ∙ e in cc
    on false f = grind (arith, nat_tests)

module _ (w : TopologyCore) (h : List Item) (z : StandsFor w h) (m : ℕ) where
  abbrev o : Options
  o = w.options

  abbrev pools : List PoolCore
  pools = w.pools.cores.items

  abbrev at_m : Act → Step
  at_m act = record { moment = m; act = act }

  abbrev told : Act → List Fact
  told act = step_facts o h (at_m act)

  abbrev after : Act → List Item
  after act = with_facts m (told act) (begun h (at_m act))

  abbrev its_reply : Act → Reply
  its_reply act = reply_to o h (at_m act) (after act) act

  abbrev given_answer : Act → Answer
  given_answer act = record { reply = its_reply act; facts = told act }

  -- an accepted step comes in time
  in-order : (act : Act) → refusal o h (at_m act) ≡ None → w.pools.last ≤ m
  in-order act e =
      subst (λ n. n ≤ m) z.counts.last_is (not-back m (last_moment h) (rows_of o h act) (not-refused (first_refusal o h (at_m act)) (ran_out (exhausted o h (at_m act) (told act))) e))

  accepts : (act : Act) → refusal o h (at_m act) ≡ None → answer o h (at_m act) ≡ given_answer act
  accepts act e = ap (λ x. answered o h (at_m act) x (told act)) e

  refuses : (act : Act) (why : Why) → refusal o h (at_m act) ≡ Some why → answer o h (at_m act) ≡ answered o h (at_m act) (Some why) (told act)
  refuses act why e = ap (λ x. answered o h (at_m act) x (told act)) e

  module _ (v : TopologyCore) where
    -- the driver after the step stands for the history with its answer
    abbrev StandsAfter : Act → Answer → Type 0
    StandsAfter act a = StandsFor v (with_answer (at_m act) a.reply a.facts h)

    pends : (act : Act) → StandsAfter act (given_answer act) → WarmPends o pools h z.pools.fit m (after act) act
    pends (Do.Warm r a) s = λ x e c got. warm-step h m r a (told (Do.Warm r a)) (pool_options v.options) v.pools.cores.items (its_reply (Do.Warm r a)) (ap (λ k. tells_outcome (pool_reply h (after (Do.Warm r a)) (Do.Warm r a) k)) e ∙ tells-how x.number (of_pool x.number (after (Do.Warm r a))) r) s.pools.fit x e c got
    pends _ s = tt

    module _ (act : Act) (d : IsDriverAct act) (s : StandsAfter act (answer o h (at_m act))) where
      goes : refusal o h (at_m act) ≡ None → answers act (its_reply act) ≡ true
      goes e = accepted-kind o pools h z.pools.fit m act d e (after act) (pends act (subst (StandsAfter act) (accepts act e) s))

      -- the reply is one to the act
      pub kind : is_reply_to act (answer o h (at_m act)).reply ≡ true
      kind = on (refusal o h (at_m act)) refl
        where
          on : (x : Option Why) → refusal o h (at_m act) ≡ x → is_reply_to act (answer o h (at_m act)).reply ≡ true
          on None e = ap (λ a. is_reply_to act a.reply) (accepts act e) ∙ or_right (is_refusal (its_reply act)) (answers act (its_reply act)) (goes e)
          on (Some why) e = ap (λ a. is_reply_to act a.reply) (refuses act why e)

      pub timely : w.pools.last ≤ m → is_in_time act (answer o h (at_m act)).reply ≡ true
      timely l = on (refusal o h (at_m act)) refl
        where
          on : (x : Option Why) → refusal o h (at_m act) ≡ x → is_in_time act (answer o h (at_m act)).reply ≡ true
          on None e = ap (λ a. is_in_time act a.reply) (accepts act e) ∙ answer-in-time act (its_reply act) (goes e)
          on (Some why) e = ap (λ a. is_in_time act a.reply) (refuses act why e) ∙ refused-in-time w h z m l act why e

      -- The job that the answer tells is there after it.
      abbrev HasJob : Act → Answer → Type 0
      HasJob b a = IsThere (λ p c. job_at o (with_answer (at_m b) a.reply a.facts h) c (home_at (with_answer (at_m b) a.reply a.facts h) p)) a.reply

      claimed : refusal o h (at_m Do.Claim) ≡ None → HasJob Do.Claim (given_answer Do.Claim)
      claimed e =
          subst (λ fs. HasJob Do.Claim (record { reply = pool_reply h (with_facts m fs (begun h (at_m Do.Claim))) Do.Claim (home_of h Do.Claim); facts = fs })) (sym (claim-facts w h z m (in-order Do.Claim e)))
          (told-there o h m (home_of h Do.Claim) (begun h (at_m Do.Claim)) (pool_reply h (begun h (at_m Do.Claim)) Do.Claim (home_of h Do.Claim)) refl refl)

      pub job-there : HasJob act (answer o h (at_m act))
      job-there = on (refusal o h (at_m act)) refl
        where
          told-one : (b : Bool) → is_claim act ≡ b → refusal o h (at_m act) ≡ None → HasJob act (given_answer act)
          told-one true f e = let k : act ≡ Do.Claim = claim-is act f in subst (λ b. HasJob b (given_answer b)) (sym k) (claimed (subst (λ b. refusal o h (at_m b) ≡ None) k e))
          told-one false f e = jobless act (its_reply act) f (goes e) (λ p c. job_at o (with_answer (at_m act) (its_reply act) (told act) h) c (home_at (with_answer (at_m act) (its_reply act) (told act) h) p))

          on : (x : Option Why) → refusal o h (at_m act) ≡ x → HasJob act (answer o h (at_m act))
          on None e = subst (HasJob act) (sym (accepts act e)) (told-one (is_claim act) refl e)
          on (Some why) e = subst (HasJob act) (sym (refuses act why e)) tt
