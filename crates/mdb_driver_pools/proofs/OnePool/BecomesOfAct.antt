-- What becomes of an act of one pool.
use Rattle.std.proofs.Common.{ℕ, ◌≡◌, ◌≤◌, Bool, true, false, List, [], ◌∷◌, length, Option, Some, None, nat_lt, refl, sym, ◌∙◌, ap, subst, arith}
use Rattle.std.specs.Prelude.{slice_get, All}
use Rattle.std.proofs.lemmas.Option.{get_or_from_slice_get, slice_get_within}
use Rattle.mdb_base.specs.declared.options.Options.{Options}
use Rattle.mdb_events.specs.declared.fact.Fact.{Fact}
use Rattle.mdb_log.specs.declared.reply.Reply.{Reply}
use Rattle.mdb_log.specs.declared.step.Step.{Step}
use Rattle.mdb_log.specs.declared.step.Act.{Act}
use Rattle.mdb_log.specs.declared.step.Act.TheVariants as Do
use Rattle.mdb_log.specs.declared.reply.Refused.{Refused as Why}
use Rattle.mdb_log.specs.declared.reply.Refused.TheVariants.{TimeBack, RequestKnown}
use Rattle.mdb_log.specs.declared.reply.Reply.TheVariants.{NoJob, Refused as RefusedBy}
use Rattle.mdb_log.specs.History.{Item, of_pool, last_moment}
use Rattle.mdb_log.specs.Own.{IsAccepted}
use Rattle.mdb_log.specs.Opening.{pool_options}
use Rattle.mdb_pool.specs.Core.{PoolCore}
use Rattle.mdb_pool.specs.Now.{last_now}
use Rattle.mdb_pool.specs.declared.planning.Answered.{Answered}
use Rattle.mdb_pool.specs.Planning.{with_item, IsDone}
use Rattle.mdb_pool_rules.specs.Refusal.{first_row}
use Rattle.mdb_pool.specs.Refusing.{rows_now, refusal_now}
use Rattle.mdb_pool.proofs.Answered.Act.{not-back}
use Rattle.mdb_driver_pools.specs.declared.pool_decision.PoolDecision.{PoolDecision}
use Rattle.mdb_driver_pools.specs.declared.pool_decision.PoolDecision.TheVariants.{Refused, Idle, Concerns as ConcernsPool}
use Rattle.mdb_driver_rules.specs.Answer.{answer, answered}
use Rattle.mdb_driver_pools.specs.Asking.{Lacks, Asked, IsAsked}
use Rattle.mdb_driver_rules.specs.Description.{description_of}
use Rattle.mdb_driver_pools.specs.Finding.{index_of, names_known, missing_pool}
use Rattle.mdb_driver_rules.specs.Acts.{is_pool_act}
use Rattle.mdb_driver_rules.specs.Refusal.{rows_of, first_refusal, refused_by, ran_out, exhausted, refusal}
use Rattle.mdb_driver_rules.specs.Facts.{step_facts}
use Rattle.mdb_driver_pools.specs.Standing.{PoolsStand}
use Rattle.mdb_driver_pools.specs.Taking.{cause_of, Takes, Rests, IsReady, Performs}
use Rattle.mdb_driver_pools.proofs.OnePool.AcceptedAct.{Concerns}
use Rattle.mdb_driver_rules.proofs.General.OnePosition.{some-same}
use Rattle.mdb_driver_pools.proofs.OnePool.FoundAt.{fits-at}
use Rattle.mdb_driver_pools.proofs.OnePool.RefusedByItsRows.{rows-missing, rows-known, rows-there}
use Rattle.mdb_driver_pools.proofs.OnePool.AnswerOfAll.{pool-concerns}
use Rattle.mdb_driver_pools.proofs.OnePool.NoJobLeavesAll.{rests}
use Rattle.mdb_driver_pools.proofs.OnePool.StandsAfter.{takes}
use Rattle.mdb_driver_pools.proofs.OnePool.TellsNoTopology.{pool-refusal}

-- a row that holds refuses the step
row-refuses : (o : Options) (h : List Item) (step : Step) (why : Why) → first_refusal o h step ≡ Some why → refusal o h step ≡ Some why
row-refuses o h step why e = ap (λ x. refused_by x (ran_out (exhausted o h step (step_facts o h step)))) e

-- a step in time is refused by the other rows
in-time : (a m : ℕ) (rows : List (Bool × Why)) → a ≤ m → first_row ((nat_lt m a, TimeBack a) ∷ rows) ≡ first_row rows
in-time a m rows l = rw (not-back m a l) refl

-- no pool is later than the last moment
early-at : (pools : List PoolCore) (last i : ℕ) (s : PoolCore) → All (λ (x : PoolCore). last_now x ≤ last) pools → slice_get pools i ≡ Some s → last_now s ≤ last
early-at pools last i s early e = subst (λ (u : PoolCore). last_now u ≤ last) (get_or_from_slice_get pools i s s e) (early i s (slice_get_within pools i s e))

-- a claim alone is accepted where no pool is concerned
missing-claim : (pools : List PoolCore) (act : Act) → is_pool_act act ≡ true → missing_pool pools act ≡ None → act ≡ Do.Claim
missing-claim pools Do.Claim k e = refl
missing-claim pools _ k e = cc

-- what no pool is asked is ready
pub ready-lacking : (pools : List PoolCore) (step : Step) (outcome : PoolDecision) → Lacks pools step.act outcome → IsReady pools step outcome
ready-lacking pools step (Refused why) a = tt
ready-lacking pools step Idle a = tt
ready-lacking pools step (ConcernsPool i) a = absurd a

-- a step that its pool does not refuse is ready
pub ready-asked : (pools : List PoolCore) (i : ℕ) (step : Step) (outcome : PoolDecision) → IsAsked pools i step outcome → IsReady pools step outcome
ready-asked pools i step (Refused why) a = tt
ready-asked pools i step Idle a = tt
ready-asked pools i step (ConcernsPool j) a = (a.0, ap (slice_get pools) a.2.0 ∙ a.1, a.2.1, a.3)

module _ (o : Options) (pools : List PoolCore) (h : List Item) (z : PoolsStand (pool_options o) pools h) (last : ℕ) (last_is : last_moment h ≡ last)
    (few : length (description_of o h).servers ≤ 128) (step : Step) (k : is_pool_act step.act ≡ true) (l : last ≤ step.moment) where
  by-rows : first_refusal o h step ≡ first_row (rows_of o h step.act)
  by-rows = rw last_is (in-time last step.moment (rows_of o h step.act) l)

  performs-idle : index_of pools step.act ≡ None → missing_pool pools step.act ≡ None → Performs o pools step Idle h
  performs-idle e f =
      let claim : step.act ≡ Do.Claim = missing-claim pools step.act k f in
      let accepted : refusal o h step ≡ None = pool-refusal o h step k few ∙ (by-rows ∙ (rows-missing o pools h z.fit step.act e k ∙ f)) in
      let place : index_of pools Do.Claim ≡ None = subst (λ a. index_of pools a ≡ None) claim e in
      let passed : refusal o h (record { moment = step.moment; act = Do.Claim }) ≡ None = subst (λ a. refusal o h (record { moment = step.moment; act = a }) ≡ None) claim accepted in
      subst (λ a. Rests o pools (record { moment = step.moment; act = a }) h) (sym claim) (rests o pools h step.moment z place passed)

  -- the act concerns no pool
  pub performs-lacking : (outcome : PoolDecision) → index_of pools step.act ≡ None → Lacks pools step.act outcome → Performs o pools step outcome h
  performs-lacking (Refused why) e f = row-refuses o h step why (by-rows ∙ (rows-missing o pools h z.fit step.act e k ∙ f))
  performs-lacking Idle e f = performs-idle e f
  performs-lacking (ConcernsPool i) e f = absurd f

  module _ (i : ℕ) (there : index_of pools step.act ≡ Some i) (early : All (λ (x : PoolCore). last_now x ≤ last) pools) where
    -- the act uses up a number that is known
    pub performs-known : names_known pools step.act ≡ true → Performs o pools step (Refused RequestKnown) h
    performs-known n = row-refuses o h step RequestKnown (by-rows ∙ rows-known o pools h z.fit i step.act there n)

    module _ (new : names_known pools step.act ≡ false) (s : PoolCore) (at_i : slice_get pools i ≡ Some s) where
      rows-here : refusal_now s step ≡ first_row (rows_now s step.act)
      rows-here = let e : last_now s ≤ last = early-at pools last i s early at_i in in-time (last_now s) step.moment (rows_now s step.act) (omega (arith, e))

      by-pool : first_refusal o h step ≡ refusal_now s step
      by-pool = by-rows ∙ (rows-there o pools h z.fit i s at_i step.act k there new ∙ sym rows-here)

      taken : (t : PoolCore) (told : Answered) → refusal_now s step ≡ None → IsDone s t step told → Takes o pools i t [] told.facts step told.reply h
      taken t told e d =
          let accepted : refusal o h step ≡ None = pool-refusal o h step k few ∙ (by-pool ∙ e) in
          let w : Concerns o pools h s step (with_item s.pool step.moment step.act (of_pool s.pool h)) = pool-concerns o pools h z.fit i s at_i step k there new (sym rows-here ∙ e) accepted in
          takes o pools h z i s t at_i step told.reply (with_item s.pool step.moment step.act (of_pool s.pool h)) [] told.facts d.home w
          (d.does (of_pool s.pool h) (fits-at (pool_options o) pools h z.fit i s at_i))

      performs-there : (outcome : PoolDecision) → Asked s i step outcome → Performs o pools step outcome h
      performs-there (Refused why) a = row-refuses o h step why (by-pool ∙ a)
      performs-there Idle a = absurd a
      performs-there (ConcernsPool j) a =
          let P : ℕ → Type 0 = λ n. ((u t : PoolCore) (told : Answered) → slice_get pools n ≡ Some u → IsDone u t step told → Takes o pools n t [] told.facts step told.reply h) in (
            pool-refusal o h step k few ∙ (by-pool ∙ a.1),
            subst P (sym a.0) (λ u t told at_u d. taken t told a.1 (subst (λ v. IsDone v t step told) (some-same u s (slice_get pools i) at_u at_i) d)),
          )

    pub performs-asked : names_known pools step.act ≡ false → (outcome : PoolDecision) → IsAsked pools i step outcome → Performs o pools step outcome h
    performs-asked new outcome a = performs-there new a.0 a.1 outcome a.2

-- a step that has an accepted answer is not refused
pub accepted-answer : (o : Options) (h : List Item) (step : Step) (reply : Reply) (facts : List Fact) → answer o h step ≡ record { reply = reply; facts = facts } → IsAccepted reply → refusal o h step ≡ None
accepted-answer o h step reply facts e accepted = on (refusal o h step) refl
  where
    on : (x : Option Why) → refusal o h step ≡ x → refusal o h step ≡ None
    on None f = f
    on (Some why) f =
        let replied : reply ≡ RefusedBy why = ap (λ a. a.reply) (sym e) ∙ ap (λ x. (answered o h step x (step_facts o h step)).reply) f in
        absurd (subst IsAccepted replied accepted)

-- the cause that is decided is the one of the history
pub cause-is : (o : Options) (pools : List PoolCore) (step : Step) (outcome : PoolDecision) (h : List Item) → Performs o pools step outcome h → cause_of outcome ≡ refusal o h step
cause-is o pools step (Refused why) h p = sym p
cause-is o pools step Idle h p = sym (accepted-answer o h step NoJob [] p.answer_is tt)
cause-is o pools step (ConcernsPool i) h p = sym p.0
