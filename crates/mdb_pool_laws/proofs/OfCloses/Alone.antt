-- The closes of a pool that is stepped by itself have causes, and what a step names is closed.
use Rattle.std.proofs.Common.{ℕ, ◌≡◌, ◌==◌, true, not, List, [], ◌∷◌, ◌++◌, Option, Some, None, inl, refl, sym, subst}
use Rattle.std.proofs.lemmas.Bool.{not-false}
use Rattle.mdb_base.specs.declared.address.ServerAddress.{ServerAddress}
use Rattle.mdb_events.specs.declared.fact.Fact.{Fact}
use Rattle.mdb_events.specs.declared.reasons.ConnectionClosedReason.TheVariants.{PoolClosed as AsPoolClosed}
use Rattle.mdb_log.specs.declared.step.Act.{Act}
use Rattle.mdb_log.specs.declared.step.Act.TheVariants as Do
use Rattle.mdb_log.specs.declared.step.Step.{Step}
use Rattle.mdb_log.specs.declared.reply.Reply.{Reply}
use Rattle.mdb_log.specs.declared.reply.Reply.TheVariants.{Refused as RefusedBy}
use Rattle.mdb_log.specs.declared.reply.Refused.{Refused}
use Rattle.mdb_log.specs.declared.reply.Refused.TheVariants.{UnknownServer}
use Rattle.mdb_log.specs.History.{Item, PoolItem, is_number, open_pool, of_pool, after_act, after_facts, with_act, has_asked, if_so, unpinned}
use Rattle.mdb_log.specs.Connections.{has, available_list, pending_list}
use Rattle.mdb_log.specs.Requests.{is_claimed}
use Rattle.mdb_log.specs.State.{is_closed, state_of}
use Rattle.mdb_log.proofs.Numbers.{same-number}
use Rattle.mdb_pool.specs.Core.{PoolCore}
use Rattle.mdb_pool.specs.Standing.{StandsFor}
use Rattle.mdb_pool.proofs.Histories.Resting.{rested}
use Rattle.mdb_pool_rules.specs.Answer.{all_facts, answer, reply_of}
use Rattle.mdb_pool_rules.specs.Facts.{sweep, act_facts}
use Rattle.mdb_pool_rules.specs.Refusal.{first_row, rows_of, refusal_of}
use Rattle.mdb_pool_rules.specs.Rested.{Rested}
use Rattle.mdb_pool_rules.specs.Serving.{serving}
use Rattle.mdb_pool_rules.proofs.FirstRow.{one-passes}
use Rattle.mdb_sound.specs.Sound.{Sound}
use Rattle.mdb_sound.specs.Laws.{IsOver}
use Rattle.mdb_sound.proofs.Generations.{closed-for-good}
use Rattle.mdb_sound.proofs.Pools.{rows-pass, step-done}
use Rattle.mdb_sound.proofs.Steady.{held-given}
use Rattle.mdb_pool_laws.specs.CloseCauses.{AllCaused}
use Rattle.mdb_pool_laws.specs.Dues.{Closes, DueAlone, PoolDue}
use Rattle.mdb_pool_laws.proofs.OfCloses.Acts.{shut-was, act-caused, all-caused}
use Rattle.mdb_pool_laws.proofs.OfCloses.Dues.{closes-left, returned-due, given_up-due, unpinned-due, sweep-due, closing-due}

none-has : (c : ℕ) (cs : List ℕ) → cs ≡ [] → has c cs ≡ true → ⊥
none-has c [] e w = cc
none-has c (d ∷ cs) e w = cc

module _ (s : PoolCore) (h : List Item) (z : StandsFor s h) (sound : Sound (of_pool s.pool h)) where
  abbrev xs : List PoolItem
  xs = of_pool s.pool h

  rest : Rested xs
  rest = rested s xs z.fits

  -- maintenance that is accepted is of the address where the pool is open
  maintained : (step : Step) → refusal_of s.pool s.options h step ≡ None → (b : ServerAddress) → step.act ≡ Do.Maintain b → is_number (open_pool h b) s.pool ≡ true
  maintained step none b same =
      let rows : first_row (rows_of s.pool s.options h xs (Do.Maintain b)) ≡ None = subst (λ (act : Act). first_row (rows_of s.pool s.options h xs act) ≡ None) same (rows-pass s h z sound step none) in
      not-false (is_number (open_pool h b) s.pool) (one-passes (not (is_number (open_pool h b) s.pool)) UnknownServer rows)

  -- each close of an answer has a cause
  pub answer-caused : (step : Step) → AllCaused s.pool s.options (open_pool h) step.moment step.act (with_act s.pool h step) (answer s.pool s.address s.options h step).facts
  answer-caused step = on (refusal_of s.pool s.options h step) refl
    where
      on : (why : Option Refused) → refusal_of s.pool s.options h step ≡ why → AllCaused s.pool s.options (open_pool h) step.moment step.act (with_act s.pool h step) (answer s.pool s.address s.options h step).facts
      on (Some why) e = rw e tt
      on None e =
          let ys : List PoolItem = with_act s.pool h step in
          rw e (all-caused s.pool s.address s.options (open_pool h) step.moment step.act xs sound rest ys (act-caused s.pool s.address s.options (open_pool h) step.moment step.act xs sound rest ys (maintained step e) (step-done s h z sound step e)))

  -- what an accepted act names is closed by its own facts
  module _ (m : ℕ) where
    abbrev own : Act → List Fact
    own act = act_facts s.pool s.address s.options m xs (after_act s.pool (open_pool h) m act xs) act

    abbrev all : Act → List Fact
    all act = all_facts s.pool s.address s.options m xs (after_act s.pool (open_pool h) m act xs) act

    abbrev served : Act → List Fact
    served act = serving s.pool s.address s.options m (after_facts s.pool m (own act) (after_act s.pool (open_pool h) m act xs))

    -- where something is available or pending the pool is not closed
    unshut : (c : ℕ) → has c (available_list xs ++ pending_list xs) ≡ true → state_of s.options xs ≡ is_closed → ⊥
    unshut c has e =
        let over : IsOver s.options xs = closed-for-good s.options xs sound (shut-was s.options xs e) in
        let none : available_list xs ++ pending_list xs ≡ [] = rw (over.none_available, over.none_pending) refl in
        none-has c (available_list xs ++ pending_list xs) none has

    act-due : (act : Act) → DueAlone s.pool s.options (open_pool h) m xs act (all act)
    act-due (Do.Close q) = λ c has. closes-left s.pool c AsPoolClosed (own (Do.Close q)) (served (Do.Close q)) (closing-due s.pool s.address s.options m xs c (unshut c has) has)
    act-due (Do.Failed q c at error) = λ same. inl (refl, refl, refl)
    act-due (Do.Return r used) = λ c e f n. closes-left s.pool c AsPoolClosed (own (Do.Return r used)) (served (Do.Return r used)) (returned-due s.pool s.address s.options m xs r c used _ e f n)
    act-due (Do.GiveUp r) = λ mine c e f n. closes-left s.pool c AsPoolClosed (own (Do.GiveUp r)) (served (Do.GiveUp r)) (given_up-due s.pool s.address s.options m xs r c (has_asked xs r) (rest.unended r c (held-given xs r c e)) e f n)
    act-due (Do.Unpin q c) = λ same pinned n e.
        let here : (q == s.pool) ≡ true = subst (λ i. (q == i) ≡ true) same (same-number q) in
        let due : Closes s.pool c AsPoolClosed (act_facts s.pool s.address s.options m xs (if_so (q == s.pool) (unpinned c) xs) (Do.Unpin q c)) =
        subst (λ b. Closes s.pool c AsPoolClosed (act_facts s.pool s.address s.options m xs (if_so b (unpinned c) xs) (Do.Unpin q c))) (sym here) (unpinned-due s.pool s.address s.options m xs c pinned n e) in
        closes-left s.pool c AsPoolClosed (own (Do.Unpin q c)) (served (Do.Unpin q c)) due
    act-due (Do.Maintain b) = λ here c why has found.
        closes-left s.pool c why (own (Do.Maintain b)) (served (Do.Maintain b)) (closes-left s.pool c why (sweep s.pool s.address s.options m xs (available_list xs)) _ (sweep-due s.pool s.address s.options m xs c why found (available_list xs) has))
    act-due _ = tt

  pub answer-due : (step : Step) → PoolDue s.pool s.options h step (answer s.pool s.address s.options h step).reply (answer s.pool s.address s.options h step).facts
  answer-due step = on (refusal_of s.pool s.options h step) refl
    where
      by : (reply : Reply) → PoolDue s.pool s.options h step reply (all step.moment step.act)
      by (RefusedBy why) = tt
      by _ = act-due step.moment step.act

      on : (why : Option Refused) → refusal_of s.pool s.options h step ≡ why → PoolDue s.pool s.options h step (answer s.pool s.address s.options h step).reply (answer s.pool s.address s.options h step).facts
      on (Some why) e = rw e tt
      on None e = rw e (by (reply_of s.pool (is_claimed h s.pool) xs (after_facts s.pool step.moment (all step.moment step.act) (with_act s.pool h step)) step.act))
