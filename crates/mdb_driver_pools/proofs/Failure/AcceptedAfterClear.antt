-- After a clear the pool still accepts a failure that it accepted before.
use Rattle.std.proofs.Common.{ℕ, ◌≡◌, ◌==◌, ◌&&◌, Bool, true, false, not, List, [], ◌∷◌, Option, None, is_some, nat_lt, refl, sym, ◌∙◌, ap, arith}
use Rattle.std.proofs.lemmas.Bool.Decides.{nat_tests}
use Rattle.std.proofs.lemmas.Bool.{not-false}
use Rattle.mdb_base.specs.declared.object_id.ObjectId.{ObjectId}
use Rattle.mdb_base.specs.declared.error.Error.{Error}
use Rattle.mdb_events.specs.declared.cmap.CmapEvent.TheVariants as event
use Rattle.mdb_events.specs.declared.fact.Fact.{Fact}
use Rattle.mdb_events.specs.declared.fact.Fact.TheVariants as fact
use Rattle.mdb_log.specs.declared.step.Step.{Step}
use Rattle.mdb_log.specs.declared.step.Act.TheVariants.{Clear}
use Rattle.mdb_log.specs.declared.reply.Refused.{Refused}
use Rattle.mdb_log.specs.declared.reply.Refused.TheVariants.{TimeBack}
use Rattle.mdb_log.specs.History.{PoolItem, raised, ended, has_asked, if_so, service_in, after_fact, after_facts}
use Rattle.mdb_log.specs.Connections.{has, pending_list}
use Rattle.mdb_log.proofs.Numbers.{same-number}
use Rattle.mdb_pool.specs.Core.{PoolCore}
use Rattle.mdb_pool_rules.specs.Answer.{all_facts}
use Rattle.mdb_pool.specs.Now.{is_pending_now, last_now}
use Rattle.mdb_pool_rules.specs.Refusal.{first_row}
use Rattle.mdb_pool.specs.Refusing.{is_pending_here, refusal_now}
use Rattle.mdb_pool_rules.specs.Serving.{IsServed}
use Rattle.mdb_pool.specs.Standing.{Fits, Accepts}
use Rattle.mdb_pool.proofs.Told.OfQueries.{pending-is}
use Rattle.mdb_pool_rules.proofs.AfterClearOrClose.{clear-alone}
use Rattle.mdb_pool_rules.proofs.SameAnswers.FailureAndClear.{IsOfClear, AreOfClear, clear-of-clear}
use Rattle.mdb_driver_pools.specs.Failing.{IsFailing, StillFails}

-- the facts of a clear leave what is pending
module _ (p m : ℕ) where
  pending-fact : (f : Fact) (xs : List PoolItem) → IsOfClear f → pending_list (after_fact p m f xs) ≡ pending_list xs
  pending-fact (fact.Raised q t error) xs i = on (q == p)
    where
      on : (b : Bool) → pending_list (if_so b (raised t error) xs) ≡ pending_list xs
      on true = refl
      on false = refl
  pending-fact (fact.Ended r end) xs i = on (has_asked xs r)
    where
      on : (b : Bool) → pending_list (if_so b (ended r end) xs) ≡ pending_list xs
      on true = refl
      on false = refl
  pending-fact (fact.Pool q (event.PoolCleared e)) xs i = refl
  pending-fact (fact.Pool q (event.ConnectionCheckoutFailed e)) xs i = refl
  pending-fact _ xs i = absurd i

  pending-facts : (fs : List Fact) (xs : List PoolItem) → AreOfClear fs → pending_list (after_facts p m fs xs) ≡ pending_list xs
  pending-facts [] xs i = refl
  pending-facts (f ∷ fs) xs i = pending-facts fs (after_fact p m f xs) i.1 ∙ pending-fact f xs i.0

-- of two rows none holds
two-rows : (late : Bool) (x : Refused) (p q : Bool) (y v : Refused) → first_row ((late, x) ∷ (p, y) ∷ (q, v) ∷ []) ≡ None → (late ≡ false) × (p ≡ false) × (q ≡ false)
two-rows true x p q y v e = cc
two-rows false x true q y v e = cc
two-rows false x false true y v e = cc
two-rows false x false false y v e = (refl, refl, refl)

module _ (s : PoolCore) (xs : List PoolItem) (fits : Fits s xs) (served : IsServed s.options xs) (step : Step) (error : Error) (d : IsFailing s step error) where
  abbrev m : ℕ
  m = step.moment

  -- the facts of the clear
  abbrev whole : Option ObjectId → List Fact
  whole service = all_facts s.pool s.address s.options m xs xs (Clear s.pool service error)

  -- the connection is pending
  rows : (nat_lt step.moment (last_now s) ≡ false) × (not (is_pending_here s s.pool d.connection) ≡ false) × (not s.options.load_balanced && is_some (service_in d.at) ≡ false)
  rows =
      two-rows (nat_lt step.moment (last_now s)) (TimeBack (last_now s)) (not (is_pending_here s s.pool d.connection)) (not s.options.load_balanced && is_some (service_in d.at)) _ _
      (ap (λ a. refusal_now s (record { moment = step.moment; act = a })) (sym d.act_is) ∙ d.accepted)

  pub pending-now : is_pending_now s d.connection ≡ true
  pending-now = sym (ap (λ b. b && is_pending_now s d.connection) (same-number s.pool)) ∙ not-false (is_pending_here s s.pool d.connection) rows.1

  pub still-fails : (service : Option ObjectId) → StillFails s step service error
  still-fails service t a done = ap (λ x. refusal_now t (record { moment = m; act = x })) d.act_is ∙ rw (late, pending-then, fitting) refl
    where
      late : nat_lt m (last_now t) ≡ false
      late = let e : last_now t ≡ m = done.last in grind (arith, nat_tests)

      v : Accepts s t [] a.facts m (Clear s.pool service error) a.reply xs xs
      v = done.does xs fits

      pending-then : is_pending_here t s.pool d.connection ≡ true
      pending-then =
          let kept : pending_list (after_facts s.pool m (whole service) xs) ≡ pending_list xs =
          ap (λ fs. pending_list (after_facts s.pool m fs xs)) (clear-alone s.pool s.address s.options m xs s.pool service error served)
          ∙ pending-facts s.pool m _ xs (clear-of-clear s.pool s.address s.options m xs service error) in
          let pending : is_pending_now t d.connection ≡ true =
          sym (pending-is t (after_facts s.pool m (whole service) xs) v.fits d.connection) ∙ (ap (has d.connection) kept ∙ (pending-is s xs fits d.connection ∙ pending-now)) in
          ap (λ p. (s.pool == p) && is_pending_now t d.connection) done.home.pool ∙ rw (same-number s.pool, pending) refl

      fitting : not t.options.load_balanced && is_some (service_in d.at) ≡ false
      fitting = ap (λ o. not o.load_balanced && is_some (service_in d.at)) done.home.options ∙ rows.2
