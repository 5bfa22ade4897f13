-- What a warm request is given in its step is pending: warm requests get pending connections alone.
use Rattle.std.proofs.Common.{ℕ, ◌≡◌, true, List, [], ◌∷◌, Option, Some, None, refl, sym, ◌∙◌, ap, subst}
use Rattle.std.specs.Prelude.{slice_get}
use Rattle.mdb_base.specs.declared.address.ServerAddress.{ServerAddress}
use Rattle.mdb_events.specs.declared.fact.Fact.{Fact}
use Rattle.mdb_log.specs.declared.options.PoolOptions.{PoolOptions}
use Rattle.mdb_log.specs.declared.step.Step.{Step}
use Rattle.mdb_log.specs.declared.step.Act.TheVariants as Do
use Rattle.mdb_log.specs.declared.reply.Reply.{Reply}
use Rattle.mdb_log.specs.declared.reply.Reply.TheVariants.{Refused}
use Rattle.mdb_log.specs.Driver.{tells_outcome}
use Rattle.mdb_log.specs.History.{Item, did, of_pool, open_pool, is_number, given, with_facts, with_answer}
use Rattle.mdb_log.specs.Connections.{has, pending_list}
use Rattle.mdb_log.specs.Requests.{is_warm}
use Rattle.mdb_log.specs.Homes.{Home, homes}
use Rattle.mdb_log.specs.Own.{IsAccepted}
use Rattle.mdb_log.proofs.Later.{of_pool-with_facts, with_answer-accepted}
use Rattle.mdb_log.proofs.Numbers.{same-number}
use Rattle.mdb_pool.specs.Core.{PoolCore}
use Rattle.mdb_pool.specs.Standing.{Fits}
use Rattle.mdb_pool.proofs.Histories.Resting.{rested}
use Rattle.mdb_pool_rules.proofs.ManyEnded.{warm-facts}
use Rattle.mdb_pool_rules.proofs.Listed.Values.{find-member}
use Rattle.mdb_driver_rules.specs.Homes.{concerns, home_of, begun}
use Rattle.mdb_driver_pools.specs.Standing.{PoolsFit}

-- an outcome is no refusal
pub told-accepted : (reply : Reply) → tells_outcome reply ≡ true → IsAccepted reply
told-accepted (Refused why) e = cc
told-accepted _ e = tt

-- the pools after an accepted step know what its act and its facts tell
pub pool-after : (p : ℕ) (step : Step) (reply : Reply) (F : List Fact) (h : List Item) → IsAccepted reply → of_pool p (with_answer step reply F h) ≡ of_pool p (with_facts step.moment F (begun h step))
pool-after p step reply F h fine =
    ap (of_pool p) (with_answer-accepted step reply F h fine)
    ∙ (of_pool-with_facts p step.moment F (did step reply ∷ h) ∙ sym (of_pool-with_facts p step.moment F (begun h step)))

module _ (h : List Item) (m r : ℕ) (a : ServerAddress) (F : List Fact) where
  abbrev step : Step
  step = record { moment = m; act = Do.Warm r a }

  abbrev y : List Item
  y = with_facts m F (begun h step)

  here-warm : (x : Home) → home_of h (Do.Warm r a) ≡ Some x → is_warm (of_pool x.number y) r ≡ true
  here-warm x e =
      let here : is_number (open_pool h a) x.number ≡ true = (find-member (λ k. concerns h (Do.Warm r a) k.number) x (homes h) e).1 in
      ap (λ xs. is_warm xs r) (of_pool-with_facts x.number m F (begun h step)) ∙ (warm-facts x.number m r F (of_pool x.number (begun h step)) ∙ rw (here, same-number r) refl)

  pub warm-step : (o : PoolOptions) (later : List PoolCore) (reply : Reply) → tells_outcome reply ≡ true → PoolsFit o later (with_answer step reply F h)
      → (x : Home) → home_of h (Do.Warm r a) ≡ Some x → (c : ℕ) → given (of_pool x.number y) r ≡ Some c → has c (pending_list (of_pool x.number y)) ≡ true
  warm-step o later reply tells z x e c got = on (slice_get later x.number) refl
    where
      same : of_pool x.number (with_answer step reply F h) ≡ of_pool x.number y
      same = pool-after x.number step reply F h (told-accepted reply tells)

      on : (u : Option PoolCore) → slice_get later x.number ≡ u → has c (pending_list (of_pool x.number y)) ≡ true
      on None f = let g : given [] r ≡ Some c = subst (λ xs. given xs r ≡ Some c) (sym same ∙ z.rest x.number f) got in cc
      on (Some s) f = (rested s (of_pool x.number y) (subst (Fits s) same (z.each x.number s f).fits)).warm r c got (here-warm x e)
