-- Where one more clear would take a generation past its limit, the pool refuses it, and else accepts it.
use Rattle.std.proofs.Common.{ℕ, ◌≡◌, ◌≤◌, ◌<◌, ◌&&◌, Bool, true, false, not, if◌then◌else◌, List, length, Option, Some, None, nat_lt, refl, sym, ◌∙◌, ap, subst, arith}
use Rattle.std.specs.Prelude.{slice_get, nat_le, unwrap_or}
use Rattle.std.specs.Result.{OnErr}
use Rattle.std.proofs.lemmas.Bool.Decides.{nat_tests}
use Rattle.std.specs.declared.result.Result.{Result}
use Rattle.std.specs.declared.result.Result.TheVariants.{Ok, Err}
use Rattle.mdb_base.specs.declared.address.ServerAddress.{ServerAddress}
use Rattle.mdb_base.specs.declared.error.Error.{Error}
use Rattle.mdb_base.specs.declared.object_id.ObjectId.{ObjectId}
use Rattle.mdb_log.specs.declared.checked.BeatenResult.{BeatenResult}
use Rattle.mdb_log.specs.declared.checked.BeatenResult.TheVariants as Beaten
use Rattle.mdb_log.specs.declared.reply.Refused.TheVariants.{Exhausted}
use Rattle.mdb_log.specs.declared.reply.What.TheVariants.{Generation}
use Rattle.mdb_log.specs.declared.step.Step.{Step}
use Rattle.mdb_log.specs.History.{Item}
use Rattle.mdb_describe.proofs.Addresses.{same-address}
use Rattle.mdb_pool.specs.Core.{PoolCore}
use Rattle.mdb_pool.specs.Now.{clears_now, exhausted_now, is_closed_now, last_now}
use Rattle.mdb_pool_rules.specs.Refusal.{wrong_service}
use Rattle.mdb_pool.specs.Refusing.{refusal_now}
use Rattle.mdb_topology.specs.declared.topology.TopologyCore.{TopologyCore}
use Rattle.mdb_driver_pools.specs.Acting.{step_of}
use Rattle.mdb_topology.specs.Changing.{IsUntroubled}
use Rattle.mdb_topology.specs.Marking.{check_spends}
use Rattle.mdb_driver_pools.specs.Clearing.{clear_act}
use Rattle.mdb_topology.specs.Standing.{StandsFor, StandsForSome}
use Rattle.mdb_driver_pools.specs.Standing.{is_open_at, at_address}
use Rattle.mdb_topology.specs.Stepping.{MayWant}
use Rattle.mdb_topology.proofs.WholeSteps.TopologyStep.{early-later}
use Rattle.mdb_driver_rules.proofs.General.OneElement.{at-place, position-at, position-within}
use Rattle.mdb_driver_pools.proofs.OnePool.PlannedAct.{all-at}

-- what holds whatever a call answers
pub after-any : {T E : Type 0} (r : Result T E) (P : Type 0) → P → OnErr r P
after-any (Ok x) P p = tt
after-any (Err e) P p = p

-- so it is where there may be no memory for a step
pub wants-after : {T E : Type 0} (w : TopologyCore) (step : Step) (r : Result T E) → ((h : List Item) → StandsFor w h → MayWant w step h) → OnErr r ((h : List Item) → StandsFor w h → MayWant w step h)
wants-after w step (Ok x) p = tt
wants-after w step (Err e) p = p

-- three tests, whichever comes first
pub three-tests : (b c d : Bool) → b && (c && d) ≡ (d && b) && c
three-tests true true true = refl
three-tests true true false = refl
three-tests true false true = refl
three-tests true false false = refl
three-tests false c true = refl
three-tests false c false = refl

pub not-both : (b c : Bool) → b && c ≡ false → b ≡ true → c ≡ false
not-both true c e f = e
not-both false c e f = cc

module _ (w : TopologyCore) (st : StandsForSome w) (i : ℕ) (s : PoolCore) (there : slice_get w.pools.cores.items i ≡ Some s) where
  abbrev pools : List PoolCore
  pools = w.pools.cores.items

  -- what the limit of the options says of the pool
  pub limit-is : (service : Option ObjectId) → not (is_closed_now s) && nat_le (unwrap_or w.options.limit_generation 18446744073709551615) (clears_now s service) ≡ exhausted_now s service
  limit-is service = ap (λ p. not (is_closed_now s) && nat_le p.limit_generation (clears_now s service)) (sym (st.1.pools.fit.each i s there).options)

  module _ (m : ℕ) (l : w.pools.last ≤ m) (service : Option ObjectId) (error : Error) (fit : wrong_service w.options.load_balanced service ≡ false) where
    pub clear-refused : refusal_now s (step_of m (clear_act service error) s.pool) ≡ (if exhausted_now s service then Some (Exhausted Generation) else None)
    clear-refused =
        let early : last_now s ≤ m = all-at (λ (s : PoolCore). last_now s ≤ m) pools i s (early-later pools w.pools.last m l st.1.early) there in
        let late : nat_lt m (last_now s) ≡ false = grind (arith, nat_tests) in
        let mode : wrong_service s.options.load_balanced service ≡ false = ap (λ p. wrong_service p.load_balanced service) (st.1.pools.fit.each i s there).options ∙ fit in
        rw (late, mode) refl

    pub clear-accepted : exhausted_now s service ≡ false → refusal_now s (step_of m (clear_act service error) s.pool) ≡ None
    clear-accepted e = clear-refused ∙ ap (λ b. if b then Some (Exhausted Generation) else None) e

-- some pool stands at each place
pub some-of : (pools : List PoolCore) (i : ℕ) → i < length pools → (s : PoolCore) × (slice_get pools i ≡ Some s)
some-of pools i within = on (slice_get pools i) refl
  where
    on : (y : Option PoolCore) → slice_get pools i ≡ y → (s : PoolCore) × (slice_get pools i ≡ Some s)
    on None e = absurd (at-place pools i within e)
    on (Some s) e = (s, e)

-- The pool that stands at the place of an address is the one there.
module _ (pools : List PoolCore) (a : ServerAddress) (i : ℕ) (here : at_address pools a ≡ Some i) where
  pub own-place : (s : PoolCore) → slice_get pools i ≡ Some s → s.address ≡ a
  own-place s there = on (is_closed_now s) refl (position-at (is_open_at a) pools i s here there).0
    where
      on : (b : Bool) → is_closed_now s ≡ b → is_open_at a s ≡ true → s.address ≡ a
      on true e f = let no : is_open_at a s ≡ false = rw e refl in let t : true ≡ false = sym f ∙ no in cc
      on false e f = same-address s.address a (sym (rw e refl) ∙ f)

  pub place-own : (s : PoolCore) → slice_get pools i ≡ Some s → at_address pools s.address ≡ Some i
  place-own s there = subst (λ b. at_address pools b ≡ Some i) (sym (own-place s there)) here

  pub some-place : (s : PoolCore) × (slice_get pools i ≡ Some s)
  some-place = some-of pools i (position-within (is_open_at a) pools i here)

-- a check that did not fail clears nothing
pub untroubled-spends : (w : TopologyCore) (s : PoolCore) (a : ServerAddress) (came : BeatenResult) → IsUntroubled came → check_spends w s a came ≡ false
untroubled-spends w s a (Beaten.Ok r more) c = refl
untroubled-spends w s a (Beaten.Err error) c = absurd c
untroubled-spends w s a (Beaten.Cancelled error) c = refl
