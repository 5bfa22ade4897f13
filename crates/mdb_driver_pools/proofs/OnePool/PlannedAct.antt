-- The driver's own act of a pool, as it is planned at its place.
use Rattle.std.proofs.Common.{ℕ, ◌≡◌, ◌≤◌, List, [], ◌∷◌, ◌++◌, length, Some, None, sym, ◌∙◌, ap, subst, arith}
use Rattle.std.specs.Prelude.{slice_get, All}
use Rattle.std.proofs.lemmas.Bool.Decides.{nat_tests}
use Rattle.std.proofs.lemmas.Option.{get_or_from_slice_get, slice_get_within}
use Rattle.mdb_events.specs.declared.fact.Fact.{Fact}
use Rattle.mdb_log.specs.declared.step.Step.{Step}
use Rattle.mdb_log.specs.declared.step.Act.{Act}
use Rattle.mdb_log.specs.declared.step.Act.TheVariants.{Ready, Close}
use Rattle.mdb_pool.specs.Core.{PoolCore}
use Rattle.mdb_pool.specs.Now.{last_now}
use Rattle.mdb_pool.specs.declared.planning.Answered.{Answered}
use Rattle.mdb_pool.specs.Planning.{IsDone, DoesOne, DoesAll, LeadsTo}
use Rattle.mdb_pool.proofs.SameAnswers.KeptTheSame.{done_same}
use Rattle.mdb_pool.specs.Refusing.{refusal_now}
use Rattle.mdb_driver_pools.specs.declared.pool_change.PoolChange.{PoolChange}
use Rattle.mdb_driver_pools.specs.Acting.{PlansOne}

-- a list of one
only-last : (xs : List Answered) (x y : Answered) → xs ++ x ∷ [] ≡ y ∷ [] → x ≡ y
only-last [] x y e = cc
only-last (z ∷ []) x y e = cc
only-last (z ∷ w ∷ xs) x y e = cc

module _ (s t : PoolCore) (step : Step) (told : List Answered) (l : LeadsTo s t (step ∷ []) told) where
  d : DoesAll s l.0 (step ∷ []) told
  d = l.2

  -- one step is answered once
  told-one : told ≡ d.0 ∷ []
  told-one = d.3 ∙ ap (λ (rest : List Answered). d.0 ∷ rest) d.5.0

  pub some-told : length told ≡ 0 → ⊥
  some-told e = let one : length told ≡ 1 = ap length told-one in omega arith

  -- and is done where it isn't refused
  pub done-told : (rest : List Answered) (a : Answered) → refusal_now s step ≡ None → told ≡ rest ++ a ∷ [] → IsDone s t step a
  done-told rest a accepted e =
      let same : a ≡ d.0 = only-last rest a d.0 (sym e ∙ told-one) in
      let one : DoesOne s l.0 step d.0 (refusal_now s step) = subst (λ (u : PoolCore). DoesOne s u step d.0 (refusal_now s step)) (sym d.5.1) d.4 in
      subst (λ (b : Answered). IsDone s t step b) (sym same) (done_same s l.0 t step d.0 l.1 (subst (λ why. DoesOne s l.0 step d.0 why) accepted one))

-- a step that isn't before the pool's last one is not refused where no row speaks of its act
pub ready-accepted : (s : PoolCore) (m p : ℕ) → last_now s ≤ m → refusal_now s (record { moment = m; act = Ready p }) ≡ None
ready-accepted s m p l = grind (arith, nat_tests)

pub close-accepted : (s : PoolCore) (m p : ℕ) → last_now s ≤ m → refusal_now s (record { moment = m; act = Close p }) ≡ None
close-accepted s m p l = grind (arith, nat_tests)

-- of all pools the one at a place
pub all-at : (P : PoolCore → Type 0) (pools : List PoolCore) (i : ℕ) (s : PoolCore) → All P pools → slice_get pools i ≡ Some s → P s
all-at P pools i s all e = subst P (get_or_from_slice_get pools i s s e) (all i s (slice_get_within pools i s e))

-- the act that was planned is this one
pub planned-as : (pools : List PoolCore) (i m : ℕ) (one : Act) (act : ℕ → Act) (earlier changes : List PoolChange) (before after : List Fact)
    → ((s : PoolCore) → slice_get pools i ≡ Some s → one ≡ act s.pool) → PlansOne pools i m (λ p. one) earlier changes before after → PlansOne pools i m act earlier changes before after
planned-as pools i m one act earlier changes before after same d = record {
  pool = d.pool;
  there = d.there;
  plan = d.plan;
  made = d.made;
  answered = d.answered;
  does = λ t p. subst (λ (x : Act). IsDone d.pool t (record { moment = m; act = x }) d.answered) (same d.pool d.there) (d.does t p);
  behind = d.behind;
  told = d.told;
}
