-- Two steps of one pool, as they are answered one after the other.
use Rattle.std.proofs.Common.{ℕ, ◌≡◌, List, [], ◌∷◌, ◌++◌, length, Some, None, sym, ◌∙◌, ap, subst, arith, length-append}
use Rattle.std.specs.Prelude.{slice_get}
use Rattle.mdb_events.specs.declared.fact.Fact.{Fact}
use Rattle.mdb_log.specs.declared.step.Act.{Act}
use Rattle.mdb_log.specs.declared.step.Step.{Step}
use Rattle.mdb_pool.specs.Core.{PoolCore}
use Rattle.mdb_pool.specs.declared.planning.Answered.{Answered}
use Rattle.mdb_pool.specs.Planning.{IsDone, DoesOne, DoesAll, LeadsTo}
use Rattle.mdb_pool.proofs.SameAnswers.KeptTheSame.{done_same}
use Rattle.mdb_pool.specs.Refusing.{refusal_now}
use Rattle.mdb_driver_pools.specs.declared.pool_change.PoolChange.{PoolChange}
use Rattle.mdb_driver_pools.specs.declared.trouble.Asked.{Asked}
use Rattle.mdb_driver_pools.specs.Failing.{DoesBoth, PlansTwo}

-- a list of two
last-two : (xs : List Answered) (x y u v : Answered) → (xs ++ x ∷ []) ++ y ∷ [] ≡ u ∷ v ∷ [] → (x ≡ u) × (y ≡ v)
last-two [] x y u v e = (cc, cc)
last-two (z ∷ xs) x y u v e =
    let n : length ((z ∷ xs ++ x ∷ []) ++ y ∷ []) ≡ 2 = ap length e in
    let l1 = length-append (z ∷ xs ++ x ∷ []) (y ∷ []) in
    let l2 = length-append xs (x ∷ []) in
    absurd (omega arith)

module _ (s t : PoolCore) (first second : Step) (told : List Answered) (l : LeadsTo s t (first ∷ second ∷ []) told) where
  d : DoesAll s l.0 (first ∷ second ∷ []) told
  d = l.2

  told-two : told ≡ d.0 ∷ d.5.0 ∷ []
  told-two = d.3 ∙ (ap (λ (rest : List Answered). d.0 ∷ rest) d.5.3 ∙ ap (λ (rest : List Answered). d.0 ∷ d.5.0 ∷ rest) d.5.5.0)

  -- each is answered
  pub two-some : length told ≡ 0 → ⊥
  two-some e = let two : length told ≡ 2 = ap length told-two in omega arith

  pub two-more : (rest : List Answered) (b : Answered) → told ≡ rest ++ b ∷ [] → length rest ≡ 0 → ⊥
  two-more rest b e f =
      let two : length (rest ++ b ∷ []) ≡ 2 = ap length (sym e ∙ told-two) in
      let l = length-append rest (b ∷ []) in
      omega arith

  -- and both are done
  pub two-done : (rest : List Answered) (a b : Answered) → told ≡ (rest ++ a ∷ []) ++ b ∷ [] → refusal_now s first ≡ None
      → ((u : PoolCore) (x : Answered) → IsDone s u first x → refusal_now u second ≡ None) → DoesBoth s t first second a b
  two-done rest a b e accepted more =
      let u : PoolCore = d.2 in
      let same : (a ≡ d.0) × (b ≡ d.5.0) = last-two rest a b d.0 d.5.0 (sym e ∙ told-two) in
      let one : IsDone s u first d.0 = subst (λ why. DoesOne s u first d.0 why) accepted d.4 in
      let next : DoesOne u l.0 second d.5.0 (refusal_now u second) = subst (λ (v : PoolCore). DoesOne u v second d.5.0 (refusal_now u second)) (sym d.5.5.1) d.5.4 in
      let two : IsDone u t second d.5.0 = done_same u l.0 t second d.5.0 l.1 (subst (λ why. DoesOne u l.0 second d.5.0 why) (more u d.0 one) next) in
      (u, subst (λ (x : Answered). IsDone s u first x) (sym same.0) one, subst (λ (x : Answered). IsDone u t second x) (sym same.1) two)

-- the first act that was planned is this one
pub two-as : (pools : List PoolCore) (i : ℕ) (one : Act) (first : ℕ → Act) (step : Step) (asked : Asked) (earlier changes : List PoolChange) (before after : List Fact)
    → ((s : PoolCore) → slice_get pools i ≡ Some s → one ≡ first s.pool) → PlansTwo pools i (λ p. one) step asked earlier changes before after → PlansTwo pools i first step asked earlier changes before after
two-as pools i one first step asked earlier changes before after same d = record {
  pool = d.pool;
  there = d.there;
  plan = d.plan;
  made = d.made;
  clear = d.clear;
  failure = d.failure;
  does = λ u p. subst (λ (a : Act). DoesBoth d.pool u (record { moment = step.moment; act = a }) step d.clear d.failure) (same d.pool d.there) (d.does u p);
  behind = d.behind;
  told = d.told;
}
