-- A pool that is asked one step gives one answer.
use Rattle.std.proofs.Common.{zero, suc, ◌≡◌, true, List, [], ◌∷◌, ◌++◌, length, None, sym, ◌∙◌, ap, subst, arith, get_or}
use Rattle.std.specs.Prelude.{ℕ, All}
use Rattle.mdb_log.specs.declared.step.Step.{Step}
use Rattle.mdb_log.specs.declared.step.Act.{Act}
use Rattle.mdb_log.specs.declared.step.Act.TheVariants as Do
use Rattle.mdb_log.specs.Acts.{IsPoolAct}
use Rattle.mdb_pool.specs.Core.{PoolCore}
use Rattle.mdb_pool.specs.declared.planning.Answered.{Answered}
use Rattle.mdb_pool.specs.Planning.{IsDone, DoesOne, LeadsTo}
use Rattle.mdb_pool.proofs.SameAnswers.KeptTheSame.{done_same}
use Rattle.mdb_pool.specs.Refusing.{refusal_now}
use Rattle.mdb_driver_rules.specs.Acts.{is_pool_act}

-- a pool takes the act
pub takes-act : (p : ℕ) (act : Act) → is_pool_act act ≡ true → IsPoolAct p act
takes-act p (Do.Request r a) e = tt
takes-act p (Do.Warm r a) e = tt
takes-act p (Do.Maintain a) e = tt
takes-act p (Do.Expire a) e = tt
takes-act p (Do.Collect r) e = tt
takes-act p Do.Claim e = tt
takes-act p (Do.GiveUp r) e = tt
takes-act p (Do.Established q c how) e = tt
takes-act p (Do.Return r used) e = tt
takes-act p (Do.Pin r) e = tt
takes-act p (Do.Replicate q c) e = tt
takes-act p (Do.Take r q c) e = tt
takes-act p (Do.Unpin q c) e = tt
takes-act p _ e = cc

-- steps that a pool takes, one and two
pub all-one-step : (p : ℕ) (step : Step) → IsPoolAct p step.act → All (λ (x : Step). IsPoolAct p x.act) (step ∷ [])
all-one-step p step e j d l = let z : j ≡ 0 = omega arith in subst (λ (n : ℕ). IsPoolAct p (get_or (step ∷ []) n d).act) (sym z) e

pub all-two-steps : (p : ℕ) (first second : Step) → IsPoolAct p first.act → IsPoolAct p second.act → All (λ (x : Step). IsPoolAct p x.act) (first ∷ second ∷ [])
all-two-steps p first second e f zero d l = e
all-two-steps p first second e f (suc j) d l = let z : j ≡ 0 = omega arith in subst (λ (n : ℕ). IsPoolAct p (get_or (first ∷ second ∷ []) (suc n) d).act) (sym z) f

-- a list of one
only-last : {X : Type 0} (xs : List X) (x y : X) → xs ++ x ∷ [] ≡ y ∷ [] → x ≡ y
only-last [] x y e = cc
only-last (z ∷ []) x y e = cc
only-last (z ∷ w ∷ xs) x y e = cc

module _ (s t : PoolCore) (step : Step) where
  one-told : (told : List Answered) → LeadsTo s t (step ∷ []) told → (a : Answered) × (told ≡ a ∷ []) × (refusal_now s step ≡ None → IsDone s t step a)
  one-told told l =
      let d = l.2 in
      (d.0, d.3 ∙ ap (λ rest. d.0 ∷ rest) d.5.0, λ n. done_same s l.0 t step d.0 l.1 (subst (λ u. IsDone s u step d.0) (sym d.5.1) (subst (DoesOne s d.2 step d.0) n d.4)))

  -- there is an answer
  pub some-told : (told : List Answered) → LeadsTo s t (step ∷ []) told → length told ≡ 0 → ⊥
  some-told told d e = let one : length told ≡ 1 = ap length (one-told told d).1 in omega arith

  -- and the last one is of the step
  pub done-told : (rest told : List Answered) (a : Answered) → refusal_now s step ≡ None → told ≡ rest ++ a ∷ [] → LeadsTo s t (step ∷ []) told → IsDone s t step a
  done-told rest told a n e d =
      let o = one-told told d in
      let same : a ≡ o.0 = only-last rest a o.0 (sym e ∙ o.1) in
      subst (λ b. IsDone s t step b) (sym same) (o.2 n)
