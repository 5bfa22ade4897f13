use Rattle.std.proofs.Common.{◌≡◌, List, Result, Ok, Err, refl, sym, ◌∙◌, subst}
use Rattle.std.specs.Prelude.{IfOk}
use Rattle.std.proofs.lemmas.Result.{IfOk-weaker}
use Rattle.mdb_log.specs.History.{Item}
use Rattle.mdb_pool.specs.Kept.Body.{led, pool_of, PoolFits}
use Rattle.mdb_pool.specs.Core.{PoolCore}
use Rattle.mdb_pool.specs.Standing.{StandsFor, StandsForSome}
use Rattle.mdb_pool.specs.Planning.{LeadsTo, IsPrepared, Plans, IsPlanOf}
use Rattle.mdb_pool.proofs.planning.prepare.Goals as goal

both : {X E : Type 0} (r : Result X E) (P Q R : X → Type 0) → ((x : X) → P x → Q x → R x) → IfOk r P → IfOk r Q → IfOk r R
both (Ok x) P Q R f p q = f x p q
both (Err e) P Q R f p q = tt

pub returns-clause-plan : goal.returns-clause-plan
unfolding Plans
returns-clause-plan c =
    let s = c.args.pool.now in let r = c.answered_all.result in let same : c.answered_all.new.self ≡ s = c.answered_all.ensures.same ∙ c.pool.view_is in let steps = c.args.steps.now in
    let some = subst StandsForSome c.pool.view_is c.pool.invariant.1 in
    subst (λ (p : PoolCore). IfOk r (λ made. IsPlanOf made.1 p)) (sym same)
    (both r (λ made. PoolFits made.1 s.kept.inner) (λ made. (h : List Item) → StandsFor s h → IsPrepared s (led made.1 s) steps made.0.items h) (λ made. IsPlanOf made.1 s)
    (λ made fits prepared. (led made.1 s, (fits, refl, (_, (prepared some.0 some.1).stands))))
    (subst (λ (p : PoolCore). IfOk r (λ made. PoolFits made.1 p.kept.inner)) c.pool.view_is c.answered_all.ensures.fits)
    (subst (λ (p : PoolCore). IfOk r (λ made. (h : List Item) → StandsFor p h → IsPrepared p (led made.1 p) steps made.0.items h)) c.pool.view_is c.answered_all.ensures.prepared))

pub invariant_of-pool : goal.invariant_of-pool
invariant_of-pool c = subst (λ (p : PoolCore). (p ≡ pool_of p.kept.inner) × StandsForSome p) (sym c.answered_all.ensures.same) c.pool.invariant

pub returns-clause-does : goal.returns-clause-does
unfolding Plans
returns-clause-does c =
    let s = c.args.pool.now in let r = c.answered_all.result in let same : c.answered_all.new.self ≡ s = c.answered_all.ensures.same ∙ c.pool.view_is in let steps = c.args.steps.now in
    subst (λ (p : PoolCore). IfOk r (λ made. (t : PoolCore) → Plans made.1 p t → LeadsTo s t steps made.0.items)) (sym same)
    (IfOk-weaker r (λ made. LeadsTo s (led made.1 s) steps made.0.items) (λ made. (t : PoolCore) → Plans made.1 s t → LeadsTo s t steps made.0.items) (λ made d t p. subst (λ (u : PoolCore). LeadsTo s u steps made.0.items) p.1 d) (subst (λ (p : PoolCore). IfOk r (λ made. LeadsTo p (led made.1 p) steps made.0.items)) c.pool.view_is c.answered_all.ensures.does))

pub returns-clause-prepared : goal.returns-clause-prepared
unfolding Plans
returns-clause-prepared c =
    let s = c.args.pool.now in let r = c.answered_all.result in let same : c.answered_all.new.self ≡ s = c.answered_all.ensures.same ∙ c.pool.view_is in let steps = c.args.steps.now in
    subst (λ (p : PoolCore). IfOk r (λ made. (t : PoolCore) (h : List Item) → Plans made.1 p t → StandsFor s h → IsPrepared s t steps made.0.items h)) (sym same)
    (IfOk-weaker r (λ made. (h : List Item) → StandsFor s h → IsPrepared s (led made.1 s) steps made.0.items h) (λ made. (t : PoolCore) (h : List Item) → Plans made.1 s t → StandsFor s h → IsPrepared s t steps made.0.items h)
    (λ made d t h p z. subst (λ (u : PoolCore). IsPrepared s u steps made.0.items h) p.1 (d h z)) (subst (λ (p : PoolCore). IfOk r (λ made. (h : List Item) → StandsFor p h → IsPrepared p (led made.1 p) steps made.0.items h)) c.pool.view_is c.answered_all.ensures.prepared))
