use Rattle.std.proofs.Common.{◌≡◌, sym, ap, subst}
use Rattle.mdb_pool.specs.Core.{PoolCore}
use Rattle.mdb_pool.specs.Kept.Body.{PoolSteps, led, pool_of}
use Rattle.mdb_pool.specs.Now.{alone_now}
use Rattle.mdb_pool.specs.Standing.{SameHome}
use Rattle.mdb_pool.proofs.planning.apply.Goals as goal

-- the pool that a plan leads to is at home where the pool of the plan is
led-home : (p : PoolSteps) (s : PoolCore) → s ≡ pool_of s.kept.inner → SameHome s (led p s)
unfolding alone_now
led-home p s e = record {
  pool = ap (λ (x : PoolCore). x.pool) (sym e);
  address = ap (λ (x : PoolCore). x.address) (sym e);
  options = ap (λ (x : PoolCore). x.options) (sym e);
  alone = ap (λ (x : PoolCore). x.kept.alone) (sym e);
}

pub returns-clause-home : goal.returns-clause-home
returns-clause-home c =
    let plan = c.plan.inside.redo in let s = c.pool.inside.draft in
    let home = subst (λ (x : PoolCore). SameHome x (led plan s)) c.pool.view_is (led-home plan s c.pool.invariant.0) in
    subst (λ (t : PoolCore). SameHome c.args.pool.now t) (sym c.redo.ensures.now) (subst (λ (x : PoolCore). SameHome c.args.pool.now (led plan x)) (sym (ap (λ x. x.draft) c.pool-inside.view_is)) home)
