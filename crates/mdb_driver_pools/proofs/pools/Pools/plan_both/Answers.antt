use Rattle.std.proofs.Common.{◌≡◌, ◌++◌, true, Some, sym, ◌∙◌, ap, subst}
use Rattle.std.specs.Prelude.{slice_get}
use Rattle.mdb_pool.specs.Core.{PoolCore}
use Rattle.mdb_driver_pools.specs.Failing.{DoesBoth}
use Rattle.mdb_driver_pools.specs.Living.{lives_at, PoolList}
use Rattle.mdb_driver_pools.specs.Clearing.{asked_of}
use Rattle.mdb_driver_rules.proofs.General.OnePosition.{some-same}
use Rattle.mdb_driver_pools.proofs.InMemory.LivingPools.{some-living}
use Rattle.mdb_driver_pools.proofs.pools.Pools.plan_both.Goals as goal

-- the pools are as they were
pub at-requires : goal.at-requires
at-requires c = subst (λ (v : PoolList). lives_at v.items c.args.trouble.now.index ≡ true) (sym c.in_ok-cleared.ensures.same) c.requires.there

pub returns-clause-planned : goal.returns-clause-planned
returns-clause-planned c =
    let pools = c.args.self.now.cores.items in
    let i = c.args.trouble.now.index in
    let s = some-living pools i c.requires.there in
    let cleared = c.in_ok-cleared.cleared in
    let failed = c.in_ok-cleared.failed in
    let before = c.args.facts.now.items in
    let p = c.at.result.now in
    let there : slice_get pools i ≡ Some p = subst (λ (v : PoolList). slice_get v.items i ≡ Some p) c.in_ok-cleared.ensures.same c.at.ensures in
    let address : c.address.result.now ≡ s.0.address = c.address.ensures ∙ ap (λ (x : PoolCore). x.address) (some-same p s.0 (slice_get pools i) there s.1) in
    let planned = c.in_ok-cleared.ensures.planned s.0 s.1 in
    record {
      pool = s.0;
      there = s.1;
      plan = planned.plan;
      made = planned.made;
      clear = cleared;
      failure = failed;
      does = λ u q. subst (λ k. DoesBoth s.0 u (record { moment = k; act = c.args.clear.act }) c.args.step.now cleared failed) c.requires.moment (planned.does u q);
      behind = planned.behind;
      told = c.in_ok-tell_both.ensures ∙ ap (λ a. ((before ++ cleared.facts) ++ asked_of c.args.trouble.now.asked true a) ++ failed.facts) address;
    }
