use Rattle.std.proofs.Common.{◌++◌, ◌∙◌, ap}
use Rattle.mdb_driver_pools.proofs.InMemory.LivingPools.{some-living}
use Rattle.mdb_driver_pools.proofs.pools.Pools.plan_act.Goals as goal

pub plan_one-requires-clause-act : goal.plan_one-requires-clause-act
plan_one-requires-clause-act c = λ s at. (c.requires.accepted s at).0

pub plan_one-requires-clause-accepted : goal.plan_one-requires-clause-accepted
plan_one-requires-clause-accepted c = λ s at. (c.requires.accepted s at).1

pub returns-clause-planned : goal.returns-clause-planned
returns-clause-planned c =
    let s = some-living c.args.self.now.cores.items c.args.index c.requires.there in
    record {
      pool = s.0;
      there = s.1;
      plan = c.in_ok-answered.plan;
      made = c.in_ok-answered.ensures.plan s.0 s.1;
      answered = c.in_ok-answered.answered;
      does = λ t p. c.in_ok-answered.ensures.does s.0 t s.1 p;
      behind = c.in_ok-push.ensures.items;
      told = c.in_ok-append.ensures.items ∙ ap (λ fs. c.args.facts.now.items ++ fs) c.into_inner-told.ensures;
    }
