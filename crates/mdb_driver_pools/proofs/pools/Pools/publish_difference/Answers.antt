use Rattle.std.proofs.Common.{◌≡◌, List, sym, ◌∙◌, ap, subst, arith}
use Rattle.mdb_pool.specs.Core.{PoolCore}
use Rattle.mdb_driver_pools.specs.declared.pool_change.PoolChange.{PoolChange}
use Rattle.mdb_driver_pools.specs.declared.pools.Pools.{Pools}
use Rattle.mdb_driver_pools.specs.Planned.{LeadsAll}
use Rattle.mdb_driver_rules.specs.Touching.{touches}
use Rattle.mdb_driver_pools.proofs.Publications.MadeAtOnce.{few-added, can-now, publishes}
use Rattle.mdb_driver_pools.proofs.pools.Pools.publish_difference.Goals as goal

pub plan_publication-requires-clause-few : goal.plan_publication-requires-clause-few
plan_publication-requires-clause-few c = omega (arith, few-added c.args.change.now.earlier.now c.args.change.now.later.now c.args.diff.now c.requires.difference, c.requires.few)

pub returns-in-Ok-clause-published : goal.returns-in-Ok-clause-published
returns-in-Ok-clause-published c =
    let m = c.args.change.now.moment in
    let pools = c.args.self.now.cores.items in
    let changes = c.in_ok-changes.changes.items in
    let later = c.apply_all.new.self.cores.items in
    let p = c.in_ok-changes.ensures.planned in
    let go = p.planned_are.leads pools (can-now m pools (touches c.args.change.now.later.now c.args.diff.now) c.requires.early) in
    let l : LeadsAll changes pools go.0 = subst (λ (cs : List PoolChange). LeadsAll cs pools go.0) (sym p.behind) go.1 in
    let same : c.reserve.new.self.cores.items ≡ pools = c.in-Ok.ensures.cores ∙ ap (λ (w : Pools). w.cores.items) c.in_ok-changes.ensures.same in
    let arrived : go.0 ≡ later = c.apply_all.ensures.led go.0 (subst (λ (w : List PoolCore). LeadsAll changes w go.0) (sym same) l) in
    publishes c.args.change.now.options.now m c.args.change.now.earlier.now c.args.change.now.later.now c.args.diff.now pools later changes c.args.facts.now.items c.plan_publication.new.facts.items
    c.requires.difference c.requires.in_both c.requires.early c.requires.open_for p (subst (λ (w : List PoolCore). LeadsAll changes pools w) arrived l)
