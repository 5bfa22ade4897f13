use Rattle.std.proofs.Common.{[], length, subst}
use Rattle.mdb_driver_pools.specs.Planned.{PlansMore}
use Rattle.mdb_driver_rules.specs.Publishing.{publication}
use Rattle.mdb_driver_rules.specs.Touching.{touches}
use Rattle.mdb_topology.proofs.Publications.OfDifference.{open-known, difference-told}
use Rattle.mdb_topology.proofs.topology.TopologyCore.tell_difference.Goals as goal

pub plan_publication-requires-clause-open_for : goal.plan_publication-requires-clause-open_for
plan_publication-requires-clause-open_for c = open-known c.args.self.now c.requires.stands

pub returns-clause-told : goal.returns-clause-told
returns-clause-told c =
    let w = c.args.self.now in
    let d = c.args.diff.now in
    let u = c.args.later.now in
    difference-told w c.requires.stands c.args.moment u d c.in_ok-changes.changes.items c.plan_publication.new.facts.items c.requires.diff c.requires.few
    (subst (λ fs. PlansMore w.options c.args.moment w.pools.cores.items (length w.pools.cores.items) (touches u d) (publication w.options c.args.moment w.description u) d.removed d.added [] c.in_ok-changes.changes.items fs c.plan_publication.new.facts.items) c.new-facts.ensures.items c.in_ok-changes.ensures.planned)
