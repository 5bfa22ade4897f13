use Rattle.std.proofs.Common.{◌≡◌, [], length, ap, arith}
use Rattle.mdb_describe.specs.declared.topology.TopologyDescription.{TopologyDescription}
use Rattle.mdb_describe.specs.Topology.{opened}
use Rattle.mdb_driver_rules.specs.Description.{begins_with}
use Rattle.mdb_driver_rules.proofs.KnownBalancers.{few-opened, few-begun}
use Rattle.mdb_driver_pools.proofs.DriverOpened.OpenedDriver.{few-seeds, is-opened}
use Rattle.mdb_driver_pools.proofs.Publications.MadeAtOnce.{empty-stand}
use Rattle.mdb_driver_pools.proofs.opening.open.Goals as goal

pub publish-requires-clause-open_for : goal.publish-requires-clause-open_for
publish-requires-clause-open_for c = c.in_ok-publish_opened.ensures.published.open_for [] (empty-stand c.args.options.now)

pub publish-requires-clause-few : goal.publish-requires-clause-few
publish-requires-clause-few c =
    let o = c.args.options.now in
    let first : length c.in_ok-seeded.seeded.servers ≡ length (opened o).servers = ap (λ (t : TopologyDescription). length t.servers) c.in_ok-seeded.ensures in
    let second : length c.in_ok-description.description.servers ≡ length (begins_with o).servers = ap (λ (t : TopologyDescription). length t.servers) c.in_ok-description.ensures in
    omega (arith, few-opened o, few-begun o, few-seeds o c.requires, first, second, c.in_ok-publish_opened.ensures.published.count)

pub returns-clause-opened : goal.returns-clause-opened
returns-clause-opened c =
    is-opened c.args.options.now c.args.moment c.publish_opened.new.pools.cores.items c.publish.new.self.cores.items c.in_ok-seeded.seeded c.in_ok-description.description
    c.new-facts.result.items c.tell_opening.new.facts.items c.publish_opened.new.facts.items c.publish.new.facts.items
    c.new-facts.ensures.items c.in_ok-tell_opening.ensures c.in_ok-seeded.ensures c.in_ok-description.ensures c.in_ok-publish_opened.ensures.published c.in_ok-publish.ensures.published
