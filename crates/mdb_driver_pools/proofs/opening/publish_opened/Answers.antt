use Rattle.std.proofs.Common.{◌≡◌, [], length, ap, arith}
use Rattle.mdb_describe.specs.declared.topology.TopologyDescription.{TopologyDescription}
use Rattle.mdb_describe.specs.Topology.{opened}
use Rattle.mdb_pool.specs.Core.{PoolCore}
use Rattle.mdb_driver_rules.proofs.KnownBalancers.{few-opened}
use Rattle.mdb_driver_pools.proofs.opening.publish_opened.Goals as goal

pub publish-requires-clause-few : goal.publish-requires-clause-few
publish-requires-clause-few c =
    let none : length c.args.pools.now.cores.items ≡ length {A = PoolCore} [] = ap length c.requires.empty in
    let same : length c.args.seeded.now.servers ≡ length (opened c.args.options.now).servers = ap (λ (t : TopologyDescription). length t.servers) c.requires.seeded in
    omega (arith, few-opened c.args.options.now, c.requires.seeds, none, same)
