use Rattle.std.proofs.Common.{refl, sym, ◌∙◌}
use Rattle.mdb_topology.proofs.OfMonitors.CheckFailed.{here-at}
use Rattle.mdb_driver_pools.proofs.OnePool.FoundAt.{open-lives}
use Rattle.mdb_topology.proofs.topology.TopologyCore.monitored.Goals as goal

pub returns-then-is_here-clause-kept : goal.returns-then-is_here-clause-kept
returns-then-is_here-clause-kept c =
    let w = c.args.self.now in
    c.requires.stands.1.watched c.args.pool (open-lives w.pools.cores.items c.args.address.now c.args.pool (here-at w c.args.address.now c.args.pool c.args.pool refl (sym c.is_here.ensures ∙ c.if-is_here.true)))
