use Rattle.std.proofs.Common.{subst}
use Rattle.mdb_topology.specs.declared.monitors.monitoring.Monitoring.{Monitoring}
use Rattle.mdb_topology.specs.Checking.{IsPlaced}
use Rattle.mdb_topology.proofs.topology.TopologyCore.watch.Goals as goal

pub put-requires : goal.put-requires
put-requires c = subst (λ (x : Monitoring). IsPlaced x c.args.self.now.monitors.kept) c.in-Checked.is c.requires.placed
