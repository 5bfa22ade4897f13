use denote.Param.Send.{sendable}
use Rattle.std.proofs.Crossing.{crosses}
use Rattle.mdb_topology.proofs.Crossing.{driver_crosses}
use Rattle.mdb_proxy_runs.proofs.run.open_proxy.Goals as goal

pub new-requires-send-C : goal.new-requires-send-C
new-requires-send-C c κs = search (driver_crosses, crosses, sendable) depth 20
