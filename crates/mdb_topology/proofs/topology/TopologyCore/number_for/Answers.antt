use Rattle.std.proofs.Common.{true, false}
use Rattle.mdb_topology.proofs.OfMonitors.CheckBegins.{number-at}
use Rattle.mdb_topology.proofs.topology.TopologyCore.number_for.Goals as goal

pub returns-then-connected : goal.returns-then-connected
returns-then-connected c h z =
    let ms = c.args.self.now.monitors.items in
    let x = c.at.result.now in
    number-at c.args.self.now h z c.args.index x (c.at.ensures) true c.if-connected.ensures

pub returns : goal.returns
returns c h z =
    let ms = c.args.self.now.monitors.items in
    let x = c.at.result.now in
    number-at c.args.self.now h z c.args.index x (c.at.ensures) false c.if-connected.ensures
