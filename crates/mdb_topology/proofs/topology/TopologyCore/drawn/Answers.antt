use Rattle.std.proofs.Common.{◌≡◌, ◌+◌, true, false, arith}
use Rattle.mdb_topology.proofs.OfMonitors.CheckBegins.{drawn-at}
use Rattle.mdb_topology.proofs.topology.TopologyCore.drawn.Goals as goal

pub returns-then-connected : goal.returns-then-connected
returns-then-connected c h z =
    let w = c.args.self.now in
    let ms = w.monitors.items in
    let x = c.at.result.now in
    let same : w.fresh ≡ w.fresh + 0 = omega arith in
    drawn-at w h z c.args.index x (c.at.ensures) true c.if-connected.ensures w.fresh same

pub returns-in-Some : goal.returns-in-Some
returns-in-Some c h z =
    let w = c.args.self.now in
    let ms = w.monitors.items in
    let x = c.at.result.now in
    let more : c.in-Some.numbers ≡ w.fresh + 1 = grind (arith, c.in-Some.ensures, c.in-Some.is) in
    drawn-at w h z c.args.index x (c.at.ensures) false c.if-connected.ensures c.in-Some.numbers more
