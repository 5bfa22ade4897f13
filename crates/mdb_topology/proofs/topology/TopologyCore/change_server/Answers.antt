use Rattle.std.proofs.Common.{IfOk, subst}
use Rattle.mdb_topology.specs.Changing.{ChangesTo}
use Rattle.mdb_topology.proofs.Publications.SaidAgain.{repeats-change}
use Rattle.mdb_topology.proofs.topology.TopologyCore.change_server.Goals as goal

pub returns-then-again-clause-changes : goal.returns-then-again-clause-changes
returns-then-again-clause-changes c =
    let e = c.of_reply-next.ensures in
    repeats-change c.args.self.now c.requires.stands c.args.step.now.moment c.args.server (c.in_ok-again.ensures c.if-again.true) c.of_reply-next.result e.reply e.facts e.changes e.description e.monitors e.monitoring e.stops

pub returns-clause-changes : goal.returns-clause-changes
returns-clause-changes c = subst (λ u. IfOk c.change.result (λ stepped. ChangesTo c.args.self.now c.args.step.now.moment u stepped)) c.in_ok-later.ensures c.change.ensures.changes
