use Rattle.std.proofs.Common.{subst}
use Rattle.mdb_topology.specs.Changing.{known_with, ChangesIf}
use Rattle.mdb_topology.proofs.OfMonitors.CheckEnds.{with-check-concludes, with-check-repeats}
use Rattle.mdb_topology.proofs.topology.TopologyCore.conclude.Goals as goal

pub returns-in_ok-with_check-in-Ok-Accepted-clause-concludes : goal.returns-in_ok-with_check-in-Ok-Accepted-clause-concludes
returns-in_ok-with_check-in-Ok-Accepted-clause-concludes c =
    with-check-concludes c.args.self.now c.args.step.now.moment c.args.monitoring c.args.event (known_with c.args.self.now c.args.server) c.in-Ok-Accepted.next c.in_ok-with_check-in-Ok-Accepted.field-0
    (subst (ChangesIf c.args.self.now c.args.step.now.moment (known_with c.args.self.now c.args.server)) c.in-Ok-Accepted.field-0-is c.in-Ok-Accepted.ensures.changes) c.in_ok-with_check-in-Ok-Accepted.ensures

pub returns-in_ok-next-in-Ok-Repeated-clause-concludes : goal.returns-in_ok-next-in-Ok-Repeated-clause-concludes
returns-in_ok-next-in-Ok-Repeated-clause-concludes c =
    with-check-repeats c.args.self.now c.args.step.now.moment c.args.monitoring c.args.event (known_with c.args.self.now c.args.server) c.in-Ok-Repeated.next c.in_ok-next-in-Ok-Repeated.next c.in-Ok-Repeated.server
    (subst (ChangesIf c.args.self.now c.args.step.now.moment (known_with c.args.self.now c.args.server)) c.in-Ok-Repeated.field-0-is c.in-Ok-Repeated.ensures.changes) c.in_ok-next-in-Ok-Repeated.ensures
