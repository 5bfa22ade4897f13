use Rattle.std.proofs.Common.{Some, ap, subst}
use Rattle.mdb_topology.specs.Marking.{MarkTold}
use Rattle.mdb_topology.proofs.topology.TopologyCore.mark_at.Goals as goal

pub returns-in-Ok-clause-marked : goal.returns-in-Ok-clause-marked
returns-in-Ok-clause-marked c x of =
    let w = c.args.self.now in
    let m = c.args.step.now.moment in
    let e = c.in_ok-later.ensures in
    let told = c.in-Ok.ensures.told x of in
    record {
      changed = c.in-Ok.marked.changed;
      told = subst (λ v. MarkTold w m v x c.in-Ok.marked.facts.items c.in-Ok.marked.changes.items c.in-Ok.marked.changed) e told;
      reply = c.of_reply.ensures.reply;
      known = ap Some e;
      goes_on = c.of_reply.ensures.stops;
      monitors = c.of_reply.ensures.monitors;
      nothing = c.of_reply.ensures.monitoring;
    }
