use Rattle.std.proofs.Common.{◌∙◌}
use Rattle.mdb_topology.proofs.Publications.OfDifference.{nothing-told}
use Rattle.mdb_topology.proofs.topology.TopologyCore.tell.Goals as goal

pub returns-in-None-clause-told : goal.returns-in-None-clause-told
returns-in-None-clause-told c =
    let s = c.requires.stands in
    let e = c.requires.diff ∙ c.in-None.is in
    rw (c.in-None.is, c.nothing.ensures.changes, c.nothing.ensures.facts) (nothing-told c.args.self.now s c.args.moment c.args.later.now e s.1.numbers)
