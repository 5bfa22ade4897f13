use Rattle.mdb_pool.proofs.KeptInLittle.CountedClears.{cleared-counts}
use Rattle.mdb_pool.proofs.kept.connections.Connections.clear.Goals as goal

pub with_clear-requires : goal.with_clear-requires
with_clear-requires c = rw c.marks.ensures c.self.invariant.2.all

pub invariant_of-self : goal.invariant_of-self
invariant_of-self c = rw (c.push.ensures.now, c.push.ensures.base, c.created-after.ensures)
    (c.self.invariant.0, c.self.invariant.1, cleared-counts c.self.inside.claims.created.now c.self.inside.clears.now c.self.inside.live.now c.self.invariant.2 c.args.service c.args.timeout c.in_ok-marks.marks (rw (c.created-after.ensures, c.marks.ensures) at c.in_ok-marks.ensures.list) c.in_ok-marks.ensures.total (rw c.marks.ensures at c.in_ok-marks.ensures.timeouts), c.self.invariant.3)
