use Rattle.mdb_slots.proofs.InStep.{step-put}
use Rattle.mdb_slots.proofs.side_parts.SideParts.put.Goals as goal

pub returns-clause-in_step : goal.returns-clause-in_step
returns-clause-in_step g c =
    rw (c.in_ok-put.ensures.now, c.in_ok-relist.ensures.now, c.in_ok-relist-2.ensures.now, c.on_left-on_left.ensures, c.on_right-on_right.ensures, c.record-listed.ensures) (step-put g.T.Keyed.key g.T.Sided.service g.T.Sided.since g.T.Sided.on_left g.T.Sided.on_right c.requires c.args.item)
