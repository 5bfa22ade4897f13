use Rattle.mdb_slots.proofs.InStep.{step-others}
use Rattle.mdb_slots.proofs.side_parts.SideParts.remove.Goals as goal

pub returns-clause-in_step : goal.returns-clause-in_step
returns-clause-in_step g c =
    rw (c.in_ok-remove.ensures.now, c.in_ok-remove-2.ensures.now, c.in_ok-remove-3.ensures.now) (step-others g.T.Keyed.key g.T.Sided.service g.T.Sided.since g.T.Sided.on_left g.T.Sided.on_right c.requires c.args.key)
