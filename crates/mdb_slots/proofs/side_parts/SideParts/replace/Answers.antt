use Rattle.mdb_slots.proofs.InStep.{step-swap}
use Rattle.mdb_slots.proofs.side_parts.SideParts.replace.Goals as goal

pub returns-clause-in_step : goal.returns-clause-in_step
returns-clause-in_step g c =
    rw (c.in_ok-replace.ensures.now, c.in_ok-amend.ensures.now, c.in_ok-retain.ensures.now, c.on_left-on_left.ensures, c.on_right-on_right.ensures, c.record-listed.ensures) (step-swap g.T.Keyed.key g.T.Sided.service g.T.Sided.since g.T.Sided.on_left g.T.Sided.on_right c.requires.in_step c.args.item c.requires.left c.requires.right)
