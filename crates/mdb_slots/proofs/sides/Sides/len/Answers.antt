use Rattle.mdb_slots.proofs.sides.Sides.len.Goals as goal

pub returns-clause-apart : goal.returns-clause-apart
returns-clause-apart g c = rw (← c.self.view_is) c.self.invariant.0.apart_is
