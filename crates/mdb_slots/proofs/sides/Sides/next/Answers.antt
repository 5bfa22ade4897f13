use Rattle.mdb_slots.proofs.Rests.{rest-next}
use Rattle.mdb_slots.proofs.sides.Sides.next.Goals as goal

pub returns-clause-rest : goal.returns-clause-rest
returns-clause-rest g c =
    rw (c.next.ensures, ← c.self.view_is) (rest-next g.T.Keyed.key c.args.key c.self.inside.parts.table.now c.self.invariant.0.apart_is)
