use Rattle.mdb_slots.proofs.Rests.{rest-first}
use Rattle.mdb_slots.proofs.sides.Sides.first.Goals as goal

pub returns-clause-rest : goal.returns-clause-rest
returns-clause-rest g c = rw (c.first.ensures, ← c.self.view_is) (rest-first g.T.Keyed.key c.self.inside.parts.table.now)
