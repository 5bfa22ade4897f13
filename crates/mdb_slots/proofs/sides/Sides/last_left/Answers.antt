use Rattle.std.proofs.Common.{refl}
use Rattle.mdb_slots.specs.Sided.{record_of}
use Rattle.mdb_slots.proofs.Picks.{last-pick}
use Rattle.mdb_slots.proofs.sides.Sides.last_left.Goals as goal

pub returns : goal.returns
returns g c =
    rw (c.of_record.ensures, c.copied.ensures, c.last.ensures, ← c.self.view_is, c.self.invariant.0.left_is) (last-pick g.T.Keyed.key (record_of g.T.Keyed.key g.T.Sided.service g.T.Sided.since) (λ r. r.id) (λ x. refl) g.T.Sided.on_left c.self.inside.parts.table.now c.self.invariant.0.apart_is)
