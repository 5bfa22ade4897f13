use Rattle.std.proofs.Common.{filter, refl}
use Rattle.mdb_slots.specs.Sided.{record_of}
use Rattle.mdb_slots.proofs.Picks.{next-pick}
use Rattle.mdb_slots.proofs.Rests.{rest-next, apart-filter}
use Rattle.mdb_slots.proofs.sides.Sides.next_left.Goals as goal

pub returns : goal.returns
returns g c =
    let xs = c.self.inside.parts.table.now in
    rw (c.of_record.ensures, c.copied.ensures, c.next.ensures, ← c.self.view_is, c.self.invariant.0.left_is, next-pick g.T.Keyed.key (record_of g.T.Keyed.key g.T.Sided.service g.T.Sided.since) (λ r. r.id) (λ x. refl) g.T.Sided.on_left c.args.key xs c.self.invariant.0.apart_is) (rest-next g.T.Keyed.key c.args.key (filter g.T.Sided.on_left xs) (apart-filter g.T.Keyed.key g.T.Sided.on_left xs c.self.invariant.0.apart_is))
