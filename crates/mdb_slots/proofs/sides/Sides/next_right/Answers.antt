use Rattle.std.proofs.Common.{filter, refl}
use Rattle.mdb_slots.proofs.Picks.{next-pick}
use Rattle.mdb_slots.proofs.Rests.{rest-next, apart-filter}
use Rattle.mdb_slots.proofs.sides.Sides.next_right.Goals as goal

pub returns : goal.returns
returns g c =
    let xs = c.self.inside.parts.table.now in
    rw (c.of_number.ensures, c.copied.ensures, c.next.ensures, ← c.self.view_is, c.self.invariant.0.right_is, next-pick g.T.Keyed.key g.T.Keyed.key (λ k. k) (λ x. refl) g.T.Sided.on_right c.args.key xs c.self.invariant.0.apart_is) (rest-next g.T.Keyed.key c.args.key (filter g.T.Sided.on_right xs) (apart-filter g.T.Keyed.key g.T.Sided.on_right xs c.self.invariant.0.apart_is))
