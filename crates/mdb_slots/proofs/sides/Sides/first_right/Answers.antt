use Rattle.std.proofs.Common.{filter, refl}
use Rattle.mdb_slots.proofs.Picks.{first-pick, find-first}
use Rattle.mdb_slots.proofs.Rests.{rest-first}
use Rattle.mdb_slots.proofs.sides.Sides.first_right.Goals as goal

pub returns-clause-value : goal.returns-clause-value
returns-clause-value g c =
    rw (c.of_number.ensures, c.copied.ensures, c.first.ensures, ← c.self.view_is, c.self.invariant.0.right_is) (first-pick g.T.Keyed.key g.T.Keyed.key (λ k. k) (λ x. refl) g.T.Sided.on_right c.self.inside.parts.table.now c.self.invariant.0.apart_is)

pub returns-clause-apart : goal.returns-clause-apart
returns-clause-apart g c = rw (← c.self.view_is) c.self.invariant.0.apart_is

pub returns-clause-rest : goal.returns-clause-rest
returns-clause-rest g c =
    rw (returns-clause-value g c, find-first g.T.Keyed.key g.T.Keyed.key (λ k. k) (λ x. refl) g.T.Sided.on_right c.args.self.now.now) (rest-first g.T.Keyed.key (filter g.T.Sided.on_right c.args.self.now.now))
