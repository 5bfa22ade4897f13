use Rattle.std.proofs.Common.{filter, refl}
use Rattle.mdb_slots.specs.Sided.{record_of}
use Rattle.mdb_slots.proofs.Picks.{first-pick, find-first}
use Rattle.mdb_slots.proofs.Rests.{rest-first}
use Rattle.mdb_slots.proofs.sides.Sides.first_left.Goals as goal

pub returns-clause-value : goal.returns-clause-value
returns-clause-value g c =
    rw (c.of_record.ensures, c.copied.ensures, c.first.ensures, ← c.self.view_is, c.self.invariant.0.left_is) (first-pick g.T.Keyed.key (record_of g.T.Keyed.key g.T.Sided.service g.T.Sided.since) (λ r. r.id) (λ x. refl) g.T.Sided.on_left c.self.inside.parts.table.now c.self.invariant.0.apart_is)

pub returns-clause-apart : goal.returns-clause-apart
returns-clause-apart g c = rw (← c.self.view_is) c.self.invariant.0.apart_is

pub returns-clause-rest : goal.returns-clause-rest
returns-clause-rest g c =
    rw (returns-clause-value g c, find-first g.T.Keyed.key (record_of g.T.Keyed.key g.T.Sided.service g.T.Sided.since) (λ r. r.id) (λ x. refl) g.T.Sided.on_left c.args.self.now.now) (rest-first g.T.Keyed.key (filter g.T.Sided.on_left c.args.self.now.now))
