use Rattle.std.proofs.Common.{◌≡◌, not, filter, sym, ◌∙◌, ap}
use Rattle.mdb_slots.specs.Keyed.{others}
use Rattle.mdb_slots.proofs.Sweeps.{sweep-one, sweep-smaller, swept}
use Rattle.mdb_slots.proofs.sides.Sides.clear_right.Goals as goal

pub loop-x-smaller : goal.loop-x-smaller
loop-x-smaller g c =
    let gone : c.remove.new.self.now ≡ others g.T.Keyed.key (g.T.Keyed.key c.in-Some.x.now) c.loop-x.self.now = c.in_ok-remove.ensures.now ∙ ap (λ k. others g.T.Keyed.key k c.loop-x.self.now) c.key-key.ensures in
    rw gone (sweep-smaller g.T.Keyed.key g.T.Sided.on_right c.loop-x.self.now c.in-Some.x.now (sym c.in-Some.ensures.value))

pub loop-x-preserved : goal.loop-x-preserved
loop-x-preserved g c =
    let gone : c.remove.new.self.now ≡ others g.T.Keyed.key (g.T.Keyed.key c.in-Some.x.now) c.loop-x.self.now = c.in_ok-remove.ensures.now ∙ ap (λ k. others g.T.Keyed.key k c.loop-x.self.now) c.key-key.ensures in
    let one = sweep-one g.T.Keyed.key g.T.Sided.on_right c.loop-x.self.now c.in-Some.x.now c.first_right.ensures.apart (sym c.in-Some.ensures.value) in
    record {
      base = c.remove.ensures.base ∙ c.loop-x.invariant.base;
      capacity = c.remove.ensures.capacity ∙ c.loop-x.invariant.capacity;
      stays = ap (λ xs. filter (λ x. not (g.T.Sided.on_right x)) xs) gone ∙ (one ∙ c.loop-x.invariant.stays);
    }

pub returns-clause-now : goal.returns-clause-now
returns-clause-now g c = sym (swept g.T.Keyed.key g.T.Sided.on_right c.loop-x.self.now (sym c.in_default.ensures.value)) ∙ c.loop-x.invariant.stays
