use Rattle.std.proofs.Common.{◌≡◌, not, filter, length}
use Rattle.mdb_slots.proofs.sides.Sides.clear_left.Given as goal

-- what is not on this side stays
abbrev pub invariant-loop-x : goal.invariant-loop-x
invariant-loop-x g l = record {
  base : l.self.base ≡ l.initial.self.base;
  capacity : l.self.capacity ≡ l.initial.self.capacity;
  stays : filter (λ x. not (g.T.Sided.on_left x)) l.self.now ≡ filter (λ x. not (g.T.Sided.on_left x)) l.initial.self.now;
}

abbrev pub decreases-loop-x : goal.decreases-loop-x
decreases-loop-x g l = length l.self.now
