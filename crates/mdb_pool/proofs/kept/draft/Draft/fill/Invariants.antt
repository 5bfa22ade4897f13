use Rattle.std.proofs.Common.{◌≡◌, ◌-◌, List}
use Rattle.mdb_log.specs.History.{PoolItem}
use Rattle.mdb_pool.specs.Standing.{Fits, SameHome}
use Rattle.mdb_pool.specs.Acts.Doing.{SameNotes}
use Rattle.mdb_pool.proofs.Turns.MaintainMany.{Filling}
use Rattle.mdb_pool.proofs.kept.draft.Draft.fill.Given as goal

abbrev pub invariant-loop-alloc : goal.invariant-loop-alloc
invariant-loop-alloc l = record {
  last : l.self.kept.last ≡ l.initial.self.kept.last;
  home : SameHome l.initial.self l.self;
  inner : l.self.kept.inner ≡ l.initial.self.kept.inner;
  notes : SameNotes l.initial.self l.self;
  fills : (xs : List PoolItem) → Fits l.initial.self xs → Filling l.initial.self l.self l.moment l.initial.facts.items l.facts.items xs;
}

abbrev pub decreases-loop-alloc : goal.decreases-loop-alloc
decreases-loop-alloc l = l.self.options.limit_id - l.self.kept.created
