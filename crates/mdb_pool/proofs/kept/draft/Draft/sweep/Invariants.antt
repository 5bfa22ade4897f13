use Rattle.std.proofs.Common.{◌≡◌, List, length}
use Rattle.mdb_log.specs.History.{PoolItem}
use Rattle.mdb_pool.specs.Standing.{Fits, SameHome}
use Rattle.mdb_pool.specs.Acts.Doing.{SameNotes}
use Rattle.mdb_pool.specs.Kept.Values.{ids_where}
use Rattle.mdb_pool.specs.Kept.Places.{is_available}
use Rattle.mdb_pool.proofs.Turns.MaintainMany.{Sweeping}
use Rattle.mdb_pool.proofs.kept.draft.Draft.sweep.Given as goal

abbrev pub invariant-loop-connection : goal.invariant-loop-connection
invariant-loop-connection l = record {
  last : l.self.kept.last ≡ l.initial.self.kept.last;
  home : SameHome l.initial.self l.self;
  inner : l.self.kept.inner ≡ l.initial.self.kept.inner;
  notes : SameNotes l.initial.self l.self;
  sweeps : (xs : List PoolItem) → Fits l.initial.self xs → Sweeping l.initial.self l.self l.moment l.initial.facts.items l.facts.items xs;
}

abbrev pub decreases-loop-connection : goal.decreases-loop-connection
decreases-loop-connection l = length (ids_where is_available l.self.kept.connections)
