use Rattle.std.proofs.Common.{◌≡◌, List, length}
use Rattle.mdb_log.specs.History.{PoolItem}
use Rattle.mdb_pool.specs.Standing.{Fits, SameHome}
use Rattle.mdb_pool.specs.Acts.Doing.{SameNotes}
use Rattle.mdb_pool.specs.Kept.Values.{numbers_where}
use Rattle.mdb_pool.specs.Kept.Places.{is_queued}
use Rattle.mdb_pool.proofs.Turns.ExpireMany.{Expiring}
use Rattle.mdb_pool.proofs.kept.draft.Draft.end_all_overdue.Given as goal

abbrev pub invariant-loop-request : goal.invariant-loop-request
invariant-loop-request l = record {
  last : l.self.kept.last ≡ l.initial.self.kept.last;
  home : SameHome l.initial.self l.self;
  inner : l.self.kept.inner ≡ l.initial.self.kept.inner;
  notes : SameNotes l.initial.self l.self;
  expires : (xs : List PoolItem) → Fits l.initial.self xs → Expiring l.initial.self l.self l.moment l.initial.facts.items l.facts.items xs;
}

abbrev pub decreases-loop-request : goal.decreases-loop-request
decreases-loop-request l = length (numbers_where is_queued l.self.kept.requests)
