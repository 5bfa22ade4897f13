use Rattle.std.proofs.Common.{◌≡◌, true, List}
use Rattle.mdb_log.specs.History.{PoolItem}
use Rattle.mdb_pool.specs.Standing.{Fits, SameHome}
use Rattle.mdb_pool.specs.Acts.Doing.{SameNotes}
use Rattle.mdb_pool.specs.Kept.Values.{is_ready_now}
use Rattle.mdb_pool.proofs.Turns.Serve.{Progress, load}
use Rattle.mdb_pool.proofs.kept.draft.Draft.serve.Given as goal

abbrev pub invariant-loop-request : goal.invariant-loop-request
invariant-loop-request l = record {
  last : l.self.kept.last ≡ l.initial.self.kept.last;
  home : SameHome l.initial.self l.self;
  inner : l.self.kept.inner ≡ l.initial.self.kept.inner;
  notes : SameNotes l.initial.self l.self;
  ready : is_ready_now l.self.kept.status ≡ true;
  serves : (xs : List PoolItem) → Fits l.initial.self xs → Progress l.initial.self l.self l.moment l.initial.facts.items l.facts.items xs;
}

abbrev pub decreases-loop-request : goal.decreases-loop-request
decreases-loop-request l = load l.self
