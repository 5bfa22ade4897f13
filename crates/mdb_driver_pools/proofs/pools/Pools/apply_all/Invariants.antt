use Rattle.std.proofs.Common.{◌≡◌, ◌+◌, List, length, drop}
use Rattle.mdb_pool.specs.Core.{PoolCore}
use Rattle.mdb_driver_pools.specs.Planned.{LeadsAll, opened_by}
use Rattle.mdb_driver_pools.proofs.pools.Pools.apply_all.Given as goal

abbrev pub invariant-loop-change : goal.invariant-loop-change
invariant-loop-change l = record {
  last : l.self.last ≡ l.fn.self.last;
  ahead : (later : List PoolCore) → LeadsAll l.fn.changes.items l.fn.self.cores.items later → LeadsAll (drop (length l.yielded) l.fn.changes.items) l.self.cores.items later;
  count : length l.self.cores.items + length (opened_by (drop (length l.yielded) l.fn.changes.items)) ≡ length l.fn.self.cores.items + length (opened_by l.fn.changes.items);
  known : l.self.known ≡ l.fn.self.known;
  room : l.self.cores.room ≡ l.fn.self.cores.room;
}
