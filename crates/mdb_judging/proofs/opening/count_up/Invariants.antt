use Rattle.std.proofs.Common.{◌≡◌, map, drop}
use Rattle.mdb_log.specs.PlainLegal.{counts_from}
use Rattle.mdb_judging.specs.Opens.{home_of}
use Rattle.mdb_judging.proofs.opening.count_up.Given as goal

abbrev pub invariant-loop-pool : goal.invariant-loop-pool
invariant-loop-pool l = record {
  next : l.next ≡ l.pool-index;
  rest : counts_from l.pool-index (map home_of (drop l.pool-index l.pools)) ≡ counts_from 0 (map home_of l.pools);
}
