use Rattle.std.proofs.Common.{◌≡◌, map, drop}
use Rattle.mdb_log.specs.PlainLegal.{is_ascending}
use Rattle.mdb_judging.specs.Opens.{address_of}
use Rattle.mdb_judging.proofs.opening.ascend.Given as goal

abbrev pub invariant-loop-index : goal.invariant-loop-index
invariant-loop-index l = is_ascending (map address_of (drop l.index l.pools)) ≡ is_ascending (map address_of l.pools)
