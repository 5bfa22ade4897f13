use Rattle.std.proofs.Common.{◌≡◌, ◌*◌, ◌≤◌, ◌^◌, take}
use Rattle.mdb_bench.specs.Counts.{grants}
use Rattle.mdb_bench.proofs.counts.Counts.of.Given as goal

abbrev pub invariant-loop-entry : goal.invariant-loop-entry
invariant-loop-entry l = record {
  counted : l.granted ≡ grants (take l.entry-index l.entries);
  small : l.granted ≤ l.entry-index * (2 ^ 64);
}
