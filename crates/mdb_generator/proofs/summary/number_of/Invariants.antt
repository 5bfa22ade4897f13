use Rattle.std.proofs.Common.{◌≡◌, ◌*◌, ◌≤◌, ◌^◌, take}
use Rattle.mdb_generator.specs.Summaries.{number_of}
use Rattle.mdb_generator.proofs.summary.number_of.Given as goal

abbrev pub invariant-loop-entry : goal.invariant-loop-entry
invariant-loop-entry l = record {
  counted : l.number ≡ number_of l.kind (take l.entry-index l.entries);
  small : l.number ≤ l.entry-index * (2 ^ 64);
}
