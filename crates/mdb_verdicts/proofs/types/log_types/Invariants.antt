use Rattle.std.proofs.Common.{take}
use Rattle.std.specs.List.{AllByRecursion}
use Rattle.mdb_entries.specs.Answers.{IsTyped}
use Rattle.mdb_verdicts.proofs.types.log_types.Given as goal

abbrev pub invariant-loop-entry : goal.invariant-loop-entry
invariant-loop-entry l = AllByRecursion IsTyped (take l.entry-index l.entries)
