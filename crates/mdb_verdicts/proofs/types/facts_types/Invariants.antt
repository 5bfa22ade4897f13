use Rattle.std.proofs.Common.{take}
use Rattle.std.specs.List.{AllByRecursion}
use Rattle.mdb_entries.specs.Answers.{IsFactTyped}
use Rattle.mdb_verdicts.proofs.types.facts_types.Given as goal

abbrev pub invariant-loop-fact : goal.invariant-loop-fact
invariant-loop-fact l = AllByRecursion IsFactTyped (take l.fact-index l.facts)
