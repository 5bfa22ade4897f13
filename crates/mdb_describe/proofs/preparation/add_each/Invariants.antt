use Rattle.std.proofs.Common.{◌≡◌, ◌++◌, take}
use Rattle.mdb_describe.specs.Listed.{addresses}
use Rattle.mdb_describe.proofs.preparation.add_each.Given as goal

abbrev pub invariant-loop-text : goal.invariant-loop-text
invariant-loop-text l = l.found.items ≡ l.fn.found.items ++ addresses (take l.text-index l.texts)
