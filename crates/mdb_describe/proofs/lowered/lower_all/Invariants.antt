use Rattle.std.proofs.Common.{◌≡◌, map}
use Rattle.mdb_describe.specs.Listed.{lower}
use Rattle.mdb_describe.proofs.lowered.lower_all.Given as goal

abbrev pub invariant-loop-text : goal.invariant-loop-text
invariant-loop-text l = l.all.items ≡ map lower l.yielded
