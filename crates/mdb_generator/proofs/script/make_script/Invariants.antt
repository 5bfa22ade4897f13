use Rattle.std.proofs.Common.{◌≡◌, ◌++◌}
use Rattle.std.specs.List.{flat_map}
use Rattle.mdb_lines.specs.Script.{line_of}
use Rattle.mdb_generator.specs.Generated.{rounds}
use Rattle.mdb_generator.proofs.script.make_script.Given as goal

abbrev pub invariant-loop-i : goal.invariant-loop-i
invariant-loop-i l = l.out.items ≡ l.initial.out.items ++ flat_map line_of (rounds l.i)
