use Rattle.std.proofs.Common.{◌≡◌}
use Rattle.mdb_hello.proofs.Placed.{LiesPast}
use Rattle.mdb_hello.proofs.tag_values.put.Given as goal

abbrev pub invariant-loop-at : goal.invariant-loop-at
invariant-loop-at l = (l.tags ≡ l.fn.tags) × (l.name ≡ l.fn.name) × LiesPast (l.name, l.value) l.tags.items l.at
