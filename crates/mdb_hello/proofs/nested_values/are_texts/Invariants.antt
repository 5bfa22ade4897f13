use Rattle.std.proofs.Common.{◌≡◌, length, map, is_some}
use Rattle.mdb_base.specs.Document.{value_content}
use Rattle.mdb_hello.specs.Kinds.{all_texts}
use Rattle.mdb_hello.proofs.nested_values.are_texts.Given as goal

abbrev pub invariant-loop-rest : goal.invariant-loop-rest
invariant-loop-rest l = is_some (all_texts (map value_content l.values)) ≡ is_some (all_texts (map value_content l.rest))

abbrev pub decreases-loop-rest : goal.decreases-loop-rest
decreases-loop-rest l = length l.rest
