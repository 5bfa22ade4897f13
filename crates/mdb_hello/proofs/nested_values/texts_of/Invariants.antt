use Rattle.std.proofs.Common.{◌≡◌, ◌++◌, length, map, option_map}
use Rattle.mdb_base.specs.Document.{value_content}
use Rattle.mdb_hello.specs.Kinds.{all_texts}
use Rattle.mdb_hello.proofs.nested_values.texts_of.Given as goal

abbrev pub invariant-loop-rest : goal.invariant-loop-rest
invariant-loop-rest l =
    all_texts (map value_content l.values) ≡ option_map (λ more. l.texts.items ++ more) (all_texts (map value_content l.rest))

abbrev pub decreases-loop-rest : goal.decreases-loop-rest
decreases-loop-rest l = length l.rest
