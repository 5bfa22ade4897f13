use Rattle.std.proofs.Common.{◌≡◌, map, take}
use Rattle.mdb_base.specs.Document.{value_content, text}
use Rattle.mdb_hello.proofs.nested_values.ItemsTextFieldValue.to_value.Given as goal

abbrev pub invariant-loop-text : goal.invariant-loop-text
invariant-loop-text l = map value_content l.values.items ≡ map text (take l.text-index l.text-items)
