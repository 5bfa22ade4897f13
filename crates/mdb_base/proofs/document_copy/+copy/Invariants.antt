use Rattle.std.proofs.Common.{◌≡◌, take, map}
use Rattle.mdb_base.specs.Document.{value_content, named_content}
use Rattle.mdb_base.proofs.document_copy.+copy.Given as goal

abbrev pub invariant-copy_fields-loop-name : goal.invariant-copy_fields-loop-name
invariant-copy_fields-loop-name l = map named_content l.copies.items ≡ map named_content (take l.name-index l.name-items)

abbrev pub invariant-copy_values-loop-value : goal.invariant-copy_values-loop-value
invariant-copy_values-loop-value l = map value_content l.copies.items ≡ map value_content (take l.value-index l.value-items)
