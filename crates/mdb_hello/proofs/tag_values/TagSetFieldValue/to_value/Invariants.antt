use Rattle.std.proofs.Common.{◌≡◌, map, take}
use Rattle.mdb_base.specs.Document.{named_content}
use Rattle.mdb_hello.specs.Kinds.{tag_field}
use Rattle.mdb_hello.proofs.tag_values.TagSetFieldValue.to_value.Given as goal

abbrev pub invariant-loop-name : goal.invariant-loop-name
invariant-loop-name l = map named_content l.fields.items ≡ map tag_field (take l.name-index l.name-items)
