use Rattle.std.proofs.Common.{◌≡◌, ◌++◌, length, map, reverse}
use Rattle.mdb_base.specs.Document.{value_content, named_content}
use Rattle.mdb_bson.specs.Reading.{values_of}
use Rattle.mdb_bson.proofs.making.values_of.Given as goal

abbrev pub invariant-loop-value : goal.invariant-loop-value
invariant-loop-value l = values_of (map named_content l.fn.fields.items) ≡ values_of (map named_content l.rest.items) ++ map value_content (reverse l.values.items)

abbrev pub decreases-loop-value : goal.decreases-loop-value
decreases-loop-value l = length l.rest.items
