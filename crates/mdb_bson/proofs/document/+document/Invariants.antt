use Rattle.std.proofs.Common.{◌≡◌, ◌+◌, ◌*◌, drop, map}
use Rattle.mdb_base.specs.Document.{named_content}
use Rattle.mdb_bson.specs.Reading.{document, elements}
use Rattle.mdb_bson.proofs.Loop.{with_front}
use Rattle.mdb_bson.proofs.document.+document.Given as goal

abbrev pub decreases-document : goal.decreases-document
decreases-document l = 7 * l.depth

abbrev pub decreases-framed : goal.decreases-framed
decreases-framed l = 7 * l.depth + 6

abbrev pub decreases-elements : goal.decreases-elements
decreases-elements l = 7 * l.depth + 5

abbrev pub decreases-element : goal.decreases-element
decreases-element l = 7 * l.depth + 4

abbrev pub decreases-value : goal.decreases-value
decreases-value l = 7 * l.depth + 3

abbrev pub decreases-value_of : goal.decreases-value_of
decreases-value_of l = 7 * l.depth + 2

abbrev pub decreases-nested_value : goal.decreases-nested_value
decreases-nested_value l = 7 * l.depth + 1

abbrev pub decreases-list_value : goal.decreases-list_value
decreases-list_value l = 7 * l.depth + 1

abbrev pub decreases-scoped : goal.decreases-scoped
decreases-scoped l = 7 * l.depth + 1

abbrev pub invariant-elements-loop : goal.invariant-elements-loop
invariant-elements-loop l =
    with_front (map named_content l.fields.items) (elements (document l.depth) l.end (drop l.index l.bytes) l.rest) ≡ elements (document l.depth) l.end l.bytes l.bytes
