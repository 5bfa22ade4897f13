use Rattle.std.proofs.Common.{◌≡◌, ◌≤◌, [], length, map, take, true}
use Rattle.mdb_base.specs.Document.{named_content}
use Rattle.mdb_base.specs.Tags.{is_by_name}
use Rattle.mdb_hello.specs.Kinds.{put_tags}
use Rattle.mdb_hello.proofs.tag_values.tags_of_fields.Given as goal

abbrev pub invariant-loop-at : goal.invariant-loop-at
invariant-loop-at l =
    (l.at ≤ length l.fields) × (put_tags [] (map named_content l.fields) ≡ put_tags l.tags.items (map named_content (take l.at l.fields))) × (is_by_name l.tags.items ≡ true)

abbrev pub decreases-loop-at : goal.decreases-loop-at
decreases-loop-at l = l.at
