use Rattle.std.proofs.Common.{◌≡◌, [], length, map, is_some}
use Rattle.mdb_base.specs.Document.{named_content}
use Rattle.mdb_hello.specs.Kinds.{put_tags}
use Rattle.mdb_hello.proofs.tag_values.hold_texts.Given as goal

abbrev pub invariant-loop-rest : goal.invariant-loop-rest
invariant-loop-rest l = is_some (put_tags [] (map named_content l.fields)) ≡ is_some (put_tags [] (map named_content l.rest))

abbrev pub decreases-loop-rest : goal.decreases-loop-rest
decreases-loop-rest l = length l.rest
