use Rattle.std.proofs.Common.{◌++◌, take, codes}
use Rattle.std.specs.List.{flat_map}
use Rattle.std.specs.Fmt.{HasWritten, IsPlainFormatter}
use Rattle.mdb_replies.specs.Values.{tag_text}
use Rattle.mdb_replies.proofs.list_text.TagsDisplay.fmt.Given as goal

abbrev pub invariant-loop-tag : goal.invariant-loop-tag
invariant-loop-tag g l =
    IsPlainFormatter l.initial.f → HasWritten g.W.Write.write_str_gives l.initial.f (flat_map (λ t. codes "," ++ tag_text t) (take l.tag-index l.more)) l.f
