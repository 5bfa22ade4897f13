use Rattle.std.proofs.Common.{◌++◌, take, codes}
use Rattle.std.specs.List.{flat_map}
use Rattle.std.specs.Fmt.{HasWritten, IsPlainFormatter}
use Rattle.mdb_describe.specs.InfoText.{tag_text}
use Rattle.mdb_describe.proofs.info_text.TagListDisplay.fmt.Given as goal

abbrev pub invariant-loop-other : goal.invariant-loop-other
invariant-loop-other g l =
    IsPlainFormatter l.initial.f → HasWritten g.W.Write.write_str_gives l.initial.f (flat_map (λ t. codes ", " ++ tag_text t) (take l.other-index l.more)) l.f
