use Rattle.std.proofs.Common.{◌≡◌, ◌+◌, ◌∙◌, ap, rules}
use Rattle.std.proofs.lemmas.Option.{get_or_from_slice_get}
use Rattle.mdb_pool.specs.declared.kept.marks.Mark.{Mark}
use Rattle.mdb_pool.proofs.KeptInLittle.CountedClears.{grown-last, grown-joined}
use Rattle.mdb_pool.proofs.kept.marks.add.Goals as goal

pub returns-in_default : goal.returns-in_default
returns-in_default c = rw c.in_ok-push.ensures.items (grown-last c.args.live.now.now c.args.created c.args.marks.now.items c.args.mark)

pub returns : goal.returns
returns c =
    let j = rw c.as_slice.ensures.value at c.in-Some.ensures in
    let was : c.index-old.result.now ≡ j.0 = c.index-old.ensures ∙ get_or_from_slice_get c.args.marks.now.items c.in-Some.at j.0 c.index-old.result.now j.1 in
    let more : c.in-Some-checked_add.count ≡ c.index-old.result.now.count + c.args.mark.count = search rules in
    rw was (grown-joined c.args.live.now.now c.args.created c.args.marks.now.items c.args.mark c.in-Some.at c.in-Some-checked_add.count j (more ∙ ap (λ (m : Mark). m.count + c.args.mark.count) was))
