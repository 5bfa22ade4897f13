use Rattle.std.proofs.Common.{arith, sym, ◌∙◌, ap, refl, ◌++◌, ◌∷◌, []}
use Rattle.std.proofs.lemmas.List.FromFn.{map-range_with_len_more}
use Rattle.mdb_fleets.specs.MemberReplies.{address_text}
use Rattle.mdb_fleets.proofs.replies.address_texts.Goals as goal

pub loop-member-preserved : goal.loop-member-preserved
loop-member-preserved c =
    let more = map-range_with_len_more address_text 0 c.loop-member.member c.loop-member.member (omega arith) in
    c.in_ok-push.ensures.items ∙ rw (c.loop-member.invariant, c.in_ok-address_text.ensures) (sym more)
