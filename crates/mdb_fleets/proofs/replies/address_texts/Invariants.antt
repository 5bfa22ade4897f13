use Rattle.std.proofs.Common.{◌≡◌, map}
use Rattle.std.specs.List.{range_with_len}
use Rattle.mdb_fleets.specs.MemberReplies.{address_text}
use Rattle.mdb_fleets.proofs.replies.address_texts.Given as goal

abbrev pub invariant-loop-member : goal.invariant-loop-member
invariant-loop-member l = l.texts.items ≡ map address_text (range_with_len 0 l.member)
