use Rattle.std.proofs.Common.{arith, sym, ◌∙◌}
use Rattle.std.proofs.lemmas.List.FromFn.{map-range_with_len_more}
use Rattle.mdb_fleets.specs.MemberReplies.{address_of}
use Rattle.mdb_fleet_runs.proofs.harness.seeds.Goals as goal

pub loop-member-preserved : goal.loop-member-preserved
loop-member-preserved c =
    let more = map-range_with_len_more address_of 0 c.loop-member.member c.loop-member.member (omega arith) in
    c.in_ok-push.ensures.items ∙ rw (c.loop-member.invariant, c.in_ok-member_address.ensures) (sym more)
