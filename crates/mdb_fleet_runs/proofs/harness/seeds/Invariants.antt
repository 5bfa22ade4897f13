use Rattle.std.proofs.Common.{◌≡◌, map}
use Rattle.std.specs.List.{range_with_len}
use Rattle.mdb_fleets.specs.MemberReplies.{address_of}
use Rattle.mdb_fleet_runs.proofs.harness.seeds.Given as goal

abbrev pub invariant-loop-member : goal.invariant-loop-member
invariant-loop-member l = l.seeds.items ≡ map address_of (range_with_len 0 l.member)
