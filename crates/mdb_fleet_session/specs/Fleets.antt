-- A made-up replica set as numbers, which a program in C keeps.
use Rattle.std.specs.Prelude.{◌≡◌, ◌≢◌, ◌≤◌, ◌-◌, ◌^◌, ◌==◌, ◌&&◌, ℕ, List, [], map, length, if◌then◌else◌, Bool, false, Option, Some, None, nat_le, nat_lt}
use Rattle.std.specs.List.{list_all}
use Rattle.mdb_fleets.specs.declared.member.Member.{Member}
use Rattle.mdb_fleets.specs.ReplicaSet.{ReplicaSet}
use Rattle.mdb_fleet_session.specs.declared.member_numbers.MemberNumbers.{MemberNumbers}

-- what a member holds for true, as its numbers say
abbrev pub member_of : MemberNumbers → Member
member_of m = record { set_version = m.set_version; election = if m.primary == 0 then None else Some m.election; counter = m.counter }

-- The set of these members, of which so many elections were held. Nothing is on its wire: whoever asked for a reply has it.
abbrev pub set_of : List MemberNumbers → ℕ → ReplicaSet
set_of members elections = record { members = map member_of members; elections = elections; wire = [] }

-- Both numbers of the member are below 2^31 - 1, so it can change once more.
abbrev pub can_change : MemberNumbers → Bool
can_change m = nat_lt m.counter (2 ^ 31 - 1) && nat_lt m.set_version (2 ^ 31 - 1)

-- They are 1 to 50 members, each of which can change once more.
abbrev pub are_members : List MemberNumbers → Bool
are_members members = nat_le 1 (length members) && nat_le (length members) 50 && list_all can_change members

-- Why there is no text of a reply: memory ran out (1), these are no members (2), or none of them has the number (6).
pub record Unanswered (members : List MemberNumbers) (member why : ℕ) : Type 0 where
  pub malformed : why ≡ 2 → are_members members ≡ false
  pub none : why ≡ 6 → length members ≤ member
  pub answers : why ≢ 1 → why ≢ 6 → why ≡ 2
