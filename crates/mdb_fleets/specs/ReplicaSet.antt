-- A replica set: its members by number, how many elections were held, and the replies on the wire, in the order in which they were asked for.
use Rattle.std.specs.Prelude.{ℕ, ◌+◌, List, [], ◌∷◌, ◌++◌, replicate, slice_index_or, slice_set, if◌then◌else◌, length, All}
use Rattle.mdb_hello.specs.declared.response.HelloCommandResponse.{HelloCommandResponse}
use Rattle.mdb_fleets.specs.declared.member.Member.{Member}
use Rattle.mdb_fleets.specs.declared.member.Sent.{Sent}
use Rattle.mdb_fleets.specs.Members.{new_member, is_primary, greatest_version, winner, stepped_down, reconfigured, CanChange}
use Rattle.mdb_fleets.specs.MemberReplies.{reply_of}

pub record ReplicaSet : Type 0 where
  pub members : List Member
  pub elections : ℕ
  pub wire : List Sent

-- n members at the start: no election was held, and nothing is on the wire
abbrev pub new_set : ℕ → ReplicaSet
new_set n = record { members = replicate n new_member; elections = 0; wire = [] }

-- the member with the number, and one at the start where there is none
abbrev pub member_at : ReplicaSet → ℕ → Member
member_at s k = slice_index_or s.members k new_member

abbrev pub with_member : ReplicaSet → ℕ → Member → ReplicaSet
with_member s k m = record s { members = slice_set s.members k m }

-- The next election is the member's: it has the greatest set version of all, and the others stay as they are.
abbrev pub elected : ReplicaSet → ℕ → ReplicaSet
elected s k = record (with_member s k (winner (s.elections + 1) (greatest_version s.members) (member_at s k))) { elections = s.elections + 1 }

-- A change of a member that believes that it is the primary; others stay as they are.
abbrev pub changed_primary : (Member → Member) → ReplicaSet → ℕ → ReplicaSet
changed_primary change s k = if is_primary (member_at s k) then with_member s k (change (member_at s k)) else s

abbrev pub demoted : ReplicaSet → ℕ → ReplicaSet
demoted s k = changed_primary stepped_down s k

abbrev pub reconfigured_at : ReplicaSet → ℕ → ReplicaSet
reconfigured_at s k = changed_primary reconfigured s k

-- what the member answers to a hello now
abbrev pub reply_now : ReplicaSet → ℕ → HelloCommandResponse
reply_now s k = reply_of (length s.members) k (member_at s k)

-- The member's reply is put on the wire.
abbrev pub asked : ReplicaSet → ℕ → ReplicaSet
asked s k = record s { wire = s.wire ++ record { member = k; said = member_at s k; response = reply_now s k } ∷ [] }

-- one more change of any member can be counted
abbrev pub HasRoom : ReplicaSet → Type 0
HasRoom s = All CanChange s.members
