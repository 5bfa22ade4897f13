-- The members of a replica set, and what each change makes of one.
use Rattle.std.specs.Prelude.{ℕ, ◌+◌, ◌-◌, ◌^◌, ◌<◌, ◌≤◌, List, [], max, length, Bool, Option, Some, None, is_some, All}
use Rattle.std.specs.List.{fold, sum_by}
use Rattle.mdb_fleets.specs.declared.member.Member.{Member}

-- a member at the start: a secondary of the first configuration
abbrev pub new_member : Member
new_member = record { set_version = 1; election = None; counter = 0 }

-- it believes that it is the primary
abbrev pub is_primary : Member → Bool
is_primary m = is_some m.election

-- the greatest set version of some members, 0 where there are none
abbrev pub greatest_version : List Member → ℕ
greatest_version members = fold (λ v m. max v m.set_version) 0 members

-- It won the election, and has the set version.
abbrev pub winner : ℕ → ℕ → Member → Member
winner election version m = record { set_version = version; election = Some election; counter = m.counter + 1 }

-- It is a secondary now.
abbrev pub stepped_down : Member → Member
stepped_down m = record m { election = None; counter = m.counter + 1 }

-- Its set version rose by one.
abbrev pub reconfigured : Member → Member
reconfigured m = record m { set_version = m.set_version + 1; counter = m.counter + 1 }

-- one more change can be counted: counters and set versions are below 2^31 - 1
abbrev pub CanChange : Member → Type 0
CanChange m = (m.counter < 2 ^ 31 - 1) × (m.set_version < 2 ^ 31 - 1)

-- Members are 1 to 50, their numbers are below 2^31, and there were no more elections than changes.
pub record AreSound (members : List Member) (elections : ℕ) : Type 0 where
  pub some : 1 ≤ length members
  pub few : length members ≤ 50
  pub small : All (λ m. (m.counter < 2 ^ 31) × (m.set_version < 2 ^ 31)) members
  pub counted : elections ≤ sum_by (λ m. m.counter) members
