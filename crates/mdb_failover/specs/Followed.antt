-- What a description says of a replica set of n members, some of whose replies it has taken.
use Rattle.std.specs.Prelude.{◌≡◌, ℕ, ◌-◌, ◌≤◌, ◌<◌, ◌^◌, true, pos, List, [], ◌∷◌, ◌++◌, codes, filter, length, slice_get, Option, Some, None, option_map, IfSome}
use Rattle.std.specs.List.{list_all}
use Rattle.mdb_describe.specs.declared.description.ServerDescription.{ServerDescription}
use Rattle.mdb_describe.specs.declared.topology.TopologyDescription.{TopologyDescription}
use Rattle.mdb_base.specs.declared.topology_version.TopologyVersion.{TopologyVersion}
use Rattle.mdb_describe.specs.Fields.{election_id, set_version, topology_version}
use Rattle.mdb_describe.specs.Servers.{addresses_of, in_order, is_listed, is_primary_type}
use Rattle.mdb_describe.specs.Update.{kind_by_primary}
use Rattle.mdb_fleets.specs.declared.member.Member.{Member}
use Rattle.mdb_fleets.specs.MemberReplies.{address_of, addresses_of as members_of, process_of, election_id as id_of}
use Rattle.mdb_failover.specs.Elections.{Pair, top}

-- The member won the election; elections are counted from 1, and these are their winners in order.
pub record Won (winners : List ℕ) (election member : ℕ) : Type 0 where
  pub counted : 1 ≤ election
  pub small : election < 2 ^ 64
  pub winner : slice_get winners (election - 1) ≡ Some member

-- the election that the member names, where it names one, it won
abbrev pub IsHonest : List ℕ → ℕ → Member → Type 0
IsHonest winners k m = IfSome m.election (λ e. Won winners e k)

-- the pair of a member's reply, where it names an election
abbrev pub pair_of : Member → Option ℕ → List Pair
pair_of m None = []
pair_of m (Some e) = record { election = e; version = m.set_version } ∷ []

abbrev pub with_pair : List Pair → Member → List Pair
with_pair pairs m = pairs ++ pair_of m m.election

-- The server is described by a reply with this pair, and is the member that won the election.
pub record Leads (winners : List ℕ) (t : Pair) (s : ServerDescription) : Type 0 where
  pub member : ℕ
  pub address : s.address ≡ address_of member
  pub won : Won winners t.election member
  pub election : election_id s ≡ Some (id_of t.election)
  pub version : set_version s ≡ Some (pos t.version)

-- There is a greatest pair, and the server leads by it.
abbrev pub LeadsBy : List ℕ → Option Pair → ServerDescription → Type 0
LeadsBy winners None s = ⊥
LeadsBy winners (Some t) s = Leads winners t s

-- A primary leads by the greatest pair.
abbrev pub LeadsIfPrimary : List ℕ → Option Pair → ServerDescription → Type 0
LeadsIfPrimary winners t s = is_primary_type s.server_type ≡ true → LeadsBy winners t s

-- The topology version of a member's server is of the member's own process.
abbrev pub OwnProcess : ServerDescription → Type 0
OwnProcess s = (k : ℕ) (v : TopologyVersion) → k < 2 ^ 64 → s.address ≡ address_of k → topology_version s ≡ Some v → v.process_id ≡ process_of k

-- each of some servers keeps the rule
abbrev pub Each : (ServerDescription → Type 0) → List ServerDescription → Type 0
Each P [] = Unit {0}
Each P (s ∷ servers) = P s × Each P servers

-- The description follows the replies that it took, whose pairs these are: it describes exactly the members, its type says whether one of them is a primary, each primary leads by the greatest pair, and the maxima are its parts.
pub record Follows (n : ℕ) (winners : List ℕ) (pairs : List Pair) (d : TopologyDescription) : Type 0 where
  pub kind : d.topology_type ≡ kind_by_primary d.servers
  pub named : d.set_name ≡ Some (codes "rs")
  pub ordered : in_order d.servers ≡ true
  pub known : list_all (is_listed (addresses_of d.servers)) (members_of n) ≡ true
  pub only : list_all (is_listed (members_of n)) (addresses_of d.servers) ≡ true
  pub election : d.max_election_id ≡ option_map (λ t. id_of t.election) (top pairs)
  pub version : d.max_set_version ≡ option_map (λ t. pos t.version) (top pairs)
  pub small : IfSome (top pairs) (λ t. t.election < 2 ^ 64)
  pub processes : Each OwnProcess d.servers
  pub leads : Each (LeadsIfPrimary winners (top pairs)) d.servers

-- at most one of the servers is a primary
abbrev pub AtMostOnePrimary : List ServerDescription → Type 0
AtMostOnePrimary servers = length (filter (λ s. is_primary_type s.server_type) servers) ≤ 1
