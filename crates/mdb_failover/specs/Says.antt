-- What the description of a member's reply says.
use Rattle.std.specs.Prelude.{◌≡◌, ℕ, true, false, pos, codes, Some, option_map, if◌then◌else◌}
use Rattle.mdb_hello.specs.declared.server_type.ServerType.{ServerType}
use Rattle.mdb_hello.specs.declared.server_type.ServerType.TheVariants.{RsPrimary, RsSecondary}
use Rattle.mdb_describe.specs.declared.description.ServerDescription.{ServerDescription}
use Rattle.mdb_describe.specs.Fields.{election_id, set_name, set_version, topology_version, invalid_me}
use Rattle.mdb_describe.specs.Update.{listed, is_modern}
use Rattle.mdb_fleets.specs.declared.member.Member.{Member}
use Rattle.mdb_fleets.specs.Members.{is_primary}
use Rattle.mdb_fleets.specs.MemberReplies.{address_of, addresses_of, process_of, election_id as id_of}

abbrev pub type_of : Member → ServerType
type_of m = if is_primary m then RsPrimary else RsSecondary

-- The server is member k of n, and said what the member held for true.
pub record Says (n k : ℕ) (m : Member) (s : ServerDescription) : Type 0 where
  pub address : s.address ≡ address_of k
  pub kind : s.server_type ≡ type_of m
  pub listed : listed s ≡ addresses_of n
  pub own : invalid_me s ≡ false
  pub named : set_name s ≡ Some (codes "rs")
  pub modern : is_modern s ≡ true
  pub election : election_id s ≡ option_map id_of m.election
  pub version : set_version s ≡ Some (pos m.set_version)
  pub topology : topology_version s ≡ Some (record { process_id = process_of k; counter = pos m.counter })
