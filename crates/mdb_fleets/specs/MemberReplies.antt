-- What a member of a replica set says of itself.
use Rattle.std.specs.Prelude.{ℕ, ◌+◌, List, [], ◌∷◌, ◌++◌, map, codes, decimal, replicate, not, true, Some, None, option_map, pos}
use Rattle.std.specs.Int.{w64, to_be_bytes}
use Rattle.std.specs.List.{range_with_len}
use Rattle.mdb_base.specs.declared.address.ServerAddress.{ServerAddress}
use Rattle.mdb_base.specs.declared.object_id.ObjectId.{ObjectId}
use Rattle.mdb_hello.specs.declared.response.HelloCommandResponse.{HelloCommandResponse}
use Rattle.mdb_hello.specs.Reply.{no_reply}
use Rattle.mdb_fleets.specs.declared.member.Member.{Member}
use Rattle.mdb_fleets.specs.Members.{is_primary}

-- the host of the member with the number, and its address
abbrev pub host_of : ℕ → List ℕ
host_of k = codes "m" ++ decimal k

abbrev pub address_of : ℕ → ServerAddress
address_of k = record { host = host_of k; port = 27017 }

-- the address as it is written
abbrev pub address_text : ℕ → List ℕ
address_text k = host_of k ++ codes ":27017"

-- the addresses of n members by number
abbrev pub addresses_of : ℕ → List ServerAddress
addresses_of n = map address_of (range_with_len 0 n)

abbrev pub address_texts : ℕ → List (List ℕ)
address_texts n = map address_text (range_with_len 0 n)

-- the process of a member: eleven zero bytes, and its number counted from 1
abbrev pub process_of : ℕ → ObjectId
process_of k = record { 0 = replicate 11 0 ++ (k + 1) ∷ [] }

-- the id of an election: four zero bytes, and its number as eight bytes, the highest first
abbrev pub election_id : ℕ → ObjectId
election_id e = record { 0 = replicate 4 0 ++ to_be_bytes w64 e }

-- The reply of member k of n: all members are its hosts; wire versions 0 to 21; it is the primary or a secondary, and names its election where it is the primary.
abbrev pub reply_of : ℕ → ℕ → Member → HelloCommandResponse
reply_of n k m = record no_reply {
  is_writable_primary = Some (is_primary m);
  hello_ok = Some true;
  hosts = Some (address_texts n);
  me = Some (address_text k);
  set_version = Some (pos m.set_version);
  set_name = Some (codes "rs");
  secondary = Some (not (is_primary m));
  min_wire_version = Some (pos 0);
  max_wire_version = Some (pos 21);
  election_id = option_map election_id m.election;
  topology_version = Some (record { process_id = process_of k; counter = pos m.counter });
}
