-- What differs between two lists of servers.
use Rattle.std.specs.Prelude.{◌≡◌, List, [], ◌∷◌, map, filter, Bool, true, false, not, ◌&&◌, if◌then◌else◌, Option, Some, None}
use Rattle.std.specs.List.{list_all}
use Rattle.mdb_base.specs.declared.address.ServerAddress.{ServerAddress}
use Rattle.mdb_base.specs.AddressOrder.{in_order}
use Rattle.mdb_describe.specs.declared.description.ServerDescription.{ServerDescription}
use Rattle.mdb_describe.specs.declared.diff.Diff.{Diff}
use Rattle.mdb_describe.specs.Same.{same}
use Rattle.mdb_describe.specs.Servers.{is_known}
use Rattle.mdb_describe.specs.Topology.{server_at}

abbrev pub is_other : Option ServerDescription → ServerDescription → Bool
is_other (Some old) s = not (same old s)
is_other None s = false

-- the server was there, with a description that is not the same
abbrev pub differs_from : List ServerDescription → ServerDescription → Bool
differs_from earlier s = is_other (server_at s.address earlier) s

-- the addresses of the servers that were there and differ
abbrev pub changed : List ServerDescription → List ServerDescription → List ServerAddress
changed earlier later = map (λ s. s.address) (filter (differs_from earlier) later)

-- the addresses of the servers that are not among the others
abbrev pub missing : List ServerDescription → List ServerDescription → List ServerAddress
missing servers others = map (λ s. s.address) (filter (λ s. not (is_known s.address others)) servers)

abbrev pub is_empty : List ServerAddress → Bool
is_empty [] = true
is_empty (a ∷ more) = false

abbrev pub unless_empty : Diff → Option Diff
unless_empty d = if is_empty d.changed && (is_empty d.removed && is_empty d.added) then None else Some d

-- each list in the order of addresses
pub record AreInOrder (d : Diff) : Type 0 where
  pub changed : in_order d.changed ≡ true
  pub removed : in_order d.removed ≡ true
  pub added : in_order d.added ≡ true

-- each address is that of a server of both lists
abbrev pub are_in_both : List ServerDescription → List ServerDescription → List ServerAddress → Bool
are_in_both earlier later addresses = list_all (λ a. is_known a earlier && is_known a later) addresses

-- the changed, the removed and the added servers, and nothing where there is none of them
abbrev pub difference : List ServerDescription → List ServerDescription → Option Diff
difference earlier later = unless_empty (record { changed = changed earlier later; removed = missing earlier later; added = missing later earlier })
