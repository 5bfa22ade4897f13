-- Lists of servers, and what is done to them.
use Rattle.std.specs.Prelude.{ℕ, List, [], ◌∷◌, map, filter, Bool, true, false, not, ◌&&◌, if◌then◌else◌, Option, Some, None}
use Rattle.std.specs.List.{list_any}
use Rattle.mdb_base.specs.declared.address.ServerAddress.{ServerAddress}
use Rattle.mdb_base.specs.AddressOrder.{is_before, in_order as are_in_order}
use Rattle.mdb_base.specs.Equality.{same_address}
use Rattle.mdb_hello.specs.declared.server_type.ServerType.{ServerType}
use Rattle.mdb_hello.specs.declared.server_type.ServerType.TheVariants.{RsPrimary}
use Rattle.mdb_describe.specs.declared.description.ServerDescription.{ServerDescription}
use Rattle.mdb_describe.specs.Descriptions.{unknown}
use Rattle.mdb_describe.specs.Compatibility.{incompatible}

abbrev pub addresses_of : List ServerDescription → List ServerAddress
addresses_of servers = map (λ s. s.address) servers

-- each address is below the next, so that no two are the same
abbrev pub in_order : List ServerDescription → Bool
in_order servers = are_in_order (addresses_of servers)

-- one of the servers has this address
abbrev pub is_known : ServerAddress → List ServerDescription → Bool
is_known a servers = list_any (λ s. same_address s.address a) servers

-- this is one of the addresses
abbrev pub is_listed : List ServerAddress → ServerAddress → Bool
is_listed listed a = list_any (λ b. same_address b a) listed

abbrev pub is_primary_type : ServerType → Bool
is_primary_type RsPrimary = true
is_primary_type _ = false

-- some server is a primary
abbrev pub has_primary : List ServerDescription → Bool
has_primary servers = list_any (λ s. is_primary_type s.server_type) servers

-- some server is a primary, and not the one with this address
abbrev pub has_other_primary : ServerAddress → List ServerDescription → Bool
has_other_primary a servers = list_any (λ s. is_primary_type s.server_type && not (same_address s.address a)) servers

-- the description takes the place of the first one of its address
abbrev pub store : ServerDescription → List ServerDescription → List ServerDescription
store d [] = []
store d (s ∷ servers) = if same_address s.address d.address then d ∷ servers else s ∷ store d servers

-- the server goes
abbrev pub remove : ServerAddress → List ServerDescription → List ServerDescription
remove a servers = filter (λ s. not (same_address s.address a)) servers

-- nothing more is known of servers that pass the test
abbrev pub forget_where : (ServerDescription → Bool) → List ServerDescription → List ServerDescription
forget_where test servers = map (λ s. if test s then unknown s.address else s) servers

-- nothing more is known of the server
abbrev pub forget : ServerAddress → List ServerDescription → List ServerDescription
forget a servers = forget_where (λ s. same_address s.address a) servers

-- nothing more is known of the primaries but this one
abbrev pub forget_other_primaries : ServerAddress → List ServerDescription → List ServerDescription
forget_other_primaries a servers = forget_where (λ s. is_primary_type s.server_type && not (same_address s.address a)) servers

-- a server at its place in the order of addresses
abbrev pub put : ServerDescription → List ServerDescription → List ServerDescription
put d [] = d ∷ []
put d (s ∷ servers) = if is_before d.address s.address then d ∷ (s ∷ servers) else s ∷ put d servers

-- a server of which nothing is known joins, where its address is new
abbrev pub add : ServerAddress → List ServerDescription → List ServerDescription
add a servers = if is_known a servers then servers else put (unknown a) servers

abbrev pub add_all : List ServerAddress → List ServerDescription → List ServerDescription
add_all [] servers = servers
add_all (a ∷ more) servers = add_all more (add a servers)

-- only the servers with these addresses stay
abbrev pub keep_listed : List ServerAddress → List ServerDescription → List ServerDescription
keep_listed listed servers = filter (λ s. is_listed listed s.address) servers

abbrev pub first_of : Option (List ℕ) → Option (List ℕ) → Option (List ℕ)
first_of (Some text) later = Some text
first_of None later = later

-- why the driver cannot speak to the first server to which it cannot
abbrev pub first_incompatible : List ServerDescription → Option (List ℕ)
first_incompatible [] = None
first_incompatible (s ∷ servers) = first_of (incompatible s) (first_incompatible servers)
