-- The order of addresses.
use Rattle.std.specs.Prelude.{nat_lt, nat_eq, List, [], ◌∷◌, Bool, true, ◌&&◌, ◌||◌}
use Rattle.std.specs.Ordering.{is_lt, nat_cmp}
use Rattle.std.specs.Cmp.Lexicographic.{pointwise, slice_cmp}
use Rattle.mdb_base.specs.declared.address.ServerAddress.{ServerAddress}

-- by the bytes of the hosts, and at one host by the ports
abbrev pub is_before : ServerAddress → ServerAddress → Bool
is_before a b = is_lt (slice_cmp nat_cmp a.host b.host) || (pointwise nat_eq a.host b.host && nat_lt a.port b.port)

abbrev pub is_before_first : ServerAddress → List ServerAddress → Bool
is_before_first a [] = true
is_before_first a (b ∷ more) = is_before a b

-- each address is below the next, so that no two are the same
abbrev pub in_order : List ServerAddress → Bool
in_order [] = true
in_order (a ∷ more) = is_before_first a more && in_order more
