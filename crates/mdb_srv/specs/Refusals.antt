-- The texts of refusals.
use Rattle.std.specs.Prelude.{ℕ, List, ◌++◌, codes}

-- no host is left
abbrev pub no_records : List ℕ → List ℕ
no_records original = codes "SRV lookup for " ++ (original ++ codes " returned no records")

-- a host that was found is not in the domain of the host that was asked for
abbrev pub mismatch : List ℕ → List ℕ → List ℕ → List ℕ
mismatch original found domain =
    codes "SRV lookup for " ++ (original ++ (codes " returned result " ++ (found ++ (codes ", which does not match domain name " ++ domain))))

-- there is more than one TXT record
abbrev pub too_many : List ℕ → List ℕ
too_many original =
    codes "TXT lookup for " ++ (original ++ codes " returned more than one record, but more than one are not allowed with 'mongodb+srv'")

-- a part of a TXT record is no option
abbrev pub not_a_pair : List ℕ → List ℕ
not_a_pair part = codes "TXT record string '" ++ (part ++ codes "' is not a value `key=value` option pair")

-- the value of `loadbalanced` is no flag
abbrev pub not_a_flag : List ℕ → List ℕ
not_a_flag value =
    codes "TXT record option 'loadbalanced=" ++ (value ++ codes "' was returned, only 'true' and 'false' are allowed values.")

-- a key that no option has
abbrev pub unknown_key : List ℕ → List ℕ
unknown_key key =
    codes "TXT record option '" ++ (key ++ codes "' was returned, but only 'authSource', 'replicaSet', and 'loadBalanced' are allowed")
