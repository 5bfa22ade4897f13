-- What SRV records say.
use Rattle.std.specs.Prelude.{ℕ, ◌-◌, ◌^◌, min, nat_eq, List, [], ◌∷◌, ◌++◌, length, take, map, codes, if◌then◌else◌, Option, unwrap_or}
use Rattle.std.specs.List.{ends_with, fold}
use Rattle.mdb_base.specs.declared.address.ServerAddress.{ServerAddress}
use Rattle.mdb_srv.specs.declared.resolver.SrvRecord.{SrvRecord}

-- the name under which the SRV records of a host stand
abbrev pub srv_query : Option (List ℕ) → List ℕ → List ℕ
srv_query service host = codes "_" ++ (unwrap_or service (codes "mongodb") ++ (codes "._tcp." ++ host))

-- a target without one dot at its end
abbrev pub without_dot : List ℕ → List ℕ
without_dot target = if ends_with nat_eq target (46 ∷ []) then take (length target - 1) target else target

-- the host that a record names
abbrev pub host_of : SrvRecord → ServerAddress
host_of found = record { host = without_dot found.target; port = found.port }

-- the hosts that the records name, in their order
abbrev pub hosts_of : List SrvRecord → List ServerAddress
hosts_of records = map host_of records

-- the least time to live, and 4294967295 where there is no record
abbrev pub least_ttl : List SrvRecord → ℕ
least_ttl records = fold (λ least found. min least found.ttl) (2 ^ 32 - 1) records
