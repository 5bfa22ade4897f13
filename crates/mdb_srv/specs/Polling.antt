-- Which topologies are polled for SRV records, how often, and which of the found hosts are taken.
use Rattle.std.specs.Prelude.{ℕ, ◌==◌, nat_le, List, [], ◌∷◌, ◌++◌, length, take, filter, codes, Bool, true, false, not, ◌||◌, if◌then◌else◌}
use Rattle.std.specs.List.{list_any}
use Rattle.mdb_base.specs.declared.address.ServerAddress.{ServerAddress}
use Rattle.mdb_base.specs.Equality.{same_address}
use Rattle.mdb_srv.specs.declared.topology_type.TopologyType.{TopologyType}
use Rattle.mdb_srv.specs.declared.topology_type.TopologyType.TheVariants.{Unknown, Single, Sharded, ReplicaSetNoPrimary, ReplicaSetWithPrimary, LoadBalanced}

-- a kind of topology by its name
abbrev pub topology_name : TopologyType → List ℕ
topology_name Unknown = codes "Unknown"
topology_name Single = codes "Single"
topology_name Sharded = codes "Sharded"
topology_name ReplicaSetNoPrimary = codes "ReplicaSetNoPrimary"
topology_name ReplicaSetWithPrimary = codes "ReplicaSetWithPrimary"
topology_name LoadBalanced = codes "LoadBalanced"

-- only sharded clusters, and what may turn out to be one, are polled
abbrev pub is_polled : TopologyType → Bool
is_polled Unknown = true
is_polled Single = false
is_polled Sharded = true
is_polled ReplicaSetNoPrimary = false
is_polled ReplicaSetWithPrimary = false
is_polled LoadBalanced = false

-- the next interval in seconds after a lookup that found these hosts
abbrev pub interval_after : List ServerAddress → ℕ → ℕ → ℕ
interval_after [] min_ttl heartbeat = heartbeat
interval_after (host ∷ more) min_ttl heartbeat = min_ttl

-- whether a host is one of the known ones
abbrev pub is_known : List ServerAddress → ServerAddress → Bool
is_known known host = list_any (λ other. same_address other host) known

-- the found hosts that are known, then the others, each in the order in which they were found
abbrev pub known_first : List ServerAddress → List ServerAddress → List ServerAddress
known_first known found = filter (is_known known) found ++ filter (λ host. not (is_known known host)) found

-- which of the found hosts are taken, where at most max are wanted and 0 stands for no limit
abbrev pub selected_hosts : List ServerAddress → List ServerAddress → ℕ → List ServerAddress
selected_hosts known found max =
    if (max == 0) || nat_le (length found) max then found
    else take max (known_first known found)
