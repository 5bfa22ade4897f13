-- What hosts that are named would run out of: told of the hosts alone, and of what is known before them.
use Rattle.std.specs.Prelude.{ℕ, zero, suc, ◌+◌, nat_lt, Bool, false, not, ◌&&◌, List, [], ◌∷◌}
use Rattle.mdb_base.specs.declared.address.ServerAddress.{ServerAddress}
use Rattle.mdb_base.specs.declared.options.Options.{Options}
use Rattle.mdb_describe.specs.declared.description.ServerDescription.{ServerDescription}
use Rattle.mdb_describe.specs.Servers.{is_known, is_listed}
use Rattle.mdb_log.specs.Connections.{one_if}
use Rattle.mdb_driver_rules.specs.Limits.{pool_limit}

-- how many of the hosts none of the servers has, each host once, where it is named for the last time
abbrev pub new_hosts : List ServerDescription → List ServerAddress → ℕ
new_hosts servers [] = 0
new_hosts servers (a ∷ more) = one_if (not (is_known a servers) && not (is_listed more a)) + new_hosts servers more

-- so many pools come after n others, and the last of them has a number past the limit
abbrev pub is_past : Options → ℕ → ℕ → Bool
is_past o n zero = false
is_past o n (suc k) = nat_lt (pool_limit o) (n + k)
