-- The options of a pool that stands alone, as numbers.
use Rattle.std.specs.Prelude.{ℕ, Bool, ◌&&◌, ◌==◌, nat_le, if◌then◌else◌, [], Option, Some, None}
use Rattle.mdb_base.specs.OptionRules.{is_size}
use Rattle.mdb_base.specs.declared.address.ServerAddress.{ServerAddress}
use Rattle.mdb_log.specs.declared.options.PoolOptions.{PoolOptions}
use Rattle.mdb_c.specs.declared.pool_opening.PoolOptionsNumbers.{PoolOptionsNumbers}

-- the maximum and the most that are pending are from 1 to 65,535, the minimum is at most that, and the flag is 0 or 1
abbrev pub are_pool_options : PoolOptionsNumbers → Bool
are_pool_options n = is_size (Some n.max_size) 1 && is_size (Some n.min_size) 0 && is_size (Some n.max_connecting) 1 && nat_le n.load_balanced 1

-- The options that have these numbers, if there are such. Ids and generations may grow as far as their types go.
abbrev pub pool_options_of : PoolOptionsNumbers → Option PoolOptions
pool_options_of n =
    if are_pool_options n
    then Some (record {
      max_pool_size = Some n.max_size;
      min_pool_size = Some n.min_size;
      max_idle_time = Some n.max_idle;
      max_connecting = Some n.max_connecting;
      max_wait = Some n.max_wait;
      load_balanced = n.load_balanced == 1;
      limit_id = 4294967295;
      limit_generation = 18446744073709551615;
    })
    else None

-- The address of a pool whose embedder alone knows where it leads: it has no host.
abbrev pub nameless : ServerAddress
nameless = record { host = []; port = 0 }
