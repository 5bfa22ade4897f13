-- What an opening gives each pool: its options, and the event of its making.
use Rattle.std.specs.Prelude.{Bool, true, false, Some, unwrap_or}
use Rattle.mdb_base.specs.declared.address.ServerAddress.{ServerAddress}
use Rattle.mdb_base.specs.declared.options.Options.{Options}
use Rattle.mdb_events.specs.declared.cmap.CmapEvent.{CmapEvent}
use Rattle.mdb_events.specs.declared.cmap.CmapEvent.TheVariants.{PoolCreated}
use Rattle.mdb_log.specs.declared.options.PoolOptions.{PoolOptions}
use Rattle.mdb_log.specs.declared.step.Act.{Act}
use Rattle.mdb_log.specs.declared.step.Act.TheVariants.{Open}

abbrev pub is_opening : Act → Bool
is_opening (Open o) = true
is_opening _ = false

-- the options of each pool that the options open
abbrev pub pool_options : Options → PoolOptions
pool_options o = record {
  max_pool_size = o.max_pool_size;
  min_pool_size = o.min_pool_size;
  max_idle_time = o.max_idle_time;
  max_wait = o.max_wait;
  max_connecting = o.max_connecting;
  load_balanced = o.load_balanced;
  limit_id = unwrap_or o.limit_id 4294967295;
  limit_generation = unwrap_or o.limit_generation 18446744073709551615;
}

-- a pool was created
abbrev pub created : PoolOptions → ServerAddress → CmapEvent
created o a = PoolCreated (record { address = a; options = Some (record { max_idle_time = o.max_idle_time; max_pool_size = o.max_pool_size; min_pool_size = o.min_pool_size }) })
