-- The optional parts of a first line, in groups as they are read.
use Rattle.mdb_base.specs.declared.options.Options.{Options}
use Rattle.mdb_lines.specs.declared.open_line.SetKind.{SetKind}
use Rattle.mdb_lines.specs.declared.open_line.PoolSizes.{PoolSizes}
use Rattle.mdb_lines.specs.declared.open_line.CheckOptions.{CheckOptions}
use Rattle.mdb_lines.specs.declared.open_line.LimitOptions.{LimitOptions}

abbrev pub kind_of_set : Options → SetKind
kind_of_set o = record { name = o.set_name; direct = o.direct; load_balanced = o.load_balanced }

abbrev pub sizes_of : Options → PoolSizes
sizes_of o = record { max = o.max_pool_size; min = o.min_pool_size; connecting = o.max_connecting; idle = o.max_idle_time; wait = o.max_wait }

abbrev pub checks_of : Options → CheckOptions
checks_of o = record { heartbeat = o.heartbeat; connect = o.connect; streaming = o.streaming }

abbrev pub limits_of : Options → LimitOptions
limits_of o = record { id = o.limit_id; generation = o.limit_generation; pool = o.limit_pool; monitor = o.limit_monitor }
