-- Worked examples of jobs, computed.
use Rattle.std.specs.Prelude.{◌≡◌, true, false, List, [], ◌∷◌, Option, Some, None, refl, pos}
use Rattle.mdb_base.specs.declared.address.ServerAddress.{ServerAddress}
use Rattle.mdb_base.specs.declared.object_id.ObjectId.{ObjectId}
use Rattle.mdb_base.specs.declared.error.Error.{Error}
use Rattle.mdb_base.specs.declared.error.ErrorKind.TheVariants.{Network}
use Rattle.mdb_log.specs.declared.generation.PoolGeneration.{PoolGeneration}
use Rattle.mdb_log.specs.declared.generation.PoolGeneration.TheVariants.{Normal, LoadBalanced}
use Rattle.mdb_log.specs.declared.job.Job.{Job}
use Rattle.mdb_log.specs.declared.options.PoolOptions.{PoolOptions}
use Rattle.mdb_log.specs.declared.step.Established.{Established as How}
use Rattle.mdb_log.specs.History.{PoolItem, asked, created, established, granted, raised, pool_created, pool_ready}
use Rattle.mdb_pool_rules.specs.Jobs.{job_in}

abbrev normal : PoolOptions
normal = record { max_pool_size = None; min_pool_size = None; max_idle_time = None; max_wait = None; max_connecting = None; load_balanced = false; limit_id = 1000; limit_generation = 1000 }

abbrev balanced : PoolOptions
balanced = record { max_pool_size = None; min_pool_size = None; max_idle_time = None; max_wait = None; max_connecting = None; load_balanced = true; limit_id = 1000; limit_generation = 1000 }

abbrev address : ServerAddress
address = record { host = 97 ∷ []; port = 1 }

abbrev lost : Error
lost = record { kind = Network; labels = []; topology_version = None; message = 120 ∷ [] }

abbrev plain : How
plain = record { wire = pos 21; service_id = None; server_id = None }

abbrev told : PoolGeneration → Option Job
told generation = Some (record { pool = 4; id = 1; address = address; generation = record { pool = 4; generation = generation } })

-- a normal pool is cleared, marked ready, asked for a connection, and cleared again
abbrev cleared_twice : List PoolItem
cleared_twice = raised None lost ∷ granted 7 1 ∷ created 1 6 ∷ asked 7 6 ∷ pool_ready ∷ raised None lost ∷ pool_ready ∷ pool_created ∷ []

counts-before : job_in 4 address normal cleared_twice 1 ≡ told (Normal 1)
counts-before = refl

-- nobody is told a job of a connection that is established, or was never created
no-longer : job_in 4 address normal (established 1 plain 9 ∷ cleared_twice) 1 ≡ None
no-longer = refl

never : job_in 4 address normal cleared_twice 2 ≡ None
never = refl

abbrev low : ObjectId
low = record { 0 = 1 ∷ 2 ∷ [] }

abbrev high : ObjectId
high = record { 0 = 2 ∷ 1 ∷ [] }

-- under load balancing the service with the greater id is cleared, then twice the other; and again the first, once the connection is created
abbrev services_cleared : List PoolItem
services_cleared = raised (Some high) lost ∷ granted 7 1 ∷ created 1 6 ∷ asked 7 6 ∷ raised (Some low) lost ∷ raised (Some low) lost ∷ raised (Some high) lost ∷ pool_created ∷ []

in-order : job_in 4 address balanced services_cleared 1 ≡ told (LoadBalanced ((low, 2) ∷ (high, 1) ∷ []))
in-order = refl

-- no service was cleared before
none-yet : job_in 4 address balanced (raised (Some low) lost ∷ created 1 6 ∷ asked 7 6 ∷ pool_created ∷ []) 1 ≡ told (LoadBalanced [])
none-yet = refl
