-- The jobs of pending connections, and the generation of a pool before a connection was created.
use Rattle.std.specs.Prelude.{ℕ, Bool, true, false, ◌==◌, if◌then◌else◌, List, [], ◌∷◌, map, Option, Some, None}
use Rattle.std.specs.List.{list_any}
use Rattle.std.specs.Ordering.{nat_cmp}
use Rattle.std.specs.Cmp.Lexicographic.{slice_cmp}
use Rattle.std.specs.declared.cmp.Ordering.{Ordering}
use Rattle.mdb_base.specs.Equality.{same_id}
use Rattle.mdb_base.specs.declared.object_id.ObjectId.{ObjectId}
use Rattle.mdb_base.specs.declared.address.ServerAddress.{ServerAddress}
use Rattle.mdb_describe.specs.Update.{id_is_below}
use Rattle.mdb_log.specs.declared.generation.PoolGeneration.{PoolGeneration}
use Rattle.mdb_log.specs.declared.generation.PoolGeneration.TheVariants.{Normal, LoadBalanced}
use Rattle.mdb_log.specs.declared.job.Job.{Job}
use Rattle.mdb_log.specs.declared.options.PoolOptions.{PoolOptions}
use Rattle.mdb_log.specs.History.{PoolItem, created, raised}
use Rattle.mdb_log.specs.Connections.{has, pending_list}
use Rattle.mdb_log.specs.State.{generation_of}

-- what the pool knew before the connection was created
abbrev pub items_before : List PoolItem → ℕ → List PoolItem
items_before [] c = []
items_before (created d m ∷ xs) c = if d == c then xs else items_before xs c
items_before (_ ∷ xs) c = items_before xs c

-- the id takes its place among those in order, once
abbrev pub put_id : ObjectId → List ObjectId → List ObjectId
put_id s [] = s ∷ []
put_id s (t ∷ more) = if same_id s t then (t ∷ more) else (if id_is_below s t then (s ∷ t ∷ more) else (t ∷ put_id s more))

-- the services that were cleared, in the order of their ids
abbrev pub cleared_services : List PoolItem → List ObjectId
cleared_services [] = []
cleared_services (raised (Some s) error ∷ xs) = put_id s (cleared_services xs)
cleared_services (_ ∷ xs) = cleared_services xs

-- how often the pool was cleared: as a whole, but under load balancing each service that was
abbrev pub generations : Bool → List PoolItem → PoolGeneration
generations false xs = Normal (generation_of xs None)
generations true xs = LoadBalanced (map (λ s. (s, generation_of xs (Some s))) (cleared_services xs))

-- the job of the connection where it is pending, with the generation before its creation
abbrev pub job_in : ℕ → ServerAddress → PoolOptions → List PoolItem → ℕ → Option Job
job_in p a o xs c =
    if has c (pending_list xs)
    then Some (record { pool = p; id = c; address = a; generation = record { pool = p; generation = generations o.load_balanced (items_before xs c) } })
    else None

-- the order of ids by their bytes
abbrev pub id_order : ObjectId → ObjectId → Ordering
id_order s t = slice_cmp nat_cmp s.0 t.0

-- the id is one of them
abbrev pub has_id : ObjectId → List ObjectId → Bool
has_id s ids = list_any (same_id s) ids
