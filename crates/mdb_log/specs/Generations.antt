-- Which connections are stale, by the generations that they carry.
use Rattle.std.specs.Prelude.{ℕ, Bool, true, false, not, if◌then◌else◌, ◌==◌, List, [], ◌∷◌, Option, Some, None}
use Rattle.mdb_base.specs.Equality.{same_id}
use Rattle.mdb_base.specs.declared.object_id.ObjectId.{ObjectId}
use Rattle.mdb_log.specs.declared.generation.PoolGeneration.{PoolGeneration}
use Rattle.mdb_log.specs.declared.generation.PoolGeneration.TheVariants.{Normal as NormalPool, LoadBalanced as LoadBalancedPool}
use Rattle.mdb_log.specs.declared.generation.ConnectionGeneration.{ConnectionGeneration}
use Rattle.mdb_log.specs.declared.generation.ConnectionGeneration.TheVariants.{Normal, LoadBalanced}

-- the generation of the service: 0 where it isn't listed
abbrev pub generation_in : ObjectId → List (ObjectId × ℕ) → ℕ
generation_in t [] = 0
generation_in t (g ∷ gs) = if same_id g.0 t then g.1 else generation_in t gs

-- the generation differs from the current one; never so without a service, nor where the modes differ
abbrev pub is_behind : ConnectionGeneration → PoolGeneration → Bool
is_behind (Normal n) (NormalPool m) = not (n == m)
is_behind (Normal n) (LoadBalancedPool gs) = false
is_behind (LoadBalanced None) (NormalPool m) = false
is_behind (LoadBalanced (Some g)) (NormalPool m) = false
is_behind (LoadBalanced None) (LoadBalancedPool gs) = false
is_behind (LoadBalanced (Some g)) (LoadBalancedPool gs) = not (g.generation == generation_in g.service_id gs)

-- The generation that a connection carries, by how often its pool or a service of it was cleared before its creation: that of the pool as a whole, or that of the service that the server named.
abbrev pub carried : Bool → (Option ObjectId → ℕ) → Option ObjectId → ConnectionGeneration
carried false before service = Normal (before None)
carried true before None = LoadBalanced None
carried true before (Some t) = LoadBalanced (Some (record { generation = before (Some t); service_id = t }))

abbrev pub service_named : ConnectionGeneration → Option ObjectId
service_named (Normal n) = None
service_named (LoadBalanced None) = None
service_named (LoadBalanced (Some g)) = Some g.service_id
