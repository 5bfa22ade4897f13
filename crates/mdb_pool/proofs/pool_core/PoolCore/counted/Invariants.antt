use Rattle.std.proofs.Common.{◌≡◌, Some, map, take}
use Rattle.mdb_pool.specs.Kept.Values.{count_at}
use Rattle.mdb_pool.proofs.pool_core.PoolCore.counted.Given as goal

abbrev pub invariant-loop-service : goal.invariant-loop-service
invariant-loop-service l = l.counted.items ≡ map (λ t. (t, count_at l.self l.id (Some t))) (take l.service-index l.services)
