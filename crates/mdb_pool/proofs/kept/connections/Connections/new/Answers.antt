use Rattle.mdb_pool.proofs.KeptInLittle.ClaimedUpTo.{none-fit}
use Rattle.mdb_pool.proofs.KeptInLittle.CountedClears.{none-counts}
use Rattle.mdb_pool.proofs.kept.connections.Connections.new.Goals as goal

pub invariant_of-result : goal.invariant_of-result
invariant_of-result c =
    let k = c.none-2.ensures.now in
    let z = none-counts c.none-2.result.now k.0 k.1 k.2 k.3 in
    rw (c.new.ensures.now, c.new.ensures.base, c.none.ensures.created, c.none.ensures.now, c.none.ensures.base, c.none-2.ensures.base) (none-fit, none-fit, z, z)
