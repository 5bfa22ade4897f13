use Rattle.mdb_topology.proofs.DriverOpened.StandsForIt.{all-live}
use Rattle.mdb_topology.proofs.opening_seeds.begin.Goals as goal

pub pool_monitors-requires : goal.pool_monitors-requires
pool_monitors-requires c = λ p. all-live c.args.options.now c.requires _ _ _ c.in_ok-pools.ensures.opened p
