use Rattle.mdb_fleet_laws.specs.Failover.{winners, pairs, described}
use Rattle.mdb_fleet_laws.proofs.Primaries.{latest}
use Rattle.mdb_fleet_laws.proofs.Following.{fails-over}
use Rattle.mdb_fleet_laws.proofs.laws.earlier_elections_make_no_primary.Goals as goal

pub returns : goal.returns
returns c = λ n events some few small stood. latest n (winners n events) (pairs n events) (described n events) (fails-over n some few events small stood)
