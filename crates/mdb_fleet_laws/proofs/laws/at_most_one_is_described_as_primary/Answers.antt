use Rattle.mdb_failover.specs.Elections.{top}
use Rattle.mdb_failover.proofs.Primaries.{one-primary}
use Rattle.mdb_fleet_laws.specs.Failover.{winners, pairs, described}
use Rattle.mdb_fleet_laws.proofs.Following.{fails-over}
use Rattle.mdb_fleet_laws.proofs.laws.at_most_one_is_described_as_primary.Goals as goal

pub returns : goal.returns
returns c = λ n events some few small stood.
    let f = fails-over n some few events small stood in
    one-primary (winners n events) (top (pairs n events)) (described n events).servers f.ordered f.leads
